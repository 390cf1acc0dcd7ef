-- The greatest cost: no assignment of a field's entries costs more than 4,096 forbidden entries.
use Prim.Native.Nat.{ℕ, suc, ◌+◌, ◌*◌, ◌≤◌}
use native.Mathlib.Omega.{arith}
use mathlib.Core.Logic.{⊎_elim}
use mathlib.Core.Bool.{Bool, true, false, cond}
use mathlib.Core.List.{List, [], ◌∷◌}
use lib.ListN.{length}
use Rattle.wcsp.specs.Entry.{Entry, matches, cost}
use Rattle.fields.specs.Limits.{forbidden_cost, greatest_cost}
use Rattle.fields.specs.Entries.{nil_each, cons_each, EntryCost, Priced, Entries, CostsBounded}

pub priced_bounded : (c : ℕ) → EntryCost c → c ≤ forbidden_cost
priced_bounded c = ⊎_elim (λ h. omega arith) (λ h. omega arith)

cost_bounded : (es : List Entry) (p : List ℕ) → Priced es → cost es p ≤ forbidden_cost * length es
unfolding cost
cost_bounded [] p nil_each = omega arith
cost_bounded (e ∷ es) p (cons_each h r) = go (matches p e.bindings) (cost_bounded es p r) (priced_bounded e.cost h)
  where
    go : (b : Bool) → cost es p ≤ forbidden_cost * length es → e.cost ≤ forbidden_cost → cond b e.cost 0 + cost es p ≤ forbidden_cost * suc (length es)
    go true ih l = omega arith
    go false ih l = omega arith

pub entries_costs : {ds : List ℕ} {before : ℕ} {es : List Entry} → Entries ds before es → (p : List ℕ) → cost es p ≤ greatest_cost
entries_costs {es = es} a p = let n = a.number in omega (arith, cost_bounded es p a.costs)

pub costs_bounded : CostsBounded
costs_bounded ds before es a p = entries_costs a p
