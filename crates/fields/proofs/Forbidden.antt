-- An assignment with no forbidden combination costs at most 4,096 ordinary costs, which a forbidden entry is above; any other costs at least that entry.
use Prim.Native.Nat.{ℕ, suc, ◌+◌, ◌*◌, ◌≤◌}
use native.Mathlib.Omega.{arith}
use mathlib.Core.Path.{◌≡◌, refl, sym, ◌∙◌}
use mathlib.Core.Logic.{◌↔◌, ⊎_elim}
use mathlib.Core.Bool.{Bool, true, false, ◌&&◌, ◌||◌, cond}
use mathlib.Core.List.{List, [], ◌∷◌, ◌++◌}
use lib.ListN.{length}
use lib.Dec.{eqb, leb}
use borrow.Author.Tests.{eqb-true, eqb-false, ne_eqb, le-leb, lt-leb, leb-true, leb-false}
use Rattle.wcsp.specs.Clause.{InRange}
use Rattle.wcsp.specs.Entry.{Binding, Entry, matches, cost}
use Rattle.words.specs.Layout.{kind_of, payload_of, variable_in, value_in}
use Rattle.fields.specs.Limits.{max_cost, greatest_allowed, forbidden_cost}
use Rattle.fields.specs.Entries.{Each, nil_each, cons_each, EntryCost, Priced, Entries, closes_entry, cost_of, entries_from}
use Rattle.fields.specs.Forbidden.{has_forbidden, has_forbidden_from, ForbiddenIsDear, BoundForbids, OverDrain}

-- what the cost tells, as long as the entries are few
abbrev Told : Bool → ℕ → ℕ → Type 0
Told b c n = cond b (forbidden_cost ≤ c) (c ≤ max_cost * n)

told : (es : List Entry) (p : List ℕ) → Priced es → Told (has_forbidden es p) (cost es p) (length es)
unfolding has_forbidden cost
told [] p nil_each = omega arith
told (e ∷ es) p (cons_each h r) = go (eqb e.cost forbidden_cost) (matches p e.bindings) (has_forbidden es p) refl h (told es p r)
  where
    go : (f m b : Bool) → eqb e.cost forbidden_cost ≡ f → EntryCost e.cost → Told b (cost es p) (length es)
        → Told ((f && m) || b) (cond m e.cost 0 + cost es p) (suc (length es))
    go true true b q l t = let s = eqb-true e.cost forbidden_cost q in omega arith
    go true false true q l t = omega arith
    go true false false q l t = omega arith
    go false m true q l t = omega arith
    go false true false q l t =
        let n = eqb-false e.cost forbidden_cost q in
        let s : e.cost ≤ max_cost = ⊎_elim (λ low. low) (λ same. absurd (n same)) l in
        omega arith
    go false false false q l t = omega arith

pub forbidden_is_dear : ForbiddenIsDear
forbidden_is_dear ds before es a p = go (has_forbidden es p) (told es p a.costs)
  where
    go : (b : Bool) → Told b (cost es p) (length es) → leb forbidden_cost (cost es p) ≡ b
    go true t = le-leb forbidden_cost (cost es p) t
    go false t = let n = a.number in lt-leb forbidden_cost (cost es p) (omega arith)

-- so an assignment without a forbidden combination costs at most what is allowed
pub allowed_costs : {ds : List ℕ} {before : ℕ} {es : List Entry} → Entries ds before es → (p : List ℕ) → has_forbidden es p ≡ false
    → cost es p ≤ greatest_allowed
allowed_costs {ds} {before} {es} a p f = omega (arith, leb-false forbidden_cost (cost es p) (forbidden_is_dear ds before es a p ∙ f))

-- a bound that none of the assignments with a property undercuts
bound_forbids_lem : {ds : List ℕ} {before : ℕ} {es : List Entry} → Entries ds before es → (P : List ℕ → Type 0) (b : ℕ)
    → ((p : List ℕ) → P p → b ≤ cost es p) → forbidden_cost ≤ b → (p : List ℕ) → P p → has_forbidden es p ≡ true
bound_forbids_lem {ds} {before} {es} a P b below h p r = sym (forbidden_is_dear ds before es a p) ∙ le-leb forbidden_cost (cost es p) (omega (arith, below p r))

pub bound_forbids : BoundForbids
bound_forbids ds before es a b h below = bound_forbids_lem a (InRange ds) b below h

-- and that one of them, q, has: it is the least of their costs
pub least_forbids : {ds : List ℕ} {before : ℕ} {es : List Entry} → Entries ds before es → (P : List ℕ → Type 0) (m : ℕ) (q : List ℕ)
    → P q → cost es q ≡ m → ((p : List ℕ) → P p → m ≤ cost es p) → (forbidden_cost ≤ m) ↔ ((p : List ℕ) → P p → has_forbidden es p ≡ true)
least_forbids {ds} {before} {es} a P m q r e below = (
  bound_forbids_lem a P m below,
  λ all. omega (arith, e, leb-true forbidden_cost (cost es q) (forbidden_is_dear ds before es a q ∙ all q r)),
)

-- a cost word's cost is within the limit
abbrev pub CostWithin : ℕ → Type 0
CostWithin w = kind_of w ≡ 4 → payload_of w ≤ max_cost

-- so by words as by the entries that they mean
pub forbidden_from : (bs : List Binding) (ws p : List ℕ) → Each CostWithin ws → has_forbidden (entries_from bs ws) p ≡ has_forbidden_from bs ws p
unfolding entries_from closes_entry cost_of has_forbidden has_forbidden_from
forbidden_from bs [] p nil_each = refl
forbidden_from bs (w ∷ ws) p (cons_each h r) =
    go (eqb (kind_of w) 3) (eqb (kind_of w) 4) (eqb (kind_of w) 11) (λ e. h (eqb-true (kind_of w) 4 e)) (λ cs. forbidden_from cs ws p r)
  where
    b : Binding
    b = record { variable = variable_in w; value = value_in w }

    go : (x y z : Bool) → (y ≡ true → payload_of w ≤ max_cost)
        → ((cs : List Binding) → has_forbidden (entries_from cs ws) p ≡ has_forbidden_from cs ws p)
        → has_forbidden
        (cond x (entries_from (bs ++ (b ∷ [])) ws)
        (cond (y || z) (record { bindings = bs; cost = cond y (payload_of w) (cond z forbidden_cost 0) } ∷ entries_from [] ws) (entries_from bs ws))) p
        ≡ cond x (has_forbidden_from (bs ++ (b ∷ [])) ws p)
        (cond y (has_forbidden_from [] ws p) (cond z (matches p bs || has_forbidden_from [] ws p) (has_forbidden_from bs ws p)))
    go true y z l ih = ih (bs ++ (b ∷ []))
    go false true z l ih =
        let n = l refl in
        rw (ne_eqb (payload_of w) forbidden_cost (λ (e : payload_of w ≡ forbidden_cost). omega arith)) (ih [])
    go false false true l ih = rw (ih [])
    go false false false l ih = ih bs

pub over_drain : OverDrain
unfolding has_forbidden matches cost entries_from closes_entry cost_of
over_drain = record { there = refl; beside = refl; dear = refl }
