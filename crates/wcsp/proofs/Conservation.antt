-- A step conserves the falsified weight of every assignment: the linear law with the clauses that the assignment falsifies counted,
-- of which, by the rule's soundness, the conclusions have as many as the premises. So does any list of permitted pairs.
use Prim.Native.Nat.{ℕ, ◌+◌, ◌*◌, ◌<◌}
use mathlib.Core.Path.{◌≡◌, refl, ap, ◌∙◌}
use mathlib.Core.List.{List, [], ◌∷◌}
use native.Mathlib.Omega.{arith}
use lib.ListN.{length, get_or}
use Rattle.wcsp.specs.Clause.{InRange, ValidClause}
use Rattle.wcsp.specs.Rule.{conclusions}
use Rattle.wcsp.specs.Resolve.{no_row, moved_weight, resolve, stop, step}
use Rattle.wcsp.specs.Bound.{total}
use Rattle.wcsp.specs.Theorems.{Conservation, Conserved, ReplayConserves}
use Rattle.wcsp.proofs.Linear.{linear}
use Rattle.wcsp.proofs.Validity.{valid_signs_lem, step_valid}
use Rattle.wcsp.proofs.Falsified.{hit, falsified-weighted, count_total, tautology-hit}
use Rattle.wcsp.proofs.Soundness.{soundness}

-- the conclusions are falsified as often as the premises
pub hits_kept : (s : ℕ) {ds x y p : List ℕ} → ValidClause ds x → ValidClause ds y → InRange ds p
    → total (hit p) (conclusions ds s x y) ≡ hit p x + hit p y
unfolding total
hits_kept s {ds} {x} {y} {p} v w r =
    omega
    (arith, count_total p (conclusions ds s x y), soundness ds s x y p v w r, count_total p (x ∷ y ∷ []))

pub conservation : Conservation
conservation ds rs pr p v m r =
    let h : pr.first < length rs = omega (arith, m.ordered, m.in_table) in
    let x : List ℕ = (get_or rs pr.first no_row).signs in
    let y : List ℕ = (get_or rs pr.second no_row).signs in
    let k : total (hit p) (conclusions ds pr.variable x y) ≡ hit p x + hit p y =
    hits_kept pr.variable (valid_signs_lem pr.first v h) (valid_signs_lem pr.second v m.in_table) r
    in
    omega (
      arith,
      falsified-weighted p (resolve ds pr rs),
      falsified-weighted p rs,
      linear ds rs pr (hit p) (tautology-hit r) m.ordered m.in_table,
      ap (λ n. moved_weight pr rs * n) k,
    )

pub replay_conserves : ReplayConserves
replay_conserves ds rs rs' prs v stop = record { valid = v; weights = λ p r. refl }
replay_conserves ds rs rs' prs v (step {prs = qs} pr m t) =
    let later : Conserved ds (resolve ds pr rs) rs' = replay_conserves ds (resolve ds pr rs) rs' qs (step_valid ds rs pr v m) t in
    record { valid = later.valid; weights = λ p r. later.weights p r ∙ conservation ds rs pr p v m r }
