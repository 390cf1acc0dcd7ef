-- Every valid clause is falsified by some assignment in range: at each variable some value lies outside the sign.
-- So every row's weight is at most what some assignment falsifies in all.
use Prim.Native.Nat.{ℕ, zero, suc, ◌<◌, ◌≤◌}
use native.Mathlib.Nat.{le_of_suc-le-suc}
use native.Mathlib.Omega.{arith}
use mathlib.Core.Path.{◌≡◌, refl}
use mathlib.Core.Bool.{true}
use mathlib.Core.List.{List, [], ◌∷◌}
use lib.ListN.{length, get_or}
use Rattle.wcsp.specs.Clause.{InRange, ValidClause, nil, cons, falsifies}
use Rattle.wcsp.specs.Row.{Row, falsified}
use Rattle.wcsp.specs.Resolve.{no_row}
use Rattle.wcsp.specs.Theorems.{WeightsWitnessed}
use Rattle.wcsp.proofs.Signs.{outside}
use Rattle.wcsp.proofs.EmptyRow.{falsified-cons, falsified_yes}
use Rattle.wcsp.proofs.Validity.{valid_signs_lem}

-- an assignment in range that falsifies the clause
pub record FalsifiedBy (ds c : List ℕ) : Type 0 where
  pub assignment : List ℕ
  pub in_range : InRange ds assignment
  pub falsifying : falsifies assignment c ≡ true

pub falsifiable : {ds c : List ℕ} → ValidClause ds c → FalsifiedBy ds c
unfolding falsifies
falsifiable nil = record { assignment = []; in_range = nil; falsifying = refl }
falsifiable (cons {a = d} {b = S} h t) =
    let (v, l, e) = outside d S h in
    let rest = falsifiable t in
    record { assignment = v ∷ rest.assignment; in_range = cons l rest.in_range; falsifying = rw e rest.falsifying }

-- a row that the assignment falsifies is part of what it falsifies in all
pub weight_le-falsified : (p : List ℕ) (rs : List Row) (i : ℕ) → i < length rs → falsifies p (get_or rs i no_row).signs ≡ true
    → (get_or rs i no_row).weight ≤ falsified p rs
weight_le-falsified p [] i h f = absurd (omega arith)
weight_le-falsified p (r ∷ rs) zero h f = omega (arith, falsified_yes p r rs f)
weight_le-falsified p (r ∷ rs) (suc i) h f =
    omega (arith, falsified-cons p r rs, weight_le-falsified p rs i (le_of_suc-le-suc h) f)

pub weights_witnessed : WeightsWitnessed
weights_witnessed ds rs i v h =
    let w = falsifiable (valid_signs_lem i v h) in
    record {
      assignment = w.assignment;
      in_range = w.in_range;
      at_least = weight_le-falsified w.assignment rs i h w.falsifying;
    }
