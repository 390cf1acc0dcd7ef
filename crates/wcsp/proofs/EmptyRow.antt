-- The weight looked up for a clause is at most what an assignment that falsifies the clause falsifies in all.
-- Every assignment falsifies the empty clause, so the empty row's weight is a bound for each.
use Prim.Native.Nat.{ℕ, zero, suc, ◌+◌, ◌≤◌}
use native.Mathlib.Omega.{arith}
use mathlib.Core.Path.{◌≡◌, refl, ap, ◌∙◌}
use mathlib.Core.Bool.{Bool, true, false, cond}
use mathlib.Core.List.{List, [], ◌∷◌}
use lib.ListN.{length, replicate}
use Rattle.wcsp.specs.Clause.{falsifies, same}
use Rattle.wcsp.specs.Row.{Row, falsified, weight_of, empty_weight, Absent, nil_absent, cons_absent}
use Rattle.wcsp.specs.Theorems.{EmptyBelow}
use Rattle.wcsp.proofs.Signs.{has-zero}
use Rattle.wcsp.proofs.Lists.{same-eq}

-- the empty clause has no value in any sign
pub falsifies_empty : (p : List ℕ) (n : ℕ) → falsifies p (replicate n 0) ≡ true
unfolding falsifies
falsifies_empty [] n = refl
falsifies_empty (v ∷ p) zero = refl
falsifies_empty (v ∷ p) (suc n) = rw has-zero (falsifies_empty p n)

-- ---- the first row, by whether the assignment falsifies it and by whether it has the signs

pub falsified-cons : (p : List ℕ) (r : Row) (rs : List Row)
    → falsified p (r ∷ rs) ≡ cond (falsifies p r.signs) r.weight 0 + falsified p rs
unfolding falsified
falsified-cons p r rs = refl

pub falsified_yes : (p : List ℕ) (r : Row) (rs : List Row) → falsifies p r.signs ≡ true
    → falsified p (r ∷ rs) ≡ r.weight + falsified p rs
falsified_yes p r rs e = rw (falsified-cons, e)

pub falsified_no : (p : List ℕ) (r : Row) (rs : List Row) → falsifies p r.signs ≡ false → falsified p (r ∷ rs) ≡ falsified p rs
falsified_no p r rs e = rw (falsified-cons, e) (omega arith)

pub weight_of-same : (c : List ℕ) (r : Row) (rs : List Row) → same r.signs c ≡ true → weight_of c (r ∷ rs) ≡ r.weight
unfolding weight_of
weight_of-same c r rs e = rw e

pub weight_of_other : (c : List ℕ) (r : Row) (rs : List Row) → same r.signs c ≡ false → weight_of c (r ∷ rs) ≡ weight_of c rs
unfolding weight_of
weight_of_other c r rs e = rw e

pub weight_of_absent : (c : List ℕ) {rs : List Row} → Absent c rs → weight_of c rs ≡ 0
unfolding weight_of
weight_of_absent c nil_absent = refl
weight_of_absent c (cons_absent {r = r} {rs = rs} e a) = weight_of_other c r rs e ∙ weight_of_absent c a

-- ---- the bound

pub weight_of-le-falsified : (c p : List ℕ) (rs : List Row) → falsifies p c ≡ true → weight_of c rs ≤ falsified p rs
unfolding weight_of
weight_of-le-falsified c p [] f = omega arith
weight_of-le-falsified c p (r ∷ rs) f = go (same r.signs c) refl (weight_of-le-falsified c p rs f)
  where
    go : (b : Bool) → same r.signs c ≡ b → weight_of c rs ≤ falsified p rs → weight_of c (r ∷ rs) ≤ falsified p (r ∷ rs)
    go true e ih =
        let g : falsifies p r.signs ≡ true = ap (falsifies p) (same-eq r.signs c e) ∙ f in
        omega (arith, weight_of-same c r rs e, falsified_yes p r rs g)
    go false e ih = omega (arith, weight_of_other c r rs e, falsified-cons p r rs)

pub empty_below : EmptyBelow
unfolding empty_weight
empty_below ds rs p h = weight_of-le-falsified (replicate (length ds) 0) p rs (falsifies_empty p (length ds))
