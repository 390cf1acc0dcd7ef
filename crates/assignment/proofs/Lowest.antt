-- The lowest value of a sign by trailing zeros: both go through the digits from the lowest, and stop at the first that is set.
use Prim.Native.Nat.{ℕ, zero, suc, ◌/◌, ◌%◌, ◌<◌, ◌≤◌}
use native.Mathlib.Nat.{le_of_suc-le-suc}
use native.Mathlib.Omega.{arith}
use mathlib.Core.Path.{◌≡◌, refl, ap}
use mathlib.Core.Bool.{cond}
use lib.Count.{under, count_trailing_zeros}
use lib.Dec.{eqb}
use Rattle.wcsp.specs.Sign.{lowest}

-- a sign that has one of its first d values, of k digits in all
pub trailing_lowest : (d k S : ℕ) → d ≤ k → lowest d S < d → count_trailing_zeros k S ≡ lowest d S
unfolding count_trailing_zeros lowest
trailing_lowest zero k S l h = absurd (omega arith)
trailing_lowest (suc d) zero S l h = absurd (omega arith)
trailing_lowest (suc d) (suc k) S l h = go (S % 2) refl h (λ m. trailing_lowest d k (S / 2) (le_of_suc-le-suc l) m)
  where
    go : (a : ℕ) → S % 2 ≡ a → cond (eqb a 1) 0 (suc (lowest d (S / 2))) < suc d
        → (lowest d (S / 2) < d → count_trailing_zeros k (S / 2) ≡ lowest d (S / 2))
        → under a (count_trailing_zeros k (S / 2)) ≡ cond (eqb a 1) 0 (suc (lowest d (S / 2)))
    go zero e m r = ap suc (r (le_of_suc-le-suc m))
    go (suc zero) e m r = refl
    go (suc (suc a)) e m r = absurd (omega arith)
