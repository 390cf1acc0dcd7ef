-- `metres q` is the nearest whole metre, and the only one, since it is the largest that q reaches; and the most that two points of the field can give.
use Prim.Native.Nat.{ℕ, zero, suc, ◌+◌, ◌-◌, ◌*◌, ◌/◌, ◌≤◌, ◌<◌}
use native.Mathlib.Nat.{mul-le-mul}
use native.Mathlib.Omega.{arith}
use native.Mathlib.Decide.{dec_le}
use mathlib.Core.Path.{◌≡◌, refl}
use mathlib.Core.Bool.{Bool, true, false}
use mathlib.Core.Logic.{inl, inr, ⊎_elim}
use lib.Dec.{leb}
use borrow.Author.Tests.{leb-true, leb-false}
use Rattle.distance.proofs.Estimates.{no_metre}
use Rattle.distance.specs.Metres.{half_beyond, largest_up_to, metres, HalfReached, Nearest, MetresAreNearest, max_offset, max_metres, difference, metres_between}

half_beyond_lem : (m : ℕ) → half_beyond m ≡ 2500 * ((2 * m + 1) * (2 * m + 1))
unfolding half_beyond
half_beyond_lem m = omega arith

not_before : (b q : ℕ) → half_beyond b ≤ q → HalfReached q (suc b)
not_before b q h = let t : 2 * suc b - 1 ≡ 2 * b + 1 = omega arith in inr (rw t (omega (arith, half_beyond_lem b)))

up_to_not_before : (b q : ℕ) → HalfReached q (largest_up_to b q)
unfolding largest_up_to
up_to_not_before zero q = inl refl
up_to_not_before (suc b) q = go (leb (half_beyond b) q) refl (up_to_not_before b q)
  where
    go : (t : Bool) → leb (half_beyond b) q ≡ t → HalfReached q (largest_up_to b q) → HalfReached q (largest_up_to (suc b) q)
    go true e ih = rw e (not_before b q (leb-true (half_beyond b) q e))
    go false e ih = rw e ih

up_to_greatest : (b q m : ℕ) → m < b → half_beyond m ≤ q → m < largest_up_to b q
unfolding largest_up_to
up_to_greatest zero q m h k = h
up_to_greatest (suc b) q m h k = go (leb (half_beyond b) q) refl (dec_le b m) (λ below. up_to_greatest b q m below k)
  where
    go : (t : Bool) → leb (half_beyond b) q ≡ t → Dec (b ≤ m) → (m < b → m < largest_up_to b q) → m < largest_up_to (suc b) q
    go true e d ih = rw e h
    go false e (yes top) ih = let s : m ≡ b = omega arith in absurd (omega (arith, leb-false (half_beyond b) q e, rw s at k))
    go false e (no below) ih = rw e (ih (omega arith))

not-next : (q : ℕ) → q < 2500 * ((2 * metres q + 1) * (2 * metres q + 1))
unfolding metres
not-next q = either (metres q) refl (dec_le (half_beyond (metres q)) q)
  where
    either : (m : ℕ) → m ≡ metres q → Dec (half_beyond m ≤ q) → q < 2500 * ((2 * m + 1) * (2 * m + 1))
    either m e (yes passed) = absurd (omega (arith, e, up_to_greatest (q / 2500) q m (omega (arith, half_beyond_lem m)) passed))
    either m e (no below) = omega (arith, half_beyond_lem m)

-- where q does not reach m + 1, it reaches no number above m
no_larger : (q m k : ℕ) → q < 2500 * ((2 * m + 1) * (2 * m + 1)) → HalfReached q k → k ≤ m
no_larger q m k h r = ⊎_elim (λ none. omega arith) (λ reached. either (omega (arith, reached)) (dec_le k m)) r
  where
    either : 2500 * ((2 * k - 1) * (2 * k - 1)) ≤ q → Dec (k ≤ m) → k ≤ m
    either reached (yes below) = below
    either reached (no above) =
        let s : (2 * m + 1) * (2 * m + 1) ≤ (2 * k - 1) * (2 * k - 1) = mul-le-mul (omega arith) (omega arith) in absurd (omega arith)

is_nearest : (q : ℕ) → Nearest q (metres q)
unfolding metres
is_nearest q = record { not_before = up_to_not_before (q / 2500) q; not_next = omega (arith, not-next q) }

pub metres_are_nearest : MetresAreNearest
metres_are_nearest =
    record {
      holds = is_nearest;
      unique = λ q m l. omega (arith, no_larger q m (metres q) (omega (arith, l)) (is_nearest q).not_before, no_larger q (metres q) m (not-next q) l.not_before);
    }

-- less than half a metre is no metre: what `root` answers without an estimate
pub none_metres : (q n : ℕ) → n ≡ q / 2500 → n ≡ 0 → (0 ≡ metres q) × Nearest q 0
none_metres q n e z = let l = no_metre q (omega arith) in (metres_are_nearest.unique q 0 l, l)

-- ---- how far two points of the field can lie apart

pub square_bounded : (a : ℕ) → a ≤ max_offset → a * a ≤ max_offset * max_offset
square_bounded a h = mul-le-mul h h

pub metres_bound : (a b : ℕ) → a ≤ max_offset → b ≤ max_offset → metres (a * a + b * b) ≤ max_metres
metres_bound a b ha hb =
    no_larger (a * a + b * b) max_metres _ (omega (arith, square_bounded a ha, square_bounded b hb)) (is_nearest (a * a + b * b)).not_before

pub between_bound : (e n e' n' : ℕ) → e ≤ max_offset → n ≤ max_offset → e' ≤ max_offset → n' ≤ max_offset → metres_between e n e' n' ≤ max_metres
unfolding metres_between
between_bound e n e' n' he hn he' hn' = metres_bound (difference e e') (difference n n') (omega arith) (omega arith)
