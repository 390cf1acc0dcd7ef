-- Fixed values fit exactly if k is at most n and they are in range from k on; and what the carrying of them answers then.
use Prim.Native.Nat.{ℕ, ◌+◌, ◌<◌, ◌≤◌}
use native.Mathlib.Omega.{arith}
use mathlib.Core.Path.{◌≡◌, ap}
use mathlib.Core.Bool.{true, false}
use mathlib.Core.List.{List}
use lib.ListN.{length, get_or, drop, length-drop}
use lib.Seq.{get_or-drop}
use lib.Dec.{leb}
use borrow.Author.Tests.{le-leb, lt-leb, leb-true}
use Rattle.wcsp.specs.Clause.{InRange}
use Rattle.wcsp.proofs.Lists.{and_left, and_right, ne_true, along_length, along_at}
use Rattle.clause.specs.declared.Clause.{Clause}
use Rattle.clause.specs.Packed.{Holds}
use Rattle.fields.specs.Assignment.{is_assignment}
use Rattle.fields.proofs.Assigning.{in_range_of, assignment_of}
use Rattle.assignment.specs.Chosen.{carried_signs}
use Rattle.std.specs.Prelude as std
use Rattle.std.specs.Prelude.{Some, None}
use Rattle.completion.specs.Calls.{fixed_fit}
use Rattle.completion.specs.Fixed.{Carrying}

module _ (ds : List ℕ) (k : ℕ) (fixed : List ℕ) where
  -- ---- which values fit

  pub fits_of : k ≤ length ds → InRange (drop k ds) fixed → fixed_fit ds k fixed ≡ true
  unfolding fixed_fit
  fits_of l r = rw (le-leb k (length ds) l) (assignment_of r)

  pub of_fits : fixed_fit ds k fixed ≡ true → (k ≤ length ds) × InRange (drop k ds) fixed
  unfolding fixed_fit
  of_fits e = (
    leb-true k (length ds) (and_left (leb k (length ds)) (is_assignment (drop k ds) fixed) e),
    in_range_of (drop k ds) fixed (and_right (leb k (length ds)) (is_assignment (drop k ds) fixed) e),
  )

  pub k_above : length ds < k → fixed_fit ds k fixed ≡ false
  unfolding fixed_fit
  k_above h = rw (lt-leb k (length ds) h)

  -- one value for each variable from k on
  pub one_each : fixed_fit ds k fixed ≡ true → k + length fixed ≡ length ds
  one_each e =
      let (l, r) = of_fits e in
      omega (arith, along_length r, length-drop k ds)

  pub other_number : (k + length fixed ≡ length ds → ⊥) → fixed_fit ds k fixed ≡ false
  other_number h = ne_true (fixed_fit ds k fixed) (λ e. h (one_each e))

  -- a value at or above the size of its variable
  pub too_high : (j : ℕ) → j < length fixed → get_or ds (k + j) 0 ≤ get_or fixed j 0 → fixed_fit ds k fixed ≡ false
  too_high j l h =
      ne_true (fixed_fit ds k fixed)
      (λ e.
      let (m, r) = of_fits e in
      let low : get_or fixed j 0 < get_or (drop k ds) j 0 = along_at r j (omega (arith, along_length r)) in
      omega (arith, low, get_or-drop k ds j 0))

  -- ---- the answer

  pub unfit : fixed_fit ds k fixed ≡ false → Carrying ds k fixed None
  unfit e = record {
    fitting = λ values f. absurd (let z : ◌≡◌ {A = ℕ} 0 1 = cc in omega arith);
    unfitting = λ f. e;
  }

  pub carried : (chosen : Clause) → fixed_fit ds k fixed ≡ true → Holds chosen (carried_signs ds k fixed) → Carrying ds k fixed (Some chosen)
  carried chosen e h = record {
    fitting = λ values f. (e, rw (← ap clause f) h);
    unfitting = λ f. absurd (let z : ◌≡◌ {A = ℕ} 0 1 = cc in omega arith);
  }
    where
      clause : std.Option Clause → Clause
      clause (Some x) = x
      clause None = chosen
