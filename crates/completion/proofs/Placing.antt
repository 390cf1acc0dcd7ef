-- A target with the fixed values put into it: they stand from k on, and what was behind them is kept.
use Prim.Native.Nat.{ℕ, ◌+◌, ◌≤◌}
use native.Mathlib.Nat.{le_refl}
use native.Mathlib.Omega.{arith}
use mathlib.Core.Path.{◌≡◌, sym, ap, ◌∙◌}
use mathlib.Core.List.{List}
use lib.ListN.{length, take, drop}
use lib.Seq.{paste, slice, length-paste, take-paste, drop-paste, length-take-le, drop_at, take-length}

module _ (target : List ℕ) (n k : ℕ) (fixed : List ℕ) (long : k + length fixed ≡ n) (room : n ≤ length target) where
  abbrev put : List ℕ
  put = paste target k fixed (length fixed)

  pub put_length : length put ≡ length target
  put_length = length-paste target k fixed (length fixed) (omega arith) (le_refl (length fixed))

  pub put_values : slice k n put ≡ fixed
  put_values =
      ap (λ m. drop k (take m put)) (sym long)
      ∙ ap (drop k) (take-paste target k fixed (length fixed) (omega arith) (le_refl (length fixed)))
      ∙ drop_at (take k target) (take (length fixed) fixed) k (length-take-le k target (omega arith))
      ∙ take-length fixed

  pub put_rest : drop n put ≡ drop n target
  put_rest =
      ap (λ m. drop m put) (sym long) ∙ drop-paste target k fixed (length fixed) (omega arith) (le_refl (length fixed))
      ∙ ap (λ m. drop m target) long
