-- The assignment rebuilt from widened rows over given values, those of the further variables among them, is as before.
use Prim.Native.Nat.{ℕ, zero, suc, ◌+◌}
use native.Mathlib.Omega.{arith}
use mathlib.Core.Path.{◌≡◌, refl, ap, ap₂, ◌∙◌}
use mathlib.Core.Bool.{cond}
use mathlib.Core.List.{List, [], ◌∷◌}
use lib.ListN.{length, get_or, take, drop, replicate, length-drop, get_or-append}
use lib.Seq.{take_at, drop-append-le}
use lib.Bits.{bit_and}
use Rattle.wcsp.specs.Sign.{full}
use Rattle.wcsp.specs.Row.{Row}
use Rattle.wcsp.specs.Rebuild.{counts, narrowed, rebuilt_value, rebuilt_over}
use Rattle.wcsp.specs.Widening.{widened, wide, wide_values, wide_rows, clauses_of, Spanning, cons_spanning}
use Rattle.wcsp.proofs.WideningClauses.{get_d_wide, bucket-wide, falsifies-wide}

pub rebuilt-length : (ds : List ℕ) (rs : List Row) (s : ℕ) (q : List ℕ) → length (rebuilt_over ds rs s q) ≡ s + length q
unfolding rebuilt_over
rebuilt-length ds rs zero q = omega arith
rebuilt-length ds rs (suc s) q = rebuilt-length ds rs s (rebuilt_value ds rs s q ∷ q) ∙ omega arith

module _ (k : ℕ) (ds : List ℕ) where
  counts-wide : (s : ℕ) (q c : List ℕ) → length c ≡ length ds → length q + suc s ≡ length ds
      → counts s (wide_values k q) (wide k c) ≡ counts s q c
  unfolding counts
  counts-wide s q c e h =
      rw (
        bucket-wide k c s (omega arith),
        drop-append-le (suc s) c (replicate k 0) (omega arith),
        falsifies-wide k q (replicate k 0) (drop (suc s) c) (length-drop (suc s) c ∙ omega arith),
      )

  narrowed-wide : (s : ℕ) (q : List ℕ) → length q + suc s ≡ length ds → (S : ℕ) (rs : List Row) → Spanning (length ds) (clauses_of rs)
      → narrowed s (wide_values k q) S (wide_rows k rs) ≡ narrowed s q S rs
  unfolding wide_rows narrowed
  narrowed-wide s q h S [] p = refl
  narrowed-wide s q h S (r ∷ rs) (cons_spanning e p) =
      ap₂ (λ b T. narrowed s (wide_values k q) (cond b (bit_and S T) S) (wide_rows k rs)) (counts-wide s q r.signs e h)
      (get_d_wide k r.signs s)
      ∙ narrowed-wide s q h (cond (counts s q r.signs) (bit_and S (get_or r.signs s 0)) S) rs p

  value_wide : (s : ℕ) (q : List ℕ) (rs : List Row) → Spanning (length ds) (clauses_of rs) → length q + suc s ≡ length ds
      → rebuilt_value (widened k ds) (wide_rows k rs) s (wide_values k q) ≡ rebuilt_value ds rs s q
  unfolding rebuilt_value
  value_wide s q rs p h =
      rw (get_or-append ds (replicate k 1) 0 s (omega arith), narrowed-wide s q h (full (get_or ds s 0)) rs p)

  over_wide : (s : ℕ) (q : List ℕ) (rs : List Row) → Spanning (length ds) (clauses_of rs) → length q + s ≡ length ds
      → rebuilt_over (widened k ds) (wide_rows k rs) s (wide_values k q) ≡ wide_values k (rebuilt_over ds rs s q)
  unfolding rebuilt_over
  over_wide zero q rs p h = refl
  over_wide (suc s) q rs p h = rw (value_wide s q rs p h) (over_wide s (rebuilt_value ds rs s q ∷ q) rs p (omega arith))

  pub over_own : (s : ℕ) (q : List ℕ) (rs : List Row) → Spanning (length ds) (clauses_of rs) → s + length q ≡ length ds
      → take (length ds) (rebuilt_over (widened k ds) (wide_rows k rs) s (wide_values k q)) ≡ rebuilt_over ds rs s q
  over_own s q rs p h =
      ap (take (length ds)) (over_wide s q rs p (omega arith))
      ∙ take_at (rebuilt_over ds rs s q) (replicate k 0) (length ds) (rebuilt-length ds rs s q ∙ h)
