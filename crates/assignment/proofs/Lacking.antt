-- The variables that a table lacks have one value each. No valid row has a sign there, so they never count.
use Prim.Native.Nat.{ℕ, zero, suc, ◌+◌}
use native.Mathlib.Omega.{arith}
use mathlib.Core.Path.{◌≡◌, refl, ap, ap₂, ◌∙◌}
use mathlib.Core.Bool.{◌&&◌, not, cond}
use mathlib.Core.List.{List, [], ◌∷◌, ◌++◌}
use lib.ListN.{length, get_or, drop, replicate}
use lib.Seq.{drop-drop}
use lib.Bits.{bit_and}
use lib.Dec.{eqb}
use Rattle.wcsp.specs.Sign.{full, has}
use Rattle.wcsp.specs.Clause.{ValidClause, nil, cons, bucket, falsifies}
use Rattle.wcsp.specs.Row.{Row, ValidRows, nil_rows, cons_rows}
use Rattle.wcsp.specs.Rebuild.{counts, narrowed}
use Rattle.wcsp.proofs.EmptyRow.{falsifies_empty}

no_signs : (m : ℕ) (c : List ℕ) → ValidClause (replicate m 1) c → c ≡ replicate m 0
unfolding full
no_signs zero (S ∷ c) x'' = elim x'' [ ]
no_signs (suc m) [] x3 = elim x3 [ ]
no_signs zero [] nil = refl
no_signs (suc m) (S ∷ c) (cons h r) = ap₂ ◌∷◌ (omega arith) (no_signs m c r)

-- a valid clause has no sign at the m variables of one value behind the others
lacking_signs : (ds c : List ℕ) (m : ℕ) → ValidClause (ds ++ replicate m 1) c → drop (length ds) c ≡ replicate m 0
lacking_signs [] c m v = no_signs m c v
lacking_signs (d ∷ ds) [] m v = elim v [ ]
lacking_signs (d ∷ ds) (S ∷ c) m (cons h r) = lacking_signs ds c m r

falsifies_zeros : (q c : List ℕ) (m : ℕ) → drop (length q) c ≡ replicate m 0 → falsifies (q ++ replicate m 0) c ≡ falsifies q c
unfolding falsifies
falsifies_zeros [] c m e = ap (falsifies (replicate m 0)) e ∙ falsifies_empty (replicate m 0) m
falsifies_zeros (v ∷ q) [] m e = refl
falsifies_zeros (v ∷ q) (S ∷ c) m e = ap (λ b. not (has S v) && b) (falsifies_zeros q c m e)

module _ (ds : List ℕ) (m k : ℕ) (q : List ℕ) (h : suc k + length q ≡ length ds) where
  counts_zeros : (c : List ℕ) → ValidClause (ds ++ replicate m 1) c → counts k (q ++ replicate m 0) c ≡ counts k q c
  unfolding counts
  counts_zeros c v =
      ap (λ b. eqb (bucket c) k && b)
      (falsifies_zeros q (drop (suc k) c) m
      (drop-drop (length q) (suc k) c ∙ ap (λ n. drop n c) h ∙ lacking_signs ds c m v))

  -- the values there narrow nothing
  pub narrowed_zeros : {rs : List Row} (S : ℕ) → ValidRows (ds ++ replicate m 1) rs → narrowed k (q ++ replicate m 0) S rs ≡ narrowed k q S rs
  unfolding narrowed
  narrowed_zeros S nil_rows = refl
  narrowed_zeros S (cons_rows {r = r} {rs = rs} v w a t) =
      let T = get_or r.signs k 0 in
      ap (λ b. narrowed k (q ++ replicate m 0) (cond b (bit_and S T) S) rs) (counts_zeros r.signs v)
      ∙ narrowed_zeros (cond (counts k q r.signs) (bit_and S T) S) t
