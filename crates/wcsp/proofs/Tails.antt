-- The weight of the rows without variables below k: all that is falsified where the rows of the lower buckets are satisfied, the empty row's
-- weight where no value is given, and the same in a wider table.
use Prim.Native.Nat.{ℕ, zero, suc, ◌+◌, ◌<◌, ◌≤◌, suc-le-suc}
use native.Mathlib.Nat.{le_of_suc-le-suc}
use native.Mathlib.Omega.{arith}
use native.Mathlib.Decide.{dec_lt}
use mathlib.Core.Path.{◌≡◌, refl, sym, ap, ap₂, ◌∙◌}
use mathlib.Core.Bool.{Bool, true, false, ◌&&◌, cond}
use mathlib.Core.List.{List, [], ◌∷◌, append-nil}
use lib.ListN.{length, drop, replicate, length-drop}
use lib.Seq.{drop-append-le}
use lib.Dec.{eqb, leb, leb-zero, leb-suc-suc}
use borrow.Author.Tests.{le-leb, lt-leb}
use Rattle.wcsp.specs.Clause.{falsifies, same, bucket}
use Rattle.wcsp.specs.Row.{Row, falsified, weight_of, empty_weight, ValidRows, nil_rows, cons_rows}
use Rattle.wcsp.specs.Rebuild.{falsifies_from, tail_weight}
use Rattle.wcsp.specs.Theorems.{TailOfNone}
use Rattle.wcsp.specs.Widening.{wide, wide_rows, clauses_of, Spanning, cons_spanning}
use Rattle.wcsp.proofs.Lists.{same_refl, same-eq, along_length}
use Rattle.wcsp.proofs.PairSearch.{signs_at, never}
use Rattle.wcsp.proofs.EmptyRow.{weight_of-same, weight_of_other, weight_of_absent}
use Rattle.wcsp.proofs.Buckets.{bucket_empty, falsifies-drop}
use Rattle.wcsp.proofs.WideningClauses.{bucket_zeros, falsifies-wide}

-- ---- the first row

module _ (k : ℕ) (q : List ℕ) (r : Row) (rs : List Row) where
  tail_cons : tail_weight k q (r ∷ rs) ≡ cond (falsifies_from k q r.signs) r.weight 0 + tail_weight k q rs
  unfolding tail_weight
  tail_cons = refl

  pub tail_yes : falsifies_from k q r.signs ≡ true → tail_weight k q (r ∷ rs) ≡ r.weight + tail_weight k q rs
  tail_yes e = rw (tail_cons, e)

  pub tail_no : falsifies_from k q r.signs ≡ false → tail_weight k q (r ∷ rs) ≡ tail_weight k q rs
  tail_no e = rw (tail_cons, e) (omega arith)

module _ (k : ℕ) (q c : List ℕ) where
  -- a clause with a variable below k does not count
  pub from_below : bucket c < k → falsifies_from k q c ≡ false
  unfolding falsifies_from
  from_below h = rw (lt-leb k (bucket c) h)

  pub from_here : k ≤ bucket c → falsifies_from k q c ≡ falsifies q (drop k c)
  unfolding falsifies_from
  from_here h = rw (le-leb k (bucket c) h)

-- ---- where the rows of the lower buckets are satisfied

module _ (k : ℕ) (p q : List ℕ) (agrees : drop k p ≡ q) where
  clause_exact : (c : List ℕ) → (bucket c < k → falsifies p c ≡ false) → falsifies p c ≡ falsifies_from k q c
  clause_exact c h = go (dec_lt (bucket c) k)
    where
      go : Dec (bucket c < k) → falsifies p c ≡ falsifies_from k q c
      go (yes b) = h b ∙ sym (from_below k q c b)
      go (no b) =
          falsifies-drop k p c (omega arith) ∙ ap (λ u. falsifies u (drop k c)) agrees ∙ sym (from_here k q c (omega arith))

  pub tail_exact : (rs : List Row) → ((i : ℕ) → i < length rs → bucket (signs_at rs i) < k → falsifies p (signs_at rs i) ≡ false)
      → falsified p rs ≡ tail_weight k q rs
  unfolding falsified tail_weight
  tail_exact [] h = refl
  tail_exact (r ∷ rs) h =
      ap₂ (λ b w. cond b r.weight 0 + w) (clause_exact r.signs (h 0 (omega arith)))
      (tail_exact rs (λ i l. h (suc i) (suc-le-suc l)))

-- ---- with no value given

module _ (n : ℕ) (c : List ℕ) (long : length c ≡ n) where
  none_empty : same c (replicate n 0) ≡ true → falsifies_from n [] c ≡ true
  unfolding falsifies
  none_empty e =
      let z = same-eq c (replicate n 0) e in
      from_here n [] c (omega (arith, ap bucket z, bucket_zeros n))

  none_other : same c (replicate n 0) ≡ false → falsifies_from n [] c ≡ false
  none_other e = go (dec_lt (bucket c) n)
    where
      go : Dec (bucket c < n) → falsifies_from n [] c ≡ false
      go (yes b) = from_below n [] c b
      go (no b) =
          let z : c ≡ replicate n 0 = bucket_empty c (omega arith) ∙ ap (λ m. replicate m 0) long in
          never (same c (replicate n 0)) (ap (same c) (sym z) ∙ same_refl c) e

none_weight : {ds : List ℕ} {rs : List Row} → ValidRows ds rs → tail_weight (length ds) [] rs ≡ weight_of (replicate (length ds) 0) rs
unfolding tail_weight weight_of
none_weight nil_rows = refl
none_weight {ds} (cons_rows {r = r} {rs = rs} v w a t) = go (same r.signs zeros) refl (none_weight t)
  where
    zeros : List ℕ
    zeros = replicate (length ds) 0

    long : length r.signs ≡ length ds
    long = sym (along_length v)

    go : (b : Bool) → same r.signs zeros ≡ b → tail_weight (length ds) [] rs ≡ weight_of zeros rs
        → tail_weight (length ds) [] (r ∷ rs) ≡ weight_of zeros (r ∷ rs)
    go true e ih =
        let none_left : weight_of zeros rs ≡ 0
        = ap (λ x. weight_of x rs) (sym (same-eq r.signs zeros e)) ∙ weight_of_absent r.signs a in
        omega (arith, tail_yes (length ds) [] r rs (none_empty (length ds) r.signs long e), none_left, weight_of-same zeros r rs e)
    go false e ih =
        tail_no (length ds) [] r rs (none_other (length ds) r.signs long e) ∙ ih ∙ sym (weight_of_other zeros r rs e)

pub tail_of_none : TailOfNone
unfolding empty_weight
tail_of_none ds rs v = none_weight v

-- ---- in a wider table

bucket_from : (k : ℕ) (c : List ℕ) (s : ℕ) → s ≤ length c → leb s (bucket (wide k c)) ≡ leb s (bucket c)
unfolding bucket
bucket_from k c zero h = leb-zero (bucket (wide k c)) ∙ sym (leb-zero (bucket c))
bucket_from k [] (suc s) h = absurd (omega arith)
bucket_from k (S ∷ c) (suc s) h = go (eqb S 0) (bucket_from k c s (le_of_suc-le-suc h))
  where
    go : (b : Bool) → leb s (bucket (wide k c)) ≡ leb s (bucket c)
        → leb (suc s) (cond b (suc (bucket (wide k c))) 0) ≡ leb (suc s) (cond b (suc (bucket c)) 0)
    go true ih = leb-suc-suc s (bucket (wide k c)) ∙ ih ∙ sym (leb-suc-suc s (bucket c))
    go false ih = refl

module _ (k s : ℕ) (q : List ℕ) where
  clause_tail : (c : List ℕ) → length c ≡ s + length q → falsifies_from s q (wide k c) ≡ falsifies_from s q c
  unfolding falsifies_from
  clause_tail c e =
      let l : length (drop s c) ≡ length q = length-drop s c ∙ omega arith in
      ap₂ ◌&&◌ (bucket_from k c s (omega arith))
      (ap (falsifies q) (drop-append-le s c (replicate k 0) (omega arith))
      ∙ ap (λ u. falsifies u (wide k (drop s c))) (sym (append-nil q))
      ∙ falsifies-wide k q [] (drop s c) l)

  pub tail_wide : (rs : List Row) → Spanning (s + length q) (clauses_of rs) → tail_weight s q (wide_rows k rs) ≡ tail_weight s q rs
  unfolding wide_rows tail_weight
  tail_wide [] p = refl
  tail_wide (r ∷ rs) (cons_spanning e p) = rw (clause_tail r.signs e, tail_wide rs p)
