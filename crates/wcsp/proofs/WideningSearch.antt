-- The next pair and the permitted pairs of widened rows: on a variable of the field's own the tests are as before, and on a further
-- one no two clauses may be resolved.
use Prim.Native.Nat.{ℕ, zero, suc, ◌+◌, ◌<◌, ◌≤◌}
use native.Mathlib.Nat.{suc-add}
use native.Mathlib.Omega.{arith}
use native.Mathlib.Decide.{dec_lt}
use mathlib.Core.Path.{◌≡◌, refl, sym, ap, ◌∙◌}
use mathlib.Core.Bool.{true, false, ◌&&◌, and-false, true≢false}
use mathlib.Core.List.{List, [], ◌∷◌}
use mathlib.Core.Option.{none}
use lib.ListN.{length, get_or, replicate, length-append, length-replicate}
use lib.Dec.{eqb}
use Rattle.wcsp.specs.Clause.{bucket}
use Rattle.wcsp.specs.Row.{Row}
use Rattle.wcsp.specs.Rule.{permitted}
use Rattle.wcsp.specs.Resolve.{Pair, no_row, candidate, partner, pair_in, pair_from, next_pair, MayResolve}
use Rattle.wcsp.specs.Widening.{widened, wide, wide_rows, clauses_of, Spanning, cons_spanning}
use Rattle.wcsp.proofs.PairSearch.{partner_later, pair_in_later, pair_from_later}
use Rattle.wcsp.proofs.WideningClauses.{wide_permitted, none_permitted, bucket-wide}
use Rattle.wcsp.proofs.WideningRows.{length-wide, row_signs, spanning_at}

pub widened-length : (k : ℕ) (ds : List ℕ) → length (widened k ds) ≡ length ds + k
widened-length k ds = length-append ds (replicate k 1) ∙ ap (λ n. length ds + n) (length-replicate k 1)

-- ---- past the last variable of the field's own nothing is found

candidate_past : (ds : List ℕ) (s : ℕ) (x y : List ℕ) → length x ≤ s → candidate ds s x y ≡ false
unfolding candidate
candidate_past ds s x y h = rw (none_permitted ds s x y h) (and-false (eqb (bucket x) s && eqb (bucket y) s))

partner_past : (ds : List ℕ) (s : ℕ) (x : List ℕ) (j : ℕ) (rs : List Row) → length x ≤ s → partner ds s x j rs ≡ none
unfolding partner
partner_past ds s x j [] h = refl
partner_past ds s x j (r ∷ rs) h =
    partner_later ds s x j r rs (candidate_past ds s x r.signs h) ∙ partner_past ds s x (suc j) rs h

pair_in_past : (ds : List ℕ) (s i : ℕ) (rs : List Row) → Spanning (length ds) (clauses_of rs) → length ds ≤ s → pair_in ds s i rs ≡ none
unfolding pair_in
pair_in_past ds s i [] p h = refl
pair_in_past ds s i (r ∷ rs) (cons_spanning e p) h =
    pair_in_later ds s i r rs (partner_past ds s r.signs (suc i) rs (omega arith)) ∙ pair_in_past ds s (suc i) rs p h

pair_from_past : (ds : List ℕ) (m s : ℕ) (rs : List Row) → Spanning (length ds) (clauses_of rs) → length ds ≤ s → pair_from ds m s rs ≡ none
unfolding pair_from
pair_from_past ds zero s rs p h = refl
pair_from_past ds (suc m) s rs p h =
    pair_from_later ds rs m s (pair_in_past ds s 0 rs p h) ∙ pair_from_past ds m (suc s) rs p (omega arith)

-- so further variables change nothing
pair_from_more : (k : ℕ) (ds : List ℕ) (m s : ℕ) (rs : List Row) → Spanning (length ds) (clauses_of rs) → length ds ≤ s + m
    → pair_from ds (m + k) s rs ≡ pair_from ds m s rs
unfolding pair_from
pair_from_more k ds zero s rs p h = pair_from_past ds (0 + k) s rs p (omega arith)
pair_from_more k ds (suc m) s rs p h = rw (suc-add m k, pair_from_more k ds m (suc s) rs p (omega arith))

-- ---- the search

module _ (k : ℕ) (ds : List ℕ) where
  candidate-wide : (s : ℕ) (x y : List ℕ) → length x ≡ length ds → length y ≡ length ds
      → candidate (widened k ds) s (wide k x) (wide k y) ≡ candidate ds s x y
  unfolding candidate
  candidate-wide s x y h l = rw (wide_permitted k ds s x y h l) (go (dec_lt s (length ds)))
    where
      go : Dec (s < length ds) → (eqb (bucket (wide k x)) s && eqb (bucket (wide k y)) s && permitted ds s x y)
          ≡ (eqb (bucket x) s && eqb (bucket y) s && permitted ds s x y)
      go (yes m) = rw (bucket-wide k x s (omega arith), bucket-wide k y s (omega arith))
      go (no m) = rw (none_permitted ds s x y (omega arith))
          (and-false (eqb (bucket (wide k x)) s && eqb (bucket (wide k y)) s)
          ∙ sym (and-false (eqb (bucket x) s && eqb (bucket y) s)))

  partner-wide : (s : ℕ) (x : List ℕ) → length x ≡ length ds → (j : ℕ) (rs : List Row) → Spanning (length ds) (clauses_of rs)
      → partner (widened k ds) s (wide k x) j (wide_rows k rs) ≡ partner ds s x j rs
  unfolding wide_rows partner
  partner-wide s x h j [] p = refl
  partner-wide s x h j (r ∷ rs) (cons_spanning e p) =
      rw (candidate-wide s x r.signs h e, partner-wide s x h (suc j) rs p)

  pair_in-wide : (s i : ℕ) (rs : List Row) → Spanning (length ds) (clauses_of rs)
      → pair_in (widened k ds) s i (wide_rows k rs) ≡ pair_in ds s i rs
  unfolding wide_rows pair_in
  pair_in-wide s i [] p = refl
  pair_in-wide s i (r ∷ rs) (cons_spanning e p) =
      rw (partner-wide s r.signs e (suc i) rs p, pair_in-wide s (suc i) rs p)

  pair_from-wide : (m s : ℕ) (rs : List Row) → Spanning (length ds) (clauses_of rs)
      → pair_from (widened k ds) m s (wide_rows k rs) ≡ pair_from ds m s rs
  unfolding pair_from
  pair_from-wide zero s rs p = refl
  pair_from-wide (suc m) s rs p = rw (pair_in-wide s 0 rs p, pair_from-wide m (suc s) rs p)

  pub next-wide : (rs : List Row) → Spanning (length ds) (clauses_of rs) → next_pair (widened k ds) (wide_rows k rs) ≡ next_pair ds rs
  unfolding next_pair
  next-wide rs p =
      pair_from-wide (length (widened k ds)) 0 rs p ∙ ap (λ m. pair_from ds m 0 rs) (widened-length k ds)
      ∙ pair_from_more k ds (length ds) 0 rs p (omega arith)

  -- ---- the permitted pairs

  pub may_wide : (rs : List Row) → Spanning (length ds) (clauses_of rs) → (pr : Pair) → MayResolve ds rs pr
      → MayResolve (widened k ds) (wide_rows k rs) pr
  may_wide rs p pr q =
      let h : pr.first < length rs = omega (arith, q.ordered, q.in_table) in
      record {
        ordered = q.ordered;
        in_table = omega (arith, length-wide k rs, q.in_table);
        known = omega (arith, widened-length k ds, q.known);
        may = rw (row_signs k rs pr.first h, row_signs k rs pr.second q.in_table)
            (wide_permitted k ds pr.variable (get_or rs pr.first no_row).signs (get_or rs pr.second no_row).signs
            (spanning_at rs p pr.first h) (spanning_at rs p pr.second q.in_table) ∙ q.may);
      }

  pub may_narrow : (rs : List Row) → Spanning (length ds) (clauses_of rs) → (pr : Pair) → MayResolve (widened k ds) (wide_rows k rs) pr
      → MayResolve ds rs pr
  may_narrow rs p pr q = record { ordered = q.ordered; in_table = l; known = go (dec_lt pr.variable (length ds)); may = may }
    where
      l : pr.second < length rs
      l = omega (arith, length-wide k rs, q.in_table)

      h : pr.first < length rs
      h = omega (arith, l, q.ordered)

      x : List ℕ
      x = (get_or rs pr.first no_row).signs

      y : List ℕ
      y = (get_or rs pr.second no_row).signs

      may : permitted ds pr.variable x y ≡ true
      may =
          sym (wide_permitted k ds pr.variable x y (spanning_at rs p pr.first h) (spanning_at rs p pr.second l))
          ∙ (rw (row_signs k rs pr.first h, row_signs k rs pr.second l) at q.may)

      go : Dec (pr.variable < length ds) → pr.variable < length ds
      go (yes m) = m
      go (no m) = absurd
          (true≢false (sym may ∙ none_permitted ds pr.variable x y (omega (arith, spanning_at rs p pr.first h))))
