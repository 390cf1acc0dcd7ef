-- The sum of the weights row by row: each law takes the answers of a turn's calls. A row counts if it has no variable below k and has nothing in
-- common with the clause that carries the fixed values.
use Prim.Native.Nat.{ℕ, suc, ◌+◌, ◌*◌, ◌<◌, ◌≤◌}
use native.Mathlib.Numerals.{add-one}
use native.Mathlib.Omega.{arith}
use mathlib.Core.Path.{◌≡◌, refl, sym, ap, ◌∙◌}
use mathlib.Core.Bool.{Bool, true, false, cond}
use mathlib.Core.List.{List, ◌∷◌}
use lib.ListN.{length, get_or, drop, drop_of_length-le}
use lib.Seq.{drop-cons}
use lib.Dec.{ltb}
use borrow.Author.Tests.{lt-ltb, le-ltb, ltb-true, ltb-false}
use Rattle.wcsp.specs.Clause.{bucket}
use Rattle.wcsp.specs.Row.{Row}
use Rattle.wcsp.specs.Resolve.{no_row}
use Rattle.wcsp.specs.Rebuild.{falsifies_from, tail_weight}
use Rattle.wcsp.proofs.Tails.{tail_yes, tail_no, from_below, from_here}
use Rattle.clause.specs.declared.Clause.{Clause}
use Rattle.clause.specs.Packed.{signs_of}
use Rattle.rows.specs.Raw.{row_width, max_weight, raw_at, weight_in, clause_in}
use Rattle.table.proofs.RawRows.{length-rows_from, weight_at_lem}
use Rattle.hunt.proofs.TableRows.{rows_in, in_rows, signs_read}
use Rattle.assignment.specs.Chosen.{disjoint, Carries}
use Rattle.assignment.proofs.Disjoint.{disjoint-falsifies}
use Rattle.std.specs.Prelude as std
use Rattle.std.specs.Prelude.{Some, None}
use Rattle.completion.specs.Limited.{limited_sum}

pub sum_low : (m : ℕ) → m ≤ max_weight → limited_sum m ≡ Some m
unfolding limited_sum
sum_low m h = rw (le-ltb max_weight m h)

pub sum_high : (m : ℕ) → max_weight < m → limited_sum m ≡ None
unfolding limited_sum
sum_high m h = rw (lt-ltb max_weight m h)

tail_none : (k : ℕ) (q : List ℕ) (rs : List Row) (i : ℕ) → length rs ≤ i → tail_weight k q (drop i rs) ≡ 0
unfolding tail_weight
tail_none k q rs i h = rw (drop_of_length-le rs h)

module _ (t : List ℕ) (base count k : ℕ) (values : Clause) where
  -- P holds of all values that the clause carries
  abbrev pub Over : (List ℕ → Type 0) → Type 0
  Over P = (q : List ℕ) → Carries (signs_of values) k q → P q

  -- the sum is that of the rows before i, and no higher than the greatest weight
  pub record Sum (i sum : ℕ) : Type 0 where
    pub low : sum ≤ max_weight
    pub whole : Over (λ q. sum + tail_weight k q (drop i (rows_in t base count)) ≡ tail_weight k q (rows_in t base count))

  pub no_row_lem : Sum 0 0
  no_row_lem = record { low = omega arith; whole = λ q c. omega arith }

  module _ (i sum : ℕ) (s : Sum i sum) (h : i < count) (x : Clause) (e : x ≡ clause_in (raw_at t (base + row_width * i)))
      (low : ℕ) (l : low ≡ bucket (signs_of x)) where
    abbrev row : Row
    row = get_or (rows_in t base count) i no_row

    abbrev rest : List Row
    rest = drop (suc i) (rows_in t base count)

    here : drop i (rows_in t base count) ≡ row ∷ rest
    here = drop-cons (rows_in t base count) i no_row (in_rows t base count i h)

    read : row.signs ≡ signs_of x
    read = signs_read t base count i h x e

    passed : Over (λ q. falsifies_from k q (signs_of x) ≡ false) → Sum (i + 1) sum
    passed n =
        record {
          low = s.low;
          whole = λ q c. rw add-one (ap (λ m. sum + m) (sym (ap (tail_weight k q) here ∙ tail_no k q row rest (ap (falsifies_from k q) read ∙ n q c))) ∙ s.whole q c);
        }

    pub lower_variable : low < k → Sum (i + 1) sum
    lower_variable b = passed (λ q c. from_below k q (signs_of x) (omega (arith, l)))

    module _ (b : k ≤ low) (apart : Bool) (answer : apart ≡ disjoint (signs_of x) (signs_of values)) where
      answered : Over (λ q. falsifies_from k q (signs_of x) ≡ apart)
      answered q c =
          from_here k q (signs_of x) (omega (arith, l)) ∙ sym (disjoint-falsifies (signs_of x) (signs_of values) k q c) ∙ sym answer

      pub satisfied : apart ≡ false → Sum (i + 1) sum
      satisfied f = passed (λ q c. answered q c ∙ f)

      module _ (f : apart ≡ true) (w : ℕ) (g : w ≡ weight_in (raw_at t (base + row_width * i))) where
        added : Over (λ q. sum + w + tail_weight k q rest ≡ tail_weight k q (rows_in t base count))
        added q c =
            let one : tail_weight k q (row ∷ rest) ≡ row.weight + tail_weight k q rest
            = tail_yes k q row rest (ap (falsifies_from k q) read ∙ answered q c ∙ f) in
            omega (arith, s.whole q c, ap (tail_weight k q) here, one, weight_at_lem t base count i h)

        pub sum_above : max_weight < sum + w → Over (λ q. None ≡ limited_sum (tail_weight k q (rows_in t base count)))
        sum_above b q c = sym (sum_high (tail_weight k q (rows_in t base count)) (omega (arith, added q c)))

        pub one_more : sum + w ≤ max_weight → Sum (i + 1) (sum + w)
        one_more b = record { low = b; whole = λ q c. rw add-one (added q c) }

    -- the sum that a turn leaves, by what the row's bucket and its clause say
    pub turned : (T : ℕ) → (k ≤ low → disjoint (signs_of x) (signs_of values) ≡ true → T ≡ sum + weight_in (raw_at t (base + row_width * i)))
        → (k ≤ low → disjoint (signs_of x) (signs_of values) ≡ true → T ≤ max_weight)
        → (k ≤ low → disjoint (signs_of x) (signs_of values) ≡ false → T ≡ sum) → (low < k → T ≡ sum) → Sum (i + 1) T
    turned T summed fits kept_there kept = by_bucket (ltb low k) refl
      where
        by_clause : (b : k ≤ low) (a : Bool) → a ≡ disjoint (signs_of x) (signs_of values) → Sum (i + 1) T
        by_clause b true e =
            rw (summed b (sym e)) (one_more b true e refl (weight_in (raw_at t (base + row_width * i))) refl (rw (summed b (sym e)) at (fits b (sym e))))
        by_clause b false e = rw (kept_there b (sym e)) (satisfied b false e refl)

        by_bucket : (b : Bool) → ltb low k ≡ b → Sum (i + 1) T
        by_bucket true e = let l : low < k = ltb-true low k e in rw (kept l) (lower_variable l)
        by_bucket false e = by_clause (ltb-false low k e) (disjoint (signs_of x) (signs_of values)) refl

  -- what is known where row i counts and its weight takes the sum above the greatest weight
  abbrev pub Above : ℕ → ℕ → Type 0
  Above i sum =
      k ≤ bucket (signs_of (clause_in (raw_at t (base + row_width * i)))) → disjoint (signs_of (clause_in (raw_at t (base + row_width * i)))) (signs_of values) ≡ true
      → max_weight < sum + weight_in (raw_at t (base + row_width * i)) → Over (λ q. None ≡ limited_sum (tail_weight k q (rows_in t base count)))

  -- the sum of the rows before i, with that
  pub record Summing (i sum : ℕ) : Type 0 where
    pub so_far : Sum i sum
    pub above : i < count → Above i sum

  pub summing : (i sum : ℕ) → Sum i sum → Summing i sum
  summing i sum s =
      record {
        so_far = s;
        above = λ h b d m. sum_above i sum s h (clause_in (raw_at t (base + row_width * i))) refl
            (bucket (signs_of (clause_in (raw_at t (base + row_width * i))))) refl b true (sym d) refl (weight_in (raw_at t (base + row_width * i))) refl m;
      }

  pub all_summed : (i sum : ℕ) → Sum i sum → count ≤ i → Over (λ q. Some sum ≡ limited_sum (tail_weight k q (rows_in t base count)))
  all_summed i sum s h q c =
      let l : length (rows_in t base count) ≤ i = omega (arith, length-rows_from count (drop base t)) in
      let m : sum ≡ tail_weight k q (rows_in t base count) = omega (arith, s.whole q c, tail_none k q (rows_in t base count) i l) in
      ap Some m ∙ sym (sum_low (tail_weight k q (rows_in t base count)) (omega (arith, s.low)))

-- ---- what the sum says

abbrev total : std.Option ℕ → ℕ
total (Some m) = m
total None = 0

pub told_high : (m : ℕ) → None ≡ limited_sum m → ltb max_weight m ≡ true
unfolding limited_sum
told_high m e = go (ltb max_weight m) e
  where
    go : (b : Bool) → None ≡ cond b None (Some m) → b ≡ true
    go true f = refl
    go false f = let z : ◌≡◌ {A = ℕ} 0 1 = cc in absurd (omega arith)

pub told_total : (m cost : ℕ) → Some cost ≡ limited_sum m → (ltb max_weight m ≡ false) × (cost ≡ m)
unfolding limited_sum
told_total m cost e = go (ltb max_weight m) e
  where
    go : (b : Bool) → Some cost ≡ cond b None (Some m) → (b ≡ false) × (cost ≡ m)
    go true f = let z : ◌≡◌ {A = ℕ} 0 1 = cc in absurd (omega arith)
    go false f = (refl, ap total f)
