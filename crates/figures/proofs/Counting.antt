-- Sheets counted one by one: the counts add up to the sheets, and nothing outgrows what so many sheets can have.
use Prim.Native.Nat.{ℕ, zero, suc, ◌+◌, ◌*◌, ◌≤◌, ◌<◌}
use native.Mathlib.Omega.{arith}
use mathlib.Core.Path.{◌≡◌, refl, sym}
use Rattle.std.proofs.lemmas.List.Recursion.{is_sum_by}
use Rattle.std.specs.List.{sum}
use mathlib.Core.Bool.{Bool, true, false, cond}
use mathlib.Core.List.{List, [], ◌∷◌}
use lib.ListN.{length, get_or, set}
use lib.Dec.{eqb, ltb, leb}
use borrow.Author.Tests.{ltb-true, leb-true, eqb-true, lt-ltb, le-ltb, le-leb, eq-eqb, ne_eqb}
use Rattle.wcsp.proofs.Lists.{and_left, and_right}
use Rattle.fields.specs.Limits.{greatest_allowed}
use Rattle.figures.specs.declared.Figures.{Figures}
use Rattle.figures.specs.Counting.{planned_column, most_sheets, no_figures, sum_of, sheets_of, leads, counted, takes_sheet}
pub use Rattle.figures.proofs.Spaces.{line-spaced}

-- ---- the counts

-- they add up as any numbers do
pub sum_of_sum : (ks : List ℕ) → sum ks ≡ sum_of ks
unfolding sum_of
sum_of_sum ks = sym (is_sum_by sum_of (λ k. k) refl (λ _ _. refl) ks)

-- one count raised raises the sum_of
pub sum_of-set : (ks : List ℕ) (i : ℕ) → i < length ks → sum_of (set ks i (get_or ks i 0 + 1)) ≡ sum_of ks + 1
unfolding sum_of
sum_of-set [] i h = absurd (omega arith)
sum_of-set (k ∷ ks) zero h = omega arith
sum_of-set (k ∷ ks) (suc i) h = omega (arith, sum_of-set ks i (omega arith))

-- no count is above the sum_of
pub get_d_sum_of : (ks : List ℕ) (i : ℕ) → get_or ks i 0 ≤ sum_of ks
unfolding sum_of
get_d_sum_of [] i = omega arith
get_d_sum_of (k ∷ ks) zero = omega arith
get_d_sum_of (k ∷ ks) (suc i) = omega (arith, get_d_sum_of ks i)

-- ---- room for a sheet

pub none_takes : takes_sheet no_figures ≡ true
unfolding takes_sheet sum_of
none_takes = refl

module _ (f : Figures) where
  -- the two tests, in the code's order
  pub takes_few : (n : ℕ) → n ≡ sheets_of f → n < most_sheets → leb f.sum (n * greatest_allowed) ≡ takes_sheet f
  unfolding takes_sheet
  takes_few n e h = rw (← e, lt-ltb n most_sheets h)

  pub takes_many : (n : ℕ) → n ≡ sheets_of f → most_sheets ≤ n → ltb n most_sheets ≡ takes_sheet f
  unfolding takes_sheet
  takes_many n e h = rw (← e, le-ltb n most_sheets h)

  -- and what they say
  pub takes_sheets : takes_sheet f ≡ true → sheets_of f < most_sheets
  unfolding takes_sheet
  takes_sheets e = ltb-true (sheets_of f) most_sheets (and_left (ltb (sheets_of f) most_sheets) (leb f.sum (sheets_of f * greatest_allowed)) e)

  pub takes_sum : takes_sheet f ≡ true → f.sum ≤ sheets_of f * greatest_allowed
  unfolding takes_sheet
  takes_sum e = leb-true f.sum (sheets_of f * greatest_allowed) (and_right (ltb (sheets_of f) most_sheets) (leb f.sum (sheets_of f * greatest_allowed)) e)

-- the sum of fewer than 10,000 sheets
pub sum_few : (f : Figures) → takes_sheet f ≡ true → f.sum ≤ most_sheets * greatest_allowed
sum_few f e = omega (arith, takes_sheets f e, takes_sum f e)

-- ---- the sheet that leads

module _ (f : Figures) (column cost : ℕ) where
  -- the first that is planned
  pub leads_first : column ≡ planned_column → f.first ≡ 0 → eqb f.first 0 ≡ leads f column cost
  unfolding leads
  leads_first h e = rw (eq-eqb column planned_column h, eq-eqb f.first 0 e)

  -- a later one by its cost
  pub leads_above : column ≡ planned_column → 0 < f.first → ltb f.largest cost ≡ leads f column cost
  unfolding leads
  leads_above h l = rw (eq-eqb column planned_column h, ne_eqb f.first 0 (λ (e : f.first ≡ 0). omega arith))

  -- none that is not planned
  pub leads-not : (column ≡ planned_column → ⊥) → eqb column planned_column ≡ leads f column cost
  unfolding leads
  leads-not n = rw (ne_eqb column planned_column n)

-- ---- a sheet more

-- the sheet counted and its cost added, with the largest as it was
abbrev pub added : Figures → ℕ → ℕ → Figures
added f column cost =
    record {
      counts = set f.counts column (get_or f.counts column 0 + 1);
      sum = cond (eqb column planned_column) (f.sum + cost) f.sum;
      largest = f.largest;
      first = f.first;
    }

module _ (f next : Figures) (column cost : ℕ) where
  pub added-planned : column ≡ planned_column
      → next ≡ record { counts = set f.counts column (get_or f.counts column 0 + 1); sum = f.sum + cost; largest = f.largest; first = f.first }
      → next ≡ added f column cost
  added-planned h e = rw (eq-eqb column planned_column h) e

  pub added_other : (column ≡ planned_column → ⊥)
      → next ≡ record { counts = set f.counts column (get_or f.counts column 0 + 1); sum = f.sum; largest = f.largest; first = f.first }
      → next ≡ added f column cost
  added_other n e = rw (ne_eqb column planned_column n) e

  module _ (e : next ≡ added f column cost) (leading : Bool) (l : leading ≡ leads f column cost) where
    -- a sheet that leads brings its cost and its number
    pub counted_leading : (number : ℕ) → number ≡ sheets_of f + 1 → leading ≡ true
        → record { counts = next.counts; sum = next.sum; largest = cost; first = number } ≡ counted f column cost
    unfolding counted
    counted_leading number n h = rw (← l, h, n, e)

    pub counted_behind : leading ≡ false → next ≡ counted f column cost
    unfolding counted
    counted_behind h = rw (← l, h) e

-- a sheet adds no more than the greatest cost without a forbidden combination
sum_within : (n s column cost : ℕ) → s ≤ n * greatest_allowed → (column ≡ planned_column → cost ≤ greatest_allowed)
    → cond (eqb column planned_column) (s + cost) s ≤ (n + 1) * greatest_allowed
sum_within n s column cost h l = go (eqb column planned_column) refl
  where
    go : (b : Bool) → eqb column planned_column ≡ b → cond b (s + cost) s ≤ (n + 1) * greatest_allowed
    go true e = omega (arith, l (eqb-true column planned_column e))
    go false e = omega arith

module _ (f : Figures) (column cost : ℕ) (h : column < length f.counts) where
  pub sheets_counted : sheets_of (counted f column cost) ≡ sheets_of f + 1
  unfolding counted
  sheets_counted = sum_of-set f.counts column h

  -- room for a sheet stays as long as there are fewer than 10,000
  pub takes_counted : takes_sheet f ≡ true → (column ≡ planned_column → cost ≤ greatest_allowed) → sheets_of f + 1 < most_sheets
      → takes_sheet (counted f column cost) ≡ true
  unfolding takes_sheet counted
  takes_counted e l few =
      rw (sum_of-set f.counts column h, lt-ltb (sheets_of f + 1) most_sheets few)
      (le-leb _ _ (sum_within (sheets_of f) f.sum column cost (takes_sum f e) l))
