-- What sheets come to: each has one of the columns, and a planned one its least cost, which no sum of costs passes.
use Prim.Native.Nat.{ℕ, ◌≤◌, ◌<◌}
use native.Mathlib.Omega.{arith}
use mathlib.Core.Path.{◌≡◌}
use mathlib.Core.List.{List}
use borrow.Author.Tests.{le-leb}
use Rattle.fields.specs.Limits.{greatest_allowed}
use Rattle.fields.proofs.Forbidden.{allowed_costs}
use Rattle.input.proofs.Acceptance.{faultless_is_accepted}
use Rattle.making.specs.Made.{made_words}
use Rattle.making.proofs.Reading.{made_accepted}
use Rattle.littleendian.specs.Words.{words_in}
use Rattle.planning.specs.Values.{Solved}
use Rattle.planning.specs.Solving.{refused_solved, solved_of}
use Rattle.planning.specs.Theorems.{SheetMeans, faulty, long_instance, many_rows, none_allowed, planned, paused, full, Means, too_long, no_words, of_words}
use Rattle.planning.proofs.Meaning.{solved_means}
use Rattle.figures.specs.declared.Figures.{Figures}
use Rattle.figures.specs.Counting.{column_count, planned_column, counted}
use Rattle.batch.specs.Season.{Sheet, cut_off, passed_over, whole, solved_sheet, refusal_column, column_of}
use Rattle.batch.specs.Feeding.{counted_sheet}

-- ---- refusals

-- the column of a number: one of its own, and never that of the planned
pub record OwnColumn (column : ℕ) : Type 0 where
  pub within : column < column_count
  pub other : column ≡ planned_column → ⊥

pub fault_column : (k : ℕ) → 1 ≤ k → k ≤ 5 → OwnColumn (refusal_column k)
unfolding refusal_column
fault_column k low high =
    rw (le-leb 1 k low, le-leb k 5 high) (record { within = omega (arith, high); other = λ e. omega (arith, low, e) })

pub cut_column : OwnColumn (refusal_column 1)
cut_column = fault_column 1 (omega arith) (omega arith)

pub long_column : OwnColumn (refusal_column 10)
unfolding refusal_column
long_column = record { within = omega arith; other = λ e. omega (arith, e) }

pub many_column : OwnColumn (refusal_column 12)
unfolding refusal_column
many_column = record { within = omega arith; other = λ e. omega (arith, e) }

pub forbidden_column : OwnColumn (refusal_column 15)
unfolding refusal_column
forbidden_column = record { within = omega arith; other = λ e. omega (arith, e) }

-- ---- what bytes come to

-- what a value is known to be as one of a season's sheets
pub record Countable (s : Solved) : Type 0 where
  pub within : column_of s.ending < column_count
  pub cheap : column_of s.ending ≡ planned_column → s.bound ≤ greatest_allowed

refused_countable : (k : ℕ) → OwnColumn (refusal_column k) → Countable (refused_solved k)
unfolding column_of
refused_countable k own = record { within = own.within; cheap = λ e. absurd (own.other e) }

pub cut_countable : Countable (refused_solved 1)
cut_countable = refused_countable 1 cut_column

pub long_countable : Countable (refused_solved 10)
long_countable = refused_countable 10 long_column

sheet_countable : (sheet : List ℕ) (s : Solved) → SheetMeans sheet s → Countable s
unfolding column_of
sheet_countable sheet _ (faulty k e low high) = refused_countable k (fault_column k low high)
sheet_countable sheet _ (long_instance e h) = long_countable
sheet_countable sheet _ (many_rows e h m) = refused_countable 12 many_column
sheet_countable sheet _ (none_allowed steps b h f r) = refused_countable 15 forbidden_column
sheet_countable sheet _ (planned plan steps least h b f r) =
    let a = faultless_is_accepted (made_words sheet) (made_accepted sheet h.fine).accepted in
    record { within = omega arith; cheap = λ e. rw (← b.attained) (allowed_costs a.entries _ f) }
sheet_countable sheet _ (paused steps b h n r) = record { within = omega arith; cheap = λ e. absurd (omega (arith, e)) }
sheet_countable sheet _ (full steps b h n r) = record { within = omega arith; cheap = λ e. absurd (omega (arith, e)) }

pub solved_countable : (bytes : List ℕ) → Countable (solved_of bytes)
solved_countable bytes = go (solved_of bytes) (solved_means bytes)
  where
    go : (s : Solved) → Means bytes s → Countable s
    go _ (too_long h) = long_countable
    go _ (no_words h n) = cut_countable
    go _ (of_words s h e m) = sheet_countable (words_in bytes) s m

pub sheet_in_column : (sheet : Sheet) → Countable (solved_sheet sheet)
unfolding solved_sheet
sheet_in_column cut_off = cut_countable
sheet_in_column passed_over = long_countable
sheet_in_column (whole bytes) = solved_countable bytes

-- bytes that come to a value, as its column is counted
module _ (bytes : List ℕ) (s : Solved) (column : ℕ) (e : s ≡ solved_of bytes) (h : column ≡ column_of s.ending) where
  pub bytes_countable : (column < column_count) × (column ≡ planned_column → s.bound ≤ greatest_allowed)
  bytes_countable = let known = solved_countable bytes in rw (h, e) (known.within, known.cheap)

  pub bytes_counted : (f : Figures) → counted f column s.bound ≡ counted_sheet f (solved_of bytes)
  bytes_counted f = rw (h, e)
