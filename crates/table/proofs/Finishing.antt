-- Raw rows of a table as a whole: a valid table is laid with the raw rows of its rows, and once other rows were written behind its front
-- and their number was set, it is the table of the same sizes with those rows.
use Prim.Native.Nat.{ℕ, ◌+◌, ◌*◌, ◌≤◌}
use mathlib.Core.Path.{◌≡◌}
use mathlib.Core.Bool.{true}
use mathlib.Core.List.{List, map}
use lib.ListN.{length, set}
use Rattle.wcsp.specs.Row.{Row}
use Rattle.words.specs.Layout.{count_word}
use Rattle.rows.specs.Raw.{row_width, raws_in, Laid, Left}
use Rattle.table.specs.Raws.{raw_of, standard_form}
use Rattle.table.specs.Layout.{rows_at, table_words}
use Rattle.table.specs.Meaning.{variables_of, row_count, table_sizes, table_rows}
use Rattle.table.specs.Valid.{valid_table}
use Rattle.table.proofs.FormTables.{length_sizes, length_rows, passed_rows, passed_room, passed_apart}
use Rattle.table.proofs.FormFinishing as forms
use Rattle.table.proofs.RawRows.{table_laws}
use Rattle.table.proofs.Canonical.{passed, twelve_is_canonical}

pub laid_words : (t : List ℕ) (ds : List ℕ) (rs : List Row) → t ≡ table_words (length t) ds rs → rows_at (length ds) + row_width * length rs ≤ length t
    → Laid t (rows_at (length ds)) (map raw_of rs)
laid_words t ds rs e h = forms.laid_words standard_form t ds rs e h

module _ (t : List ℕ) (v : valid_table t ≡ true) where
  pub valid_variables : length (table_sizes t) ≡ variables_of t
  valid_variables = length_sizes standard_form table_laws t (passed t v)

  pub valid_count : length (table_rows t) ≡ row_count t
  valid_count = length_rows standard_form table_laws t (passed t v)

  -- the rows end within the slice
  pub valid_room : rows_at (variables_of t) + row_width * row_count t ≤ length t
  valid_room = passed_room standard_form table_laws t (passed t v)

  pub valid_laid : Laid t (rows_at (variables_of t)) (map raw_of (table_rows t))
  valid_laid =
      let e = valid_variables in
      let f = valid_count in
      rw e at (forms.laid_apart standard_form t (table_sizes t) (table_rows t) (passed_apart standard_form table_laws t (passed t v)) (rw (e, f) valid_room))

  pub valid_raws : raws_in t (rows_at (variables_of t)) (row_count t) ≡ map raw_of (table_rows t)
  valid_raws = passed_rows standard_form table_laws t (passed t v)

-- ---- the number of rows set

pub finished : (t t' : List ℕ) (ds : List ℕ) (rs rs' : List Row) → t ≡ table_words (length t) ds rs → Left t (rows_at (length ds)) t' (map raw_of rs')
    → set t' (length ds + 1) (count_word (length rs')) ≡ table_words (length t) ds rs'
finished t t' ds rs rs' e l = forms.finished standard_form t t' ds rs rs' e l

-- the same by the numbers that a valid table's words give
pub finished_valid : (t t' : List ℕ) (rs' : List Row) → valid_table t ≡ true → Left t (rows_at (variables_of t)) t' (map raw_of rs')
    → set t' (variables_of t + 1) (count_word (length rs')) ≡ table_words (length t) (table_sizes t) rs'
finished_valid t t' rs' v l =
    let e = valid_variables t v in
    rw e at (finished t t' (table_sizes t) (table_rows t) rs' (twelve_is_canonical t v).words (rw e l))
