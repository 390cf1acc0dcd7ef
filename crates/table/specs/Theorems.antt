-- What a valid table is: its words are those of its sizes, its rows and zeros, and what was written reads back. Rows have a sign for each of
-- the table's own variables.
use Rattle.std.specs.Prelude.{ℕ, ◌≤◌, ◌≡◌, true, false, List, length}
use Rattle.std.proofs.Math.Option.{some}
use Rattle.wcsp.specs.Row.{Row, heavy, ValidRows}
use Rattle.wcsp.specs.Widening.{wide_rows}
use Rattle.words.specs.Layout.{head_word}
use Rattle.fields.specs.Limits.{max_variables}
use Rattle.fields.specs.Front.{head_in}
use Rattle.fields.specs.Padding.{lacking}
use Rattle.fields.specs.Entries.{EachSize}
use Rattle.table.specs.Form.{TableForm}
use Rattle.table.specs.Raws.{standard_form}
use Rattle.table.specs.Layout.{rows_at, capacity_in, table_words_in}
use Rattle.table.specs.Meaning.{table_sizes, own_rows_in, table_rows, own_rows}
use Rattle.table.specs.Valid.{valid_table_in, valid_table}

-- ---- in any form, for rows over the table's own sizes or over those of twelve variables

-- sizes and rows that a slice of this length can hold as a valid table: as many sizes as a head can give, each from 1 to 8, and valid rows over
-- the sizes that are given first
pub record HoldableOver (f : TableForm) (over : List ℕ) (len : ℕ) (ds : List ℕ) (rs : List Row) : Type 0 where
  pub head : head_in (head_word (length ds)) ≡ some (length ds)
  pub few : length ds ≤ max_variables
  pub sizes : EachSize ds
  pub room : rows_at (length ds) ≤ len
  pub fits : length rs ≤ capacity_in f len (length ds)
  pub valid : ValidRows over rs
  pub light : heavy f.limit rs ≡ false

-- the table's words are those of its sizes and these rows and zeros
pub record CanonicalOver (f : TableForm) (over : List ℕ) (rs : List Row) (t : List ℕ) : Type 0 where
  pub words : t ≡ table_words_in f (length t) (table_sizes t) rs
  pub holdable : HoldableOver f over (length t) (table_sizes t) rs

-- what was written is valid and reads back
pub record ReadsBackAs (f : TableForm) (rows_read : List ℕ → List Row) (len : ℕ) (ds : List ℕ) (rs : List Row) : Type 0 where
  pub long : length (table_words_in f len ds rs) ≡ len
  pub valid : valid_table_in f (table_words_in f len ds rs) ≡ true
  pub sizes : table_sizes (table_words_in f len ds rs) ≡ ds
  pub rows : rows_read (table_words_in f len ds rs) ≡ rs

-- ---- over the table's own sizes

abbrev pub HoldableIn : TableForm → ℕ → List ℕ → List Row → Type 0
HoldableIn f len ds rs = HoldableOver f ds len ds rs

-- a valid table's words are those of its sizes and own rows and zeros
abbrev pub ValidIsCanonicalIn : TableForm → Type 0
ValidIsCanonicalIn f = (t : List ℕ) → valid_table_in f t ≡ true → CanonicalOver f (table_sizes t) (own_rows_in f t) t

abbrev pub WrittenReadsBackIn : TableForm → Type 0
WrittenReadsBackIn f = (len : ℕ) (ds : List ℕ) (rs : List Row) → HoldableIn f len ds rs → ReadsBackAs f (own_rows_in f) len ds rs

-- ---- in the form of six-word rows

abbrev pub Holdable : ℕ → List ℕ → List Row → Type 0
Holdable len ds rs = HoldableIn standard_form len ds rs

abbrev pub ValidIsCanonical : Type 0
ValidIsCanonical = ValidIsCanonicalIn standard_form

abbrev pub WrittenReadsBack : Type 0
WrittenReadsBack = WrittenReadsBackIn standard_form

-- "no sign for stations from n on": the twelve signs of every row are those of the n variables, and then zeros
abbrev pub NoSignBehind : Type 0
NoSignBehind = (t : List ℕ) → valid_table t ≡ true → table_rows t ≡ wide_rows (lacking (table_sizes t)) (own_rows t)
