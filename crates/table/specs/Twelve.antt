-- Inner: what a valid table is, and that what was written reads back, of rows with twelve signs as the words have them. Theorems says it of the
-- table's own variables.
use Rattle.std.specs.Prelude.{ℕ, ◌≡◌, true, List}
use Rattle.wcsp.specs.Row.{Row}
use Rattle.fields.specs.Padding.{padded}
use Rattle.table.specs.Form.{TableForm}
use Rattle.table.specs.Raws.{standard_form}
use Rattle.table.specs.Meaning.{table_sizes, table_rows_in}
use Rattle.table.specs.Valid.{valid_table_in}
use Rattle.table.specs.Theorems.{HoldableOver, CanonicalOver, ReadsBackAs}

abbrev pub TwelveHoldableIn : TableForm → ℕ → List ℕ → List Row → Type 0
TwelveHoldableIn f len ds rs = HoldableOver f (padded ds) len ds rs

abbrev pub TwelveIsCanonicalIn : TableForm → Type 0
TwelveIsCanonicalIn f = (t : List ℕ) → valid_table_in f t ≡ true → CanonicalOver f (padded (table_sizes t)) (table_rows_in f t) t

abbrev pub TwelveWrittenIn : TableForm → Type 0
TwelveWrittenIn f = (len : ℕ) (ds : List ℕ) (rs : List Row) → TwelveHoldableIn f len ds rs → ReadsBackAs f (table_rows_in f) len ds rs

-- ---- in the form of six-word rows

abbrev pub TwelveHoldable : ℕ → List ℕ → List Row → Type 0
TwelveHoldable len ds rs = TwelveHoldableIn standard_form len ds rs

abbrev pub TwelveIsCanonical : Type 0
TwelveIsCanonical = TwelveIsCanonicalIn standard_form

abbrev pub TwelveWritten : Type 0
TwelveWritten = TwelveWrittenIn standard_form
