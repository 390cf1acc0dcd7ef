-- What a table's words mean, read without asking whether they are valid.
use Rattle.std.specs.Prelude.{ℕ, ◌+◌, List, map, length, get_or, take, drop}
use Rattle.wcsp.specs.Row.{Row}
use Rattle.wcsp.specs.Widening.{trimmed}
use Rattle.words.specs.Layout.{payload_of}
use Rattle.fields.specs.Padding.{padded}
use Rattle.rows.specs.Form.{raws_from_in}
use Rattle.table.specs.Form.{TableForm}
use Rattle.table.specs.Raws.{standard_form}
use Rattle.table.specs.Layout.{rows_at, capacity}

-- the number of variables, and their sizes
abbrev pub variables_of : List ℕ → ℕ
variables_of t = payload_of (get_or t 0 0)

unfoldable pub table_sizes : List ℕ → List ℕ
table_sizes t = map payload_of (take (variables_of t) (drop 1 t))

-- the sizes of twelve variables, as the rows' twelve signs have them
unfoldable pub domains : List ℕ → List ℕ
unfolding table_sizes
domains t = padded (table_sizes t)

abbrev pub row_count : List ℕ → ℕ
row_count t = payload_of (get_or t (variables_of t + 1) 0)

-- the rows that words mean, and those of a table
unfoldable pub rows_from_in : TableForm → ℕ → List ℕ → List Row
rows_from_in f k ws = map f.row_of (raws_from_in f.rows k ws)

unfoldable pub table_rows_in : TableForm → List ℕ → List Row
unfolding rows_from_in
table_rows_in f t = rows_from_in f (row_count t) (drop (rows_at (variables_of t)) t)

-- the rows of the table's own variables: the first n signs of each. In a valid table the others are 0.
unfoldable pub own_rows_in : TableForm → List ℕ → List Row
unfolding table_rows_in
own_rows_in f t = trimmed (variables_of t) (table_rows_in f t)

-- ---- in the form of six-word rows

abbrev pub rows_from : ℕ → List ℕ → List Row
rows_from k ws = rows_from_in standard_form k ws

abbrev pub table_rows : List ℕ → List Row
table_rows t = table_rows_in standard_form t

abbrev pub own_rows : List ℕ → List Row
own_rows t = own_rows_in standard_form t

-- how many rows the slice of a table takes
abbrev pub capacity_of : List ℕ → ℕ
capacity_of t = capacity (length t) (variables_of t)
