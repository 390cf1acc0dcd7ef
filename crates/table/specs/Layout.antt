-- The words of a table: head, sizes, row count, rows, and zeros to the end of the slice. The most rows and the capacity stand here alone; a row's words stand in crate rows.
use Rattle.std.specs.Prelude.{ℕ, ◌+◌, ◌-◌, ◌*◌, ◌/◌, min, Bool, List, ◌∷◌, ◌++◌, map, length, replicate}
use Rattle.wcsp.specs.Row.{Row, heavy}
use Rattle.words.specs.Layout.{count_word}
use Rattle.fields.specs.Front.{front_words}
use Rattle.rows.specs.Form.{flat_in}
use Rattle.rows.specs.Raw.{max_weight}
use Rattle.table.specs.Form.{TableForm}
use Rattle.table.specs.Raws.{standard_form}

abbrev pub max_rows : ℕ
max_rows = 4096

-- where the rows start over n variables: behind head, sizes and row count
abbrev pub rows_at : ℕ → ℕ
rows_at n = n + 2

-- how many rows a slice of this length takes over n variables
unfoldable pub capacity_in : TableForm → ℕ → ℕ → ℕ
capacity_in f len n = min max_rows ((len - rows_at n) / f.rows.width)

-- the whole slice of a table: these sizes, these rows, zeros past the last
unfoldable pub table_words_in : TableForm → ℕ → List ℕ → List Row → List ℕ
table_words_in f len ds rs =
    front_words ds
    ++ (count_word (length rs)
    ∷ (flat_in f.rows (map f.raw_of rs) ++ replicate (len - (rows_at (length ds) + f.rows.width * length rs)) 0))

-- ---- in the form of six-word rows

abbrev pub capacity : ℕ → ℕ → ℕ
capacity len n = capacity_in standard_form len n

abbrev pub table_words : ℕ → List ℕ → List Row → List ℕ
table_words len ds rs = table_words_in standard_form len ds rs

-- some weight passes the limit
abbrev pub too_heavy : List Row → Bool
too_heavy rs = heavy max_weight rs
