-- Valid tables, exactly as document 01 says, with rows as document 02's wish 4 has them; every other slice gets 9.
use Rattle.std.specs.Prelude.{ℕ, zero, suc, ◌+◌, ◌*◌, Bool, true, false, not, ◌&&◌, cond, List, [], ◌∷◌, length, get_or, drop, eqb, leb, ltb}
use Rattle.wcsp.specs.Sign.{full}
use Rattle.wcsp.specs.Clause.{same}
use Rattle.wcsp.specs.Row.{Row}
use Rattle.words.specs.Layout.{kind_of, index_in}
use Rattle.fields.specs.Front.{head_in, headed, good_sizes}
use Rattle.table.specs.Form.{TableForm}
use Rattle.table.specs.Raws.{standard_form}
use Rattle.table.specs.Layout.{rows_at, capacity_in}
use Rattle.table.specs.Meaning.{domains, row_count, table_rows_in}

-- ---- words by their kinds

-- the sign word of index k
abbrev pub is_signs : ℕ → ℕ → Bool
is_signs k w = eqb (kind_of w) 5 && eqb (index_in w) k

abbrev pub is_count : ℕ → Bool
is_count w = eqb (kind_of w) 10

-- the four words in front are the sign words of a row, in order
unfoldable pub sign_kinds : List ℕ → Bool
sign_kinds ws = is_signs 0 (get_or ws 0 0) && is_signs 1 (get_or ws 1 0) && is_signs 2 (get_or ws 2 0) && is_signs 3 (get_or ws 3 0)

-- ---- rows

-- no sign is full or beyond its variable's values
unfoldable pub valid_signs : List ℕ → List ℕ → Bool
valid_signs [] c = true
valid_signs (d ∷ ds) [] = true
valid_signs (d ∷ ds) (S ∷ c) = ltb S (full d) && valid_signs ds c

-- the words in front are a row's: sign words, the weight's words, and signs in range
unfoldable pub valid_row_in : TableForm → List ℕ → List ℕ → Bool
unfolding sign_kinds valid_signs
valid_row_in f ds ws = sign_kinds ws && f.weighs ws && valid_signs ds (f.row_of (f.rows.read ws 0)).signs

unfoldable pub rows_valid_in : TableForm → List ℕ → ℕ → List ℕ → Bool
unfolding valid_row_in
rows_valid_in f ds zero ws = true
rows_valid_in f ds (suc k) ws = valid_row_in f ds ws && rows_valid_in f ds k (drop f.rows.width ws)

-- a row of these signs is among the rows; no two rows have equal signs
unfoldable pub has_signs : List ℕ → List Row → Bool
has_signs c [] = false
has_signs c (r ∷ rs) = cond (same c r.signs) true (has_signs c rs)

unfoldable pub distinct_rows : List Row → Bool
unfolding has_signs
distinct_rows [] = true
distinct_rows (r ∷ rs) = not (has_signs r.signs rs) && distinct_rows rs

unfoldable pub all_zero : List ℕ → Bool
all_zero [] = true
all_zero (w ∷ ws) = eqb w 0 && all_zero ws

-- ---- tables over n variables, in the sentences of document 01

-- "Table: head, n station words, row count, rows": these words are there, behind the head
abbrev pub valid_front : List ℕ → ℕ → Bool
valid_front t n = leb (rows_at n) (length t) && good_sizes n (drop 1 t) && is_count (get_or t (n + 1) 0)

-- "at most capacity rows"
abbrev pub within_capacity : TableForm → List ℕ → ℕ → Bool
within_capacity f t n = leb (row_count t) (capacity_in f (length t) n)

-- "these words and ranges", "no sign that is full or beyond its station's spots, no sign for stations from n on":
-- a station from n on has one spot, whose only sign that is not full is 0
abbrev pub rows_in_range : TableForm → List ℕ → ℕ → Bool
rows_in_range f t n = rows_valid_in f (domains t) (row_count t) (drop (rows_at n) t)

-- "no two rows with equal signs"
abbrev pub no_two_equal : TableForm → List ℕ → Bool
no_two_equal f t = distinct_rows (table_rows_in f t)

-- "zero words past the last row"
abbrev pub zero_past : TableForm → List ℕ → ℕ → Bool
zero_past f t n = all_zero (drop (rows_at n + f.rows.width * row_count t) t)

unfoldable pub valid_table_in : TableForm → List ℕ → Bool
unfolding rows_valid_in distinct_rows all_zero
valid_table_in f t =
    headed false
    (λ n. valid_front t n && within_capacity f t n && rows_in_range f t n && no_two_equal f t && zero_past f t n)
    (head_in (get_or t 0 0))

-- ---- in the form of six-word rows

abbrev pub valid_table : List ℕ → Bool
valid_table t = valid_table_in standard_form t

-- ---- for inner contracts

-- each element lies below the one beside it
unfoldable pub all_below : List ℕ → List ℕ → Bool
all_below [] y = true
all_below (S ∷ x) [] = true
all_below (S ∷ x) (T ∷ y) = ltb S T && all_below x y

abbrev pub valid_row : List ℕ → List ℕ → Bool
valid_row ds ws = valid_row_in standard_form ds ws

abbrev pub rows_valid : List ℕ → ℕ → List ℕ → Bool
rows_valid ds k ws = rows_valid_in standard_form ds k ws
