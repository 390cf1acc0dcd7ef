-- Inner: what the test of a table answers, with the full signs of twelve variables. Calls for users have 9 where it answers none.
use Rattle.std.specs.Prelude.{ℕ, cond, List, map, get_or, take, Option, Some, None}
use Rattle.wcsp.specs.Sign.{full}
use Rattle.clause.specs.declared.Clause.{Clause}
use Rattle.words.specs.Layout.{payload_of}
use Rattle.fields.specs.Front.{head_in, headed, good_sizes}
use Rattle.fields.specs.Padding.{padded}
use Rattle.table.specs.declared.Shape.{Shape}
use Rattle.table.specs.Form.{TableForm}
use Rattle.table.specs.Raws.{standard_form}
use Rattle.table.specs.Clauses.{clause_from}
use Rattle.table.specs.Meaning.{variables_of, row_count, domains}
use Rattle.table.specs.Valid.{valid_front, valid_table_in}

-- ---- the test's answer

-- the full signs of twelve variables, as a clause
abbrev pub full_clause : List ℕ → Clause
full_clause ds = clause_from (map full ds)

-- the full signs of the n station words in front
unfoldable pub fulls_from : ℕ → List ℕ → Option Clause
fulls_from n ws = cond (good_sizes n ws) (Some (full_clause (padded (map payload_of (take n ws))))) None

-- the full signs that were read, no sign where there were none
unfoldable pub fulls_in : Option Clause → Clause
fulls_in (Some fulls) = fulls
fulls_in None = record { a = 0; b = 0; c = 0; d = 0 }

abbrev pub shape_of : List ℕ → Shape
shape_of t = record { variables = variables_of t; count = row_count t; fulls = full_clause (domains t) }

-- the shape that head, sizes and row count give, where these words are there
unfoldable pub front_table : List ℕ → Option Shape
front_table t = headed None (λ n. cond (valid_front t n) (Some (shape_of t)) None) (head_in (get_or t 0 0))

unfoldable pub check_table_in : TableForm → List ℕ → Option Shape
check_table_in f t = cond (valid_table_in f t) (Some (shape_of t)) None

-- in the form of six-word rows
abbrev pub check_table : List ℕ → Option Shape
check_table t = check_table_in standard_form t
