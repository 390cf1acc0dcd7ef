-- The order of the conversions' tests. Document 02 places 16 before 12, so on the way back the numbers do not rise.
use Rattle.std.specs.Prelude.{ℕ, ◌≡◌, not, List, [], ◌∷◌, length, ltb}
use Rattle.wcsp.specs.Row.{heavy}
use Rattle.fields.specs.Order.{Test, ◌if◌, first_of, FirstInOrder}
use Rattle.table.specs.Layout.{rows_at, capacity_in, capacity}
use Rattle.table.specs.Meaning.{variables_of, own_rows_in, own_rows}
use Rattle.table.specs.Valid.{valid_table_in, valid_table}
use Rattle.table.specs.Five.{five_max_weight, five_form}
use Rattle.conversion.specs.Calls.{to_six_call, to_five_call}

-- 9 for no valid table of five-word rows; 10 for a target shorter than head, sizes and row count; 12 for more rows than the target takes. Every
-- weight of a five-word row has its words in six: there is no 16.
abbrev pub tests_of_six : List ℕ → List ℕ → List Test
tests_of_six source target =
    9 if not (valid_table_in five_form source)
    ∷ 10 if ltb (length target) (rows_at (variables_of source))
    ∷ 12 if ltb (capacity (length target) (variables_of source)) (length (own_rows_in five_form source))
    ∷ []

abbrev pub SixInOrder : Type 0
SixInOrder = (source target : List ℕ) → FirstInOrder (tests_of_six source target) (to_six_call source target).answer.number

-- 9 for no valid table of six-word rows; 10; 16 for a weight above 268,435,455; 12
abbrev pub tests_of_five : List ℕ → List ℕ → List Test
tests_of_five source target =
    9 if not (valid_table source)
    ∷ 10 if ltb (length target) (rows_at (variables_of source))
    ∷ 16 if heavy five_max_weight (own_rows source)
    ∷ 12 if ltb (capacity_in five_form (length target) (variables_of source)) (length (own_rows source))
    ∷ []

-- the call answers the first of them that applies
abbrev pub FiveInOrder : Type 0
FiveInOrder = (source target : List ℕ) → (to_five_call source target).answer.number ≡ first_of (tests_of_five source target)
