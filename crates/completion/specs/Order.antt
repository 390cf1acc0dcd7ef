-- The order of the complete call's tests. Document 02 places 14 after 10 and before 13, and 11 after 13, so the numbers do not rise here.
use Rattle.std.specs.Prelude.{ℕ, ◌≡◌, not, List, [], ◌∷◌, length, ltb}
use Rattle.fields.specs.Order.{Test, ◌if◌, first_of}
use Rattle.rows.specs.Raw.{max_weight}
use Rattle.table.specs.Meaning.{variables_of, table_sizes}
use Rattle.table.specs.Valid.{valid_table}
use Rattle.assignment.specs.Order.{is_left, table_pair}
use Rattle.completion.specs.Calls.{fixed_fit, completion_cost, complete_call}

-- 9 for an invalid table; 10 for a target shorter than n bytes; 14 for fixed values that do not fit; 13 while a pair remains; 11 for a cost
-- above the greatest weight of a row
abbrev pub tests_of_complete : List ℕ → ℕ → List ℕ → List ℕ → List Test
tests_of_complete t k fixed target =
    9 if not (valid_table t)
    ∷ 10 if ltb (length target) (variables_of t)
    ∷ 14 if not (fixed_fit (table_sizes t) k fixed)
    ∷ 13 if is_left (table_pair t)
    ∷ 11 if ltb max_weight (completion_cost t k fixed)
    ∷ []

-- the call answers the first of them that applies
abbrev pub CompleteInOrder : Type 0
CompleteInOrder = (t : List ℕ) (k : ℕ) (fixed target : List ℕ)
    → (complete_call t k fixed target).answer.number ≡ first_of (tests_of_complete t k fixed target)
