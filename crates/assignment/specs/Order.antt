-- The order of the plan call's tests.
use Rattle.std.specs.Prelude.{ℕ, Bool, true, false, not, List, [], ◌∷◌, length, ltb}
use Rattle.std.proofs.Math.Option.{Option, none, some}
use Rattle.wcsp.specs.Resolve.{Pair, next_pair}
use Rattle.fields.specs.Order.{Test, ◌if◌, FirstInOrder}
use Rattle.table.specs.Meaning.{variables_of, table_sizes, own_rows}
use Rattle.table.specs.Valid.{valid_table}
use Rattle.assignment.specs.Calls.{empty_forbids, plan_call}

-- a pair is left
unfoldable pub is_left : Option Pair → Bool
is_left none = false
is_left (some pr) = true

-- the next pair of a table
abbrev pub table_pair : List ℕ → Option Pair
table_pair t = next_pair (table_sizes t) (own_rows t)

-- 9 for an invalid table; 10 for a target shorter than n bytes; 13 while a pair remains; 15 for an empty row at least as heavy as a forbidden entry
abbrev pub tests_of_plan : List ℕ → List ℕ → List Test
tests_of_plan t target =
    9 if not (valid_table t)
    ∷ 10 if ltb (length target) (variables_of t)
    ∷ 13 if is_left (table_pair t)
    ∷ 15 if empty_forbids t
    ∷ []

abbrev pub PlanInOrder : Type 0
PlanInOrder = (t target : List ℕ) → FirstInOrder (tests_of_plan t target) (plan_call t target).number
