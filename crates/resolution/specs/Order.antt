-- The order of the tests of the step call and of the run.
use Rattle.std.specs.Prelude.{ℕ, min, Bool, true, false, not, ◌&&◌, List, [], ◌∷◌, length, ltb}
use Rattle.std.proofs.Math.Option.{Option, none, some}
use Rattle.wcsp.specs.Row.{Row}
use Rattle.wcsp.specs.Resolve.{Pair, next_pair, resolve}
use Rattle.fields.specs.Order.{Test, ◌if◌, FirstInOrder}
use Rattle.table.specs.Layout.{too_heavy}
use Rattle.table.specs.Meaning.{table_sizes, own_rows, capacity_of}
use Rattle.table.specs.Valid.{valid_table}
use Rattle.resolution.specs.Run.{Ran, run_rows}
use Rattle.resolution.specs.Numbers.{step_number, run_number}
use Rattle.resolution.specs.Calls.{step_call, run_call}

-- a pair is there, and the rows that a step on it would leave are such
unfoldable pub finished_is : (List Row → Bool) → List ℕ → List Row → Option Pair → Bool
finished_is such ds rs none = false
finished_is such ds rs (some pr) = such (resolve ds pr rs)

-- a step is wanted, and the next one cannot be made: 11 for a weight that would pass the limit; 12 for more rows than the capacity
abbrev pub tests_on_rows : Bool → List ℕ → ℕ → List Row → List Test
tests_on_rows wanted ds cap rs =
    11 if (wanted && finished_is too_heavy ds rs (next_pair ds rs))
    ∷ 12 if (wanted && finished_is (λ rs'. ltb cap (length rs')) ds rs (next_pair ds rs))
    ∷ []

-- 9 for an invalid table; 11, 12 of the next step on its rows
abbrev pub tests_of_step : List ℕ → List Test
tests_of_step t = 9 if not (valid_table t) ∷ tests_on_rows true (table_sizes t) (capacity_of t) (own_rows t)

abbrev pub StepInOrder : Type 0
StepInOrder = (t : List ℕ) → FirstInOrder (tests_of_step t) (step_number (step_call t).answer)

-- the run on a table's rows
abbrev pub ran_on : List ℕ → ℕ → Ran
ran_on t most = run_rows (table_sizes t) (capacity_of t) most (own_rows t) []

-- 9 for an invalid table; 11, 12 of the next step on the rows that the run leaves, where it has made fewer steps than it may
abbrev pub tests_of_run : List ℕ → ℕ → List ℕ → List Test
tests_of_run t limit slice =
    let most = min limit (length slice) in
    let ran = ran_on t most in
    9 if not (valid_table t) ∷ tests_on_rows (ltb (length ran.made) most) (table_sizes t) (capacity_of t) ran.rows

abbrev pub RunInOrder : Type 0
RunInOrder =
    (t : List ℕ) (limit : ℕ) (slice : List ℕ)
    → FirstInOrder (tests_of_run t limit slice) (run_number (run_call t limit slice).answer)
