-- The order of the cost call's tests.
use Rattle.std.specs.Prelude.{not, List, [], ◌∷◌, ◌++◌, ℕ}
use Rattle.fields.specs.Order.{Test, ◌if◌, fault_tests, FirstInOrder}
use Rattle.fields.specs.Assignment.{is_assignment}
use Rattle.input.specs.Instance.{instance_fault, sizes_of}
use Rattle.cost.specs.Calls.{cost_call}

-- 1 to 5 of the instance; 7 for bytes that are no assignment
abbrev pub tests_of_cost : List ℕ → List ℕ → List Test
tests_of_cost inst plan = fault_tests (instance_fault inst) ++ (7 if not (is_assignment (sizes_of inst) plan) ∷ [])

abbrev pub CostInOrder : Type 0
CostInOrder = (inst plan : List ℕ) → FirstInOrder (tests_of_cost inst plan) (cost_call inst plan).number
