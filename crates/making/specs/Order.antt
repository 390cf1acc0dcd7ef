-- The order of the make call's tests.
use Rattle.std.specs.Prelude.{ℕ, List, [], ◌∷◌, ◌++◌, length, ltb}
use Rattle.fields.specs.Order.{Test, ◌if◌, fault_tests, FirstInOrder}
use Rattle.sheet.specs.Sheet.{sheet_fault}
use Rattle.making.specs.Made.{made_words}
use Rattle.making.specs.Calls.{make_call}

-- 1 to 5 of the sheet; 10 for a target shorter than the instance
abbrev pub tests_of_make : List ℕ → List ℕ → List Test
tests_of_make sheet target = fault_tests (sheet_fault sheet) ++ (10 if ltb (length target) (length (made_words sheet)) ∷ [])

abbrev pub MakeInOrder : Type 0
MakeInOrder = (sheet target : List ℕ) → FirstInOrder (tests_of_make sheet target) (make_call sheet target).answer.number
