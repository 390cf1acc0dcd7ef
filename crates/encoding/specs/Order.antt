-- The order of the encode call's tests.
use Rattle.std.specs.Prelude.{ℕ, List, [], ◌∷◌, ◌++◌, length, ltb}
use Rattle.fields.specs.Order.{Test, ◌if◌, fault_tests, FirstInOrder}
use Rattle.input.specs.Instance.{instance_fault, sizes_of}
use Rattle.table.specs.Layout.{rows_at, capacity}
use Rattle.encoding.specs.Calls.{encoded_rows, encode_call}

-- 1 to 5 of the instance; 10 for a slice shorter than head, sizes and row count; 12 for more rows than the capacity
abbrev pub tests_of_encode : List ℕ → List ℕ → List Test
tests_of_encode inst t =
    let n = length (sizes_of inst) in
    fault_tests (instance_fault inst)
    ++ (10 if ltb (length t) (rows_at n) ∷ 12 if ltb (capacity (length t) n) (length (encoded_rows inst)) ∷ [])

abbrev pub EncodeInOrder : Type 0
EncodeInOrder = (inst t : List ℕ) → FirstInOrder (tests_of_encode inst t) (encode_call inst t).answer.number
