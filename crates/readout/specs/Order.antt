-- The order of the readout call's tests.
use Rattle.std.specs.Prelude.{ℕ, not, ◌&&◌, List, [], ◌∷◌, ◌++◌, length, ltb}
use Rattle.fields.specs.Assignment.{is_assignment}
use Rattle.fields.specs.Order.{Test, ◌if◌, fault_tests, FirstInOrder}
use Rattle.sheet.specs.Sheet.{is_easting, is_northing, sheet_fault, sheet_sizes}
use Rattle.readout.specs.Calls.{readout_call}

-- 1 to 5 of the sheet; 8 unless the sheet has the variable, the position is in range and the bytes are an assignment
abbrev pub tests_of_readout : List ℕ → List ℕ → ℕ → ℕ → ℕ → List Test
tests_of_readout sheet plan v easting northing =
    let sizes = sheet_sizes sheet in
    fault_tests (sheet_fault sheet)
    ++ (8 if not (ltb v (length sizes) && is_easting easting && is_northing northing && is_assignment sizes plan) ∷ [])

abbrev pub ReadoutInOrder : Type 0
ReadoutInOrder =
    (sheet plan : List ℕ) (v easting northing : ℕ)
    → FirstInOrder (tests_of_readout sheet plan v easting northing) (readout_call sheet plan v easting northing).number
