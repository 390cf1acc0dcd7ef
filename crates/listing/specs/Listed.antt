-- The station lines of a printed plan (document 01: per station: station, spot, metres from the previous chosen spot).
use Rattle.std.specs.Prelude.{ℕ, zero, suc, List, [], ◌++◌, length, get_or}
use Rattle.sheet.specs.Sheet.{sheet_sizes}
use Rattle.sheet.specs.Calls.{position_in, travel}
use Rattle.text.specs.Text.{variable_line}

-- the metres from the previous variable's chosen value; 0 for the first
unfoldable pub metres_to : List ℕ → List ℕ → ℕ → ℕ
metres_to sheet plan zero = 0
metres_to sheet plan (suc v) = travel (position_in sheet v (get_or plan v 0)) (position_in sheet (suc v) (get_or plan (suc v) 0))

-- a line for each of k variables from v on
unfoldable pub variable_lines : List ℕ → List ℕ → ℕ → ℕ → List ℕ
variable_lines sheet plan v zero = []
variable_lines sheet plan v (suc k) =
    variable_line v (get_or plan v 0) (metres_to sheet plan v) ++ variable_lines sheet plan (suc v) k

-- a line for every variable of the sheet
abbrev pub assignment_lines : List ℕ → List ℕ → List ℕ
assignment_lines sheet plan = variable_lines sheet plan 0 (length (sheet_sizes sheet))
