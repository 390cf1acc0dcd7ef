-- A sheet with no variables (document 02: a field with no stations) has no value to measure to: the readout call is always refused with 8.
use Rattle.std.specs.Prelude.{ℕ, ◌≡◌, List, [], ◌∷◌}
use Rattle.words.specs.Layout.{head_word}
use Rattle.fields.specs.Answers.{refused}
use Rattle.sheet.specs.Sheet.{sheet_fault, sheet_sizes}
use Rattle.readout.specs.Calls.{readout_call}

abbrev pub NothingToReadOut : Type 0
NothingToReadOut = (sheet plan : List ℕ) (v easting northing : ℕ) → sheet_fault sheet ≡ 0 → sheet_sizes sheet ≡ []
    → readout_call sheet plan v easting northing ≡ refused 8

-- no words are such a sheet, and so is a head of 0
pub record EmptySheets : Type 0 where
  pub nothing : (sheet_fault [] ≡ 0) × (sheet_sizes [] ≡ [])
  pub head : (sheet_fault (head_word 0 ∷ []) ≡ 0) × (sheet_sizes (head_word 0 ∷ []) ≡ [])
