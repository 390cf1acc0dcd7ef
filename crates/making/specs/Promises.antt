-- What holds of the instance made from an accepted sheet.
use Rattle.std.specs.Prelude.{ℕ, ◌+◌, ◌*◌, min, ◌≡◌, List, length}
use Rattle.input.specs.Instance.{instance_fault, sizes_of, entries_of}
use Rattle.sheet.specs.Sheet.{leg_count, sheet_fault, sheet_sizes, entry_words_of}
use Rattle.making.specs.Made.{made_words, made_entries}

-- the instance is accepted, has the sheet's sizes, and its entries are the legs and then the sheet's; a leg takes three words, and the head one where
-- the sheet has words
pub record MadeAccepted (sheet : List ℕ) : Type 0 where
  pub accepted : instance_fault (made_words sheet) ≡ 0
  pub sizes : sizes_of (made_words sheet) ≡ sheet_sizes sheet
  pub entries : entries_of (made_words sheet) ≡ made_entries sheet
  pub words : length (made_words sheet) ≡ min 1 (length sheet) + length (sheet_sizes sheet) + 3 * leg_count (sheet_sizes sheet) + length (entry_words_of sheet)

abbrev pub MadeIsAccepted : Type 0
MadeIsAccepted = (sheet : List ℕ) → sheet_fault sheet ≡ 0 → MadeAccepted sheet
