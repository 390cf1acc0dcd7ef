-- Inner: what the lines take of a plan.
use Rattle.std.specs.Prelude.{ℕ, ◌≤◌, ◌<◌, ◌≡◌, List, length, get_or}
use Rattle.sheet.specs.Sheet.{sheet_fault, sheet_sizes}

-- bytes that hold a value of every variable of an accepted sheet
pub record HoldsPlan (sheet plan : List ℕ) : Type 0 where
  pub fine : sheet_fault sheet ≡ 0
  pub long : length (sheet_sizes sheet) ≤ length plan
  pub values : (v : ℕ) → v < length (sheet_sizes sheet) → get_or plan v 0 < get_or (sheet_sizes sheet) v 0
