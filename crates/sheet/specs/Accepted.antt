-- Inner: what an accepted sheet is known to be, for the functions that read its words again; no statement for users rests on it.
use Rattle.std.specs.Prelude.{ℕ, ◌-◌, ◌*◌, ◌≤◌, ◌≡◌, List, [], length, get_or}
use Rattle.words.specs.Layout.{payload_of}
use Rattle.distance.specs.Metres.{max_offset}
use Rattle.fields.specs.Limits.{max_variables, max_values}
use Rattle.fields.specs.Entries.{Each, FieldSizes, Entries, entries_from}
use Rattle.entries.specs.Entries.{entries_fault}
use Rattle.sheet.specs.Sheet.{Point, leg_count, positions_of, sheet_sizes, entry_words_of}

-- the most legs of a sheet: eleven times eight by eight
abbrev pub max_legs : ℕ
max_legs = (max_variables - 1) * (max_values * max_values)

-- a position's coordinates are offsets within the range
pub record PlacedPoint (p : Point) : Type 0 where
  pub easting : p.easting ≤ max_offset
  pub northing : p.northing ≤ max_offset

pub record AcceptedSheet (ws : List ℕ) : Type 0 where
  pub sizes : FieldSizes (sheet_sizes ws)
  pub head : length (sheet_sizes ws) ≡ payload_of (get_or ws 0 0)
  pub legs : leg_count (sheet_sizes ws) ≤ max_legs
  pub fault : entries_fault (sheet_sizes ws) 0 (leg_count (sheet_sizes ws)) (entry_words_of ws) ≡ 0
  pub entries : Entries (sheet_sizes ws) (leg_count (sheet_sizes ws)) (entries_from [] (entry_words_of ws))
  pub positions : Each (λ ps. Each PlacedPoint ps) (positions_of ws)
