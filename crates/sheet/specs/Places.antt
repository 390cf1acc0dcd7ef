-- Inner: positions in code, and as they stand in a sheet's words; no statement for users rests on it.
use Rattle.std.specs.Prelude.{ℕ, ◌+◌, List, get_or}
use Rattle.sheet.specs.Sheet.{Point, easting_kind, northing_kind, offset_of}
use Rattle.sheet.specs.declared.Place.{Place}

abbrev pub point_of : Place → Point
point_of p = record { easting = p.easting; northing = p.northing }

-- the position whose easting is the word at this index
abbrev pub point_at : List ℕ → ℕ → Point
point_at ws at = record { easting = offset_of easting_kind (get_or ws at 0); northing = offset_of northing_kind (get_or ws (at + 1) 0) }
