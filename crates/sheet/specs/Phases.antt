-- Inner: what the readers of a sheet's stations answer; no statement for users rests on it. Laws in proofs/ join them to the fault of Sheet.
use Rattle.std.specs.Prelude.{ℕ, zero, suc, ◌*◌, Bool, true, false, ◌&&◌, cond, List, [], ◌∷◌, drop, eqb, Option, Some, None, Result, Ok, Err}
use Rattle.fields.specs.Front.{size_in}
use Rattle.fields.specs.declared.refusals.Fault.{Fault}
use Rattle.fields.specs.declared.refusals.Fault.TheVariants.{BadVariable}
use Rattle.sheet.specs.Sheet.{easting_kind, northing_kind, is_place, coordinate_in}

-- the next word is a coordinate of kind k, within the range
abbrev pub place_next : ℕ → List ℕ → Bool
place_next k [] = false
place_next k (w ∷ ws) = is_place (coordinate_in k w)

-- the positions of d values
unfoldable pub good_positions : ℕ → List ℕ → Bool
good_positions zero ws = true
good_positions (suc d) ws = place_next easting_kind ws && place_next northing_kind (drop 1 ws) && good_positions d (drop 2 ws)

-- k stations with their positions
unfoldable pub good_stations : ℕ → List ℕ → Bool
unfolding good_positions
good_stations zero ws = true
good_stations (suc k) [] = false
good_stations (suc k) (w ∷ ws) =
    let d = size_in w in
    cond (eqb d 0) false (good_positions d ws && good_stations k (drop (2 * d) ws))

-- the coordinate of kind k that the next word gives
abbrev pub coordinate_got : Option ℕ → Result ℕ Fault
coordinate_got (Some o) = Ok o
coordinate_got None = Err BadVariable

abbrev pub coordinate_next : ℕ → List ℕ → Result ℕ Fault
coordinate_next k [] = Err BadVariable
coordinate_next k (w ∷ ws) = coordinate_got (coordinate_in k w)

-- the size of the station in front, the positions of all its values standing behind its station word
unfoldable pub station_next : List ℕ → Result ℕ Fault
unfolding good_positions
station_next [] = Err BadVariable
station_next (w ∷ ws) =
    let d = size_in w in
    cond (eqb d 0) (Err BadVariable) (cond (good_positions d ws) (Ok d) (Err BadVariable))
