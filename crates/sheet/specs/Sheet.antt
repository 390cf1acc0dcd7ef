-- Sheets: as instances, with an easting and a northing for each value (document 01: spot) behind its station word.
use Rattle.std.specs.Prelude.{ℕ, zero, suc, ◌+◌, ◌*◌, ◌%◌, Bool, true, false, cond, List, [], ◌∷◌, ◌++◌, map, length, get_or, drop, eqb}
use Rattle.std.specs.Prelude.{Option, Some, None}
use Rattle.words.specs.Layout.{kind_of, payload_of}
use Rattle.words.specs.Meaning.{coordinate_of}
use Rattle.fields.specs.Front.{head_in, headed, size_in}
use Rattle.entries.specs.Entries.{entries_fault}

-- a position, its coordinates in centimetres counted from -1,000,000
pub record Point : Type 0 where
  pub easting : ℕ
  pub northing : ℕ

-- the kinds of coordinate words
abbrev pub easting_kind : ℕ
easting_kind = 8

abbrev pub northing_kind : ℕ
northing_kind = 9

-- the coordinate of a word of kind k; None if the word is of another kind
unfoldable pub coordinate_in : ℕ → ℕ → Option ℕ
coordinate_in k w = cond (eqb (kind_of w) k) (coordinate_of (payload_of w)) None

-- a coordinate within the range, and its offset
unfoldable pub is_place : Option ℕ → Bool
is_place (Some o) = true
is_place None = false

unfoldable pub offset_in : Option ℕ → ℕ
offset_in (Some o) = o
offset_in None = 0

abbrev pub offset_of : ℕ → ℕ → ℕ
offset_of k w = offset_in (coordinate_in k w)

-- an easting in range, and a northing
abbrev pub is_easting : ℕ → Bool
is_easting w = is_place (coordinate_in easting_kind w)

abbrev pub is_northing : ℕ → Bool
is_northing w = is_place (coordinate_in northing_kind w)

-- the number of legs (document 01): one for each value of a variable and each of the next
unfoldable pub leg_count : List ℕ → ℕ
leg_count [] = 0
leg_count (d ∷ []) = 0
leg_count (d ∷ (e ∷ ds)) = d * e + leg_count (e ∷ ds)

-- k stations and m coordinate words of the present one are to come, an easting where m is even; then the entries, the legs counted first
unfoldable pub sheet_stations_fault : ℕ → ℕ → List ℕ → List ℕ → ℕ
unfolding leg_count
sheet_stations_fault zero zero sizes [] = entries_fault sizes 0 (leg_count sizes) []
sheet_stations_fault zero (suc m) sizes [] = 2
sheet_stations_fault (suc k) m sizes [] = 2
sheet_stations_fault zero zero sizes (w ∷ ws) = entries_fault sizes 0 (leg_count sizes) (w ∷ ws)
sheet_stations_fault (suc k) zero sizes (w ∷ ws) =
    let d = size_in w in cond (eqb d 0) 2 (sheet_stations_fault k (2 * d) (sizes ++ (d ∷ [])) ws)
sheet_stations_fault zero (suc m) sizes (w ∷ ws) =
    cond (cond (eqb (suc m % 2) 0) (is_easting w) (is_northing w)) (sheet_stations_fault zero m sizes ws) 2
sheet_stations_fault (suc k) (suc m) sizes (w ∷ ws) =
    cond (cond (eqb (suc m % 2) 0) (is_easting w) (is_northing w)) (sheet_stations_fault (suc k) m sizes ws) 2

-- the fault of a sheet: 0 if it is accepted, as no words at all are, else the number of the faulty word nearest the front
unfoldable pub sheet_fault : List ℕ → ℕ
unfolding sheet_stations_fault headed
sheet_fault [] = 0
sheet_fault (w ∷ ws) = headed 1 (λ n. sheet_stations_fault n 0 [] ws) (head_in w)

-- the positions of d values
unfoldable pub points_from : ℕ → List ℕ → List Point
points_from zero ws = []
points_from (suc d) ws =
    record { easting = offset_of easting_kind (get_or ws 0 0); northing = offset_of northing_kind (get_or ws 1 0) } ∷ points_from d (drop 2 ws)

-- the positions of k stations' values
unfoldable pub stations_from : ℕ → List ℕ → List (List Point)
unfolding points_from
stations_from zero ws = []
stations_from (suc k) ws =
    let d = payload_of (get_or ws 0 0) in points_from d (drop 1 ws) ∷ stations_from k (drop (1 + 2 * d) ws)

-- the words behind k stations
unfoldable pub behind_stations : ℕ → List ℕ → List ℕ
behind_stations zero ws = ws
behind_stations (suc k) ws = behind_stations k (drop (1 + 2 * payload_of (get_or ws 0 0)) ws)

-- what an accepted sheet means: the positions of every variable's values, the sizes, and the words of its entries
unfoldable pub positions_of : List ℕ → List (List Point)
unfolding stations_from
positions_of ws = stations_from (payload_of (get_or ws 0 0)) (drop 1 ws)

unfoldable pub sheet_sizes : List ℕ → List ℕ
unfolding positions_of
sheet_sizes ws = map length (positions_of ws)

unfoldable pub entry_words_of : List ℕ → List ℕ
unfolding behind_stations
entry_words_of ws = behind_stations (payload_of (get_or ws 0 0)) (drop 1 ws)
