-- The faults of a sheet are numbers up to 5.
use Prim.Native.Nat.{ℕ, zero, suc, ◌*◌, ◌%◌, ◌≤◌}
use native.Mathlib.Omega.{arith}
use mathlib.Core.Bool.{cond}
use mathlib.Core.List.{List, [], ◌∷◌, ◌++◌}
use mathlib.Core.Option.{Option, none, some}
use lib.Dec.{eqb}
use Rattle.fields.specs.Front.{head_in, headed, size_in}
use Rattle.entries.proofs.Faults.{entries_small}
use Rattle.input.proofs.Faults.{cond_small}
use Rattle.sheet.specs.Sheet.{is_easting, is_northing, leg_count, sheet_stations_fault, sheet_fault}

stations_small : (k m : ℕ) (sizes ws : List ℕ) → sheet_stations_fault k m sizes ws ≤ 5
unfolding sheet_stations_fault
stations_small zero zero sizes [] = entries_small sizes 0 (leg_count sizes) []
stations_small zero (suc m) sizes [] = omega arith
stations_small (suc k) m sizes [] = omega arith
stations_small zero zero sizes (w ∷ ws) = entries_small sizes 0 (leg_count sizes) (w ∷ ws)
stations_small (suc k) zero sizes (w ∷ ws) =
    let d = size_in w in
    cond_small (eqb d 0) 2 (sheet_stations_fault k (2 * d) (sizes ++ (d ∷ [])) ws) (omega arith) (stations_small k (2 * d) (sizes ++ (d ∷ [])) ws)
stations_small zero (suc m) sizes (w ∷ ws) =
    cond_small (cond (eqb (suc m % 2) 0) (is_easting w) (is_northing w)) (sheet_stations_fault zero m sizes ws) 2
    (stations_small zero m sizes ws) (omega arith)
stations_small (suc k) (suc m) sizes (w ∷ ws) =
    cond_small (cond (eqb (suc m % 2) 0) (is_easting w) (is_northing w)) (sheet_stations_fault (suc k) m sizes ws) 2
    (stations_small (suc k) m sizes ws) (omega arith)

pub sheet_small : (sheet : List ℕ) → sheet_fault sheet ≤ 5
unfolding sheet_fault headed
sheet_small [] = omega arith
sheet_small (w ∷ ws) = go (head_in w)
  where
    go : (o : Option ℕ) → headed 1 (λ n. sheet_stations_fault n 0 [] ws) o ≤ 5
    go none = omega arith
    go (some n) = stations_small n 0 [] ws
