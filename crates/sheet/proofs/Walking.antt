-- Stations and positions at an index of the sheet's words: what stands there, what follows, and where a walk from station to station comes to.
use Prim.Native.Nat.{ℕ, zero, suc, ◌+◌, ◌-◌, ◌*◌, ◌≤◌, ◌<◌}
use native.Mathlib.Nat.{add-zero}
use native.Mathlib.Omega.{arith}
use mathlib.Core.Path.{◌≡◌, sym, ap, ◌∙◌}
use mathlib.Core.List.{List, [], ◌∷◌}
use lib.ListN.{length, get_or, drop, length-drop, get_or-map}
use lib.Seq.{drop-drop, get_or-drop}
use Rattle.words.specs.Layout.{payload_of}
use Rattle.fields.specs.Limits.{max_values}
use Rattle.sheet.specs.Sheet.{Point, offset_of, points_from, stations_from, positions_of, sheet_sizes, sheet_fault}
use Rattle.sheet.specs.Calls.{position_in}
use Rattle.sheet.specs.Places.{point_at}
use Rattle.sheet.proofs.Located.{points_length}
use Rattle.sheet.proofs.Acceptance.{accepted_sheet}
use Rattle.sheet.proofs.Fitting.{Fit, one_more, size_at, stations_fit}

pub first_at : (f : ℕ) (ws : List ℕ) → get_or (drop f ws) 0 0 ≡ get_or ws f 0
first_at f ws = get_or-drop f ws 0 0 ∙ ap (λ n. get_or ws n 0) (add-zero f)

pub points_next : (k f : ℕ) (ws : List ℕ) → points_from (suc k) (drop f ws) ≡ point_at ws f ∷ points_from k (drop (f + 2) ws)
unfolding points_from
points_next k f ws = rw (first_at f ws, get_or-drop f ws 1 0, drop-drop 2 f ws)

pub stations_next : (k f : ℕ) (ws : List ℕ) → stations_from (suc k) (drop f ws)
    ≡ points_from (payload_of (get_or ws f 0)) (drop (f + 1) ws) ∷ stations_from k (drop (f + 1 + 2 * payload_of (get_or ws f 0)) ws)
unfolding stations_from
stations_next k f ws =
    let e : f + (1 + 2 * payload_of (get_or ws f 0)) ≡ f + 1 + 2 * payload_of (get_or ws f 0) = omega arith in
    rw (first_at f ws, drop-drop 1 f ws, drop-drop (1 + 2 * payload_of (get_or ws f 0)) f ws, e)

pub point_is : (ws : List ℕ) (at e n : ℕ) → e ≡ offset_of 8 (get_or ws at 0) → n ≡ offset_of 9 (get_or ws (at + 1) 0)
    → record { easting = e; northing = n } ≡ point_at ws at
point_is ws at e n p q = rw (p, q)

-- a station at index f fits: its size, its words, and the stations behind it
pub record FitAt (k f : ℕ) (ws : List ℕ) : Type 0 where
  pub small : payload_of (get_or ws f 0) ≤ max_values
  pub whole : f + 1 + 2 * payload_of (get_or ws f 0) ≤ length ws
  pub rest : Fit k (drop (f + 1 + 2 * payload_of (get_or ws f 0)) ws)

fit_first : {k : ℕ} {ws : List ℕ} → Fit (suc k) ws → (size_at ws ≤ max_values) × (1 + 2 * size_at ws ≤ length ws) × Fit k (drop (1 + 2 * size_at ws) ws)
fit_first (one_more s h r) = (s, h, r)

pub fit_at : (k f : ℕ) (ws : List ℕ) → Fit (suc k) (drop f ws) → FitAt k f ws
fit_at k f ws fits =
    let e : f + (1 + 2 * payload_of (get_or ws f 0)) ≡ f + 1 + 2 * payload_of (get_or ws f 0) = omega arith in
    let t : (payload_of (get_or ws f 0) ≤ max_values) × (1 + 2 * payload_of (get_or ws f 0) ≤ length (drop f ws)) × Fit k (drop (1 + 2 * payload_of (get_or ws f 0)) (drop f ws)) =
    rw (first_at f ws) at (fit_first fits) in
    record {
      small = t.0;
      whole = omega (arith, t.1, length-drop f ws);
      rest = rw (drop-drop (1 + 2 * payload_of (get_or ws f 0)) f ws, e) at t.2;
    }

-- the position of value a of d
pub point_at_lem : (d f : ℕ) (ws : List ℕ) (a : ℕ) (p : Point) → a < d → get_or (points_from d (drop f ws)) a p ≡ point_at ws (f + 2 * a)
point_at_lem zero f ws a p h = absurd (omega arith)
point_at_lem (suc d) f ws zero p h = rw (points_next d f ws) (ap (point_at ws) (let e : f ≡ f + 2 * 0 = omega arith in e))
point_at_lem (suc d) f ws (suc a) p h =
    let e : f + 2 + 2 * a ≡ f + 2 * suc a = omega arith in
    rw (points_next d f ws) (point_at_lem d (f + 2) ws a p (omega arith) ∙ ap (point_at ws) e)

-- ---- a walk over v stations, for the values of a variable

-- after v stations the walk stands at index f
pub record Walked (ws : List ℕ) (variable v f : ℕ) : Type 0 where
  pub behind : v ≤ variable
  pub before : variable < size_at ws
  pub fits : Fit (size_at ws - v) (drop f ws)
  pub same : get_or (positions_of ws) variable [] ≡ get_or (stations_from (size_at ws - v) (drop f ws)) (variable - v) []

pub walk_starts : (ws : List ℕ) (variable : ℕ) → sheet_fault ws ≡ 0 → variable < length (sheet_sizes ws) → Walked ws variable 0 1
unfolding positions_of
walk_starts ws variable fine h =
    let a = accepted_sheet ws fine in
    let e : size_at ws - 0 ≡ size_at ws = omega arith in
    let f : variable - 0 ≡ variable = omega arith in
    record { behind = omega arith; before = omega (arith, a.head); fits = rw e (stations_fit ws fine); same = rw (e, f) }

-- the station that the walk stands at
pub walk_fits : (ws : List ℕ) (variable v f : ℕ) → Walked ws variable v f → FitAt (size_at ws - (v + 1)) f ws
walk_fits ws variable v f w =
    let e : size_at ws - v ≡ suc (size_at ws - (v + 1)) = omega arith in
    fit_at (size_at ws - (v + 1)) f ws (rw e at w.fits)

pub walk_goes : (ws : List ℕ) (variable v f : ℕ) → Walked ws variable v f → v < variable
    → Walked ws variable (v + 1) (f + 1 + 2 * payload_of (get_or ws f 0))
walk_goes ws variable v f w more =
    let e : size_at ws - v ≡ suc (size_at ws - (v + 1)) = omega arith in
    let g : variable - v ≡ suc (variable - (v + 1)) = omega arith in
    record {
      behind = omega arith;
      before = w.before;
      fits = (walk_fits ws variable v f w).rest;
      same = rw (e, g, stations_next (size_at ws - (v + 1)) f ws) at w.same;
    }

-- where the walk ends, the variable's values stand
walk_ends : (ws : List ℕ) (variable f : ℕ) → Walked ws variable variable f
    → get_or (positions_of ws) variable [] ≡ points_from (payload_of (get_or ws f 0)) (drop (f + 1) ws)
walk_ends ws variable f w =
    let e : size_at ws - variable ≡ suc (size_at ws - (variable + 1)) = omega arith in
    let g : variable - variable ≡ 0 = omega arith in
    rw (e, g, stations_next (size_at ws - (variable + 1)) f ws) at w.same

pub walk_value : (ws : List ℕ) (variable f a : ℕ) → Walked ws variable variable f → a < get_or (sheet_sizes ws) variable 0
    → a < payload_of (get_or ws f 0)
unfolding sheet_sizes
walk_value ws variable f a w h =
    let e : get_or (sheet_sizes ws) variable 0 ≡ payload_of (get_or ws f 0) =
    get_or-map length (positions_of ws) variable [] ∙ ap length (walk_ends ws variable f w) ∙
    points_length (payload_of (get_or ws f 0)) (drop (f + 1) ws) in
    omega arith

pub walk_finds : (ws : List ℕ) (variable f a : ℕ) → Walked ws variable variable f → a < get_or (sheet_sizes ws) variable 0
    → point_at ws (f + 1 + 2 * a) ≡ position_in ws variable a
unfolding position_in
walk_finds ws variable f a w h =
    rw (walk_ends ws variable f w) (sym (point_at_lem (payload_of (get_or ws f 0)) (f + 1) ws a _ (walk_value ws variable f a w h)))
