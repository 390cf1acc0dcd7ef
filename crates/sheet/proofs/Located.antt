-- The stations of a sheet: what one that was read tells, and that reading one after another answers the sizes of all and leaves the entries' words.
use Rattle.std.proofs.Common.{ℕ, zero, suc, ◌+◌, ◌-◌, ◌*◌, ◌≤◌, ◌<◌, ◌≡◌, Bool, true, false, ◌&&◌, cond, List, [], ◌∷◌, ◌++◌, map, length, drop, refl, sym, ap, ◌∙◌, arith, Ok, Err, append-nil}
use Rattle.std.proofs.lemmas.List.{append_assoc, length-append, length-drop}
use mathlib.Core.Bool.{false≢true}
use lib.Dec.{eqb}
use borrow.Author.Tests.{eqb-false, ne_eqb}
use Rattle.words.specs.Layout.{payload_of}
use Rattle.fields.specs.Limits.{max_values}
use Rattle.fields.specs.Front.{size_in}
use Rattle.fields.specs.declared.refusals.Fault.TheVariants.{BadVariable}
use Rattle.fields.specs.declared.refusals.Fault.{Fault}
use Rattle.fields.proofs.Fronts.{size_some}
use Rattle.sheet.specs.Sheet.{points_from, stations_from, behind_stations}
use Rattle.sheet.specs.Phases.{place_next, good_positions, good_stations, station_next}
use Rattle.sheet.proofs.Coordinates.{next_inside}

-- ---- a station word

-- the words start with a station word of size d
pub data Sized : List ℕ → ℕ → Type 0 where
  with_size : {w d : ℕ} {ws : List ℕ} → 1 ≤ d → size_in w ≡ d → Sized (w ∷ ws) d

-- a size is 1 to 8, and the whole payload of its word
pub size_payload : (w d : ℕ) → size_in w ≡ d → 1 ≤ d → (payload_of w ≡ d) × (d ≤ max_values)
size_payload w d e h =
    let (k, p, l, m) = size_some w (λ (z : size_in w ≡ 0). let q : d ≡ 0 = sym e ∙ z in omega arith) in
    (sym p ∙ e, omega arith)

pub sized_bounds : (ws : List ℕ) (d : ℕ) → Sized ws d → (1 ≤ d) × (d ≤ max_values) × (1 ≤ length ws)
sized_bounds [] d x' = elim x' [ ]
sized_bounds (w ∷ ws) d (with_size h e) = let s = size_payload w d e h in omega arith

-- ---- the positions of d values

-- they stand within the words
pub positions_inside : (d : ℕ) (ws : List ℕ) → good_positions d ws ≡ true → 2 * d ≤ length ws
unfolding good_positions
positions_inside zero ws e = omega arith
positions_inside (suc d) ws e =
    go (place_next 8 ws) (place_next 9 (drop 1 ws)) refl refl e (λ h. positions_inside d (drop 2 ws) h)
  where
    go : (a b : Bool) → place_next 8 ws ≡ a → place_next 9 (drop 1 ws) ≡ b
        → (a && b && good_positions d (drop 2 ws)) ≡ true → (good_positions d (drop 2 ws) ≡ true → 2 * d ≤ length (drop 2 ws)) → 2 * suc d ≤ length ws
    go true true f g e ih = omega (arith, ih e, length-drop 2 ws, next_inside 9 (drop 1 ws) g, length-drop 1 ws)
    go true false f g e ih = absurd (false≢true e)
    go false b f g e ih = absurd (false≢true e)

pub points_length : (d : ℕ) (ws : List ℕ) → length (points_from d ws) ≡ d
unfolding points_from
points_length zero ws = refl
points_length (suc d) ws = ap suc (points_length d (drop 2 ws))

-- ---- one station more

module _ (k d : ℕ) where
  pub good_more : (ws : List ℕ) → Sized ws d → good_positions d (drop 1 ws) ≡ true → good_stations (suc k) ws ≡ good_stations k (drop (1 + 2 * d) ws)
  unfolding good_stations
  good_more [] x'' g = elim x'' [ ]
  good_more (w ∷ ws) (with_size h e) g =
      let o : 1 + 2 * d ≡ suc (2 * d) = omega arith in
      rw (ne_eqb (size_in w) 0 (omega arith), e, g, o)

  pub sizes_more : (ws : List ℕ) → Sized ws d → map length (stations_from (suc k) ws) ≡ d ∷ map length (stations_from k (drop (1 + 2 * d) ws))
  unfolding stations_from
  sizes_more [] x' = elim x' [ ]
  sizes_more (w ∷ ws) (with_size h e) = rw ((size_payload w d e h).0, points_length d ws)

  pub behind_more : (ws : List ℕ) → Sized ws d → behind_stations (suc k) ws ≡ behind_stations k (drop (1 + 2 * d) ws)
  unfolding behind_stations
  behind_more [] x' = elim x' [ ]
  behind_more (w ∷ ws) (with_size h e) = rw (size_payload w d e h).0

-- ---- what the reader of one station tells

-- a size that it answers
pub station_sized : (ws : List ℕ) (d : ℕ) → Ok d ≡ station_next ws → Sized ws d × (good_positions d (drop 1 ws) ≡ true)
unfolding station_next
station_sized [] d e = let z : ◌≡◌ {A = ℕ} 0 1 = cc in absurd (omega arith)
station_sized (w ∷ ws) d e = go (eqb (size_in w) 0) (good_positions (size_in w) ws) refl refl e
  where
    go : (a b : Bool) → eqb (size_in w) 0 ≡ a → good_positions (size_in w) ws ≡ b
        → Ok d ≡ cond a (Err BadVariable) (cond b (Ok (size_in w)) (Err BadVariable)) → Sized (w ∷ ws) d × (good_positions d ws ≡ true)
    go true b f g h = let z : ◌≡◌ {A = ℕ} 0 1 = cc in absurd (omega arith)
    go false false f g h = let z : ◌≡◌ {A = ℕ} 0 1 = cc in absurd (omega arith)
    go false true f g h =
        let o : size_in w ≡ d = cc in
        let n = eqb-false (size_in w) 0 f in
        (with_size (omega arith) o, rw o at g)

-- a fault
pub station_broken : (k : ℕ) (f : Fault) (ws : List ℕ) → Err f ≡ station_next ws → (f ≡ BadVariable) × (good_stations (suc k) ws ≡ false)
unfolding station_next good_stations
station_broken k f [] e = let o : f ≡ BadVariable = cc in (o, refl)
station_broken k f (w ∷ ws) e = go (eqb (size_in w) 0) (good_positions (size_in w) ws) e
  where
    go : (a b : Bool) → Err f ≡ cond a (Err BadVariable) (cond b (Ok (size_in w)) (Err BadVariable))
        → (f ≡ BadVariable) × (cond a false (b && good_stations k (drop (2 * size_in w) ws)) ≡ false)
    go true b h = let o : f ≡ BadVariable = cc in (o, refl)
    go false false h = let o : f ≡ BadVariable = cc in (o, refl)
    go false true h = let z : ◌≡◌ {A = ℕ} 0 1 = cc in absurd (omega arith)

-- ---- i of n stations are read, of which these are the sizes, and the words behind them are left

pub record StationsSoFar (whole ws : List ℕ) (n i : ℕ) (sizes : List ℕ) : Type 0 where
  pub counted : length sizes ≡ i
  pub good : good_stations n whole ≡ good_stations (n - i) ws
  pub sized : map length (stations_from n whole) ≡ sizes ++ map length (stations_from (n - i) ws)
  pub behind : behind_stations n whole ≡ behind_stations (n - i) ws

pub stations_start : (ws : List ℕ) (n : ℕ) → StationsSoFar ws ws n 0 []
stations_start ws n =
    let e : n - 0 ≡ n = omega arith in
    record { counted = refl; good = rw e; sized = rw e; behind = rw e }

module _ (whole ws : List ℕ) (n i : ℕ) (sizes : List ℕ) (inv : StationsSoFar whole ws n i sizes) where
  pub stations_fault : (f : Fault) → i < n → Err f ≡ station_next ws → (f ≡ BadVariable) × (good_stations n whole ≡ false)
  stations_fault f h e =
      let more : n - i ≡ suc (n - (i + 1)) = omega arith in
      let b = station_broken (n - (i + 1)) f ws e in
      (b.0, inv.good ∙ ap (λ k. good_stations k ws) more ∙ b.1)

  pub stations_more : (d : ℕ) → i < n → Ok d ≡ station_next ws → StationsSoFar whole (drop (1 + 2 * d) ws) n (i + 1) (sizes ++ d ∷ [])
  stations_more d h e =
      let more : n - i ≡ suc (n - (i + 1)) = omega arith in
      let (s, g) = station_sized ws d e in
      record {
        counted = omega (arith, inv.counted, length-append sizes (d ∷ []));
        good = inv.good ∙ ap (λ k. good_stations k ws) more ∙ good_more (n - (i + 1)) d ws s g;
        sized =
            inv.sized
            ∙ ap (λ k. sizes ++ map length (stations_from k ws)) more
            ∙ ap (λ xs. sizes ++ xs) (sizes_more (n - (i + 1)) d ws s)
            ∙ sym (append_assoc sizes (d ∷ []) (map length (stations_from (n - (i + 1)) (drop (1 + 2 * d) ws))));
        behind = inv.behind ∙ ap (λ k. behind_stations k ws) more ∙ behind_more (n - (i + 1)) d ws s;
      }

  pub stations_end : n ≤ i → i ≤ n → (good_stations n whole ≡ true) × (sizes ≡ map length (stations_from n whole)) × (ws ≡ behind_stations n whole)
  unfolding good_stations stations_from behind_stations
  stations_end h l =
      let z : n - i ≡ 0 = omega arith in (
        inv.good ∙ ap (λ k. good_stations k ws) z,
        sym (inv.sized ∙ ap (λ k. sizes ++ map length (stations_from k ws)) z ∙ append-nil sizes),
        sym (inv.behind ∙ ap (λ k. behind_stations k ws) z),
      )
