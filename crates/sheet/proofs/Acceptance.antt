-- An accepted sheet has sizes and entries within every limit, and positions within the range.
use Prim.Native.Nat.{ℕ, zero, suc, ◌+◌, ◌-◌, ◌*◌, ◌≤◌}
use native.Mathlib.Omega.{arith}
use native.Mathlib.Nat.{mul-le-mul}
use mathlib.Core.Path.{◌≡◌, refl, sym, ap, ◌∙◌}
use mathlib.Core.Bool.{Bool, true, false, ◌&&◌, cond, false≢true}
use mathlib.Core.List.{List, [], ◌∷◌, map}
use lib.ListN.{length, get_or, drop, length-map}
use Rattle.fields.specs.Limits.{max_variables, max_entries}
use lib.Dec.{eqb}
use borrow.Author.Tests.{eqb-false}
use Rattle.words.specs.Layout.{payload_of}
use Rattle.fields.specs.Front.{size_in}
use Rattle.fields.specs.Entries.{Each, nil_each, cons_each, EachSize}
use Rattle.fields.proofs.Sizes.{field_sizes}
use Rattle.entries.specs.Entries.{entries_fault}
use Rattle.entries.proofs.Accepting.{entries_accepted}
use Rattle.sheet.proofs.Located.{with_size, size_payload}
use Rattle.input.proofs.Validating.{Headed, without_words, headed_bounds, headed_payload, headed_by}
use Rattle.input.proofs.Acceptance.{passed}
use Rattle.sheet.specs.Sheet.{leg_count, sheet_stations_fault, sheet_fault, points_from, stations_from, positions_of, sheet_sizes, entry_words_of}
use Rattle.sheet.specs.Phases.{good_positions, good_stations}
use Rattle.sheet.specs.Accepted.{PlacedPoint, AcceptedSheet}
use Rattle.sheet.proofs.Coordinates.{offset_bounded}
use Rattle.sheet.proofs.Located.{sizes_more}
use Rattle.sheet.proofs.Sheets.{stations_length, sizes_are, sizes_number, whole_apart}

pub sheet_headed : (ws : List ℕ) → sheet_fault ws ≡ 0 → (n : ℕ) × Headed ws n
unfolding sheet_fault
sheet_headed [] e = (0, without_words)
sheet_headed (w ∷ ws) e = headed_by (λ n. sheet_stations_fault n 0 [] ws) w ws e

-- ---- sizes and legs

stations_each : (k : ℕ) (ws : List ℕ) → good_stations k ws ≡ true → EachSize (map length (stations_from k ws))
unfolding good_stations stations_from
stations_each zero ws e = nil_each
stations_each (suc k) [] e = absurd (false≢true e)
stations_each (suc k) (w ∷ ws) e =
    go (eqb (size_in w) 0) (good_positions (size_in w) ws) refl e (λ h. stations_each k (drop (2 * size_in w) ws) h)
  where
    go : (b c : Bool) → eqb (size_in w) 0 ≡ b → cond b false (c && good_stations k (drop (2 * size_in w) ws)) ≡ true
        → (good_stations k (drop (2 * size_in w) ws) ≡ true → EachSize (map length (stations_from k (drop (2 * size_in w) ws))))
        → EachSize (map length (stations_from (suc k) (w ∷ ws)))
    go true c f e ih = absurd (false≢true e)
    go false false f e ih = absurd (false≢true e)
    go false true f e ih =
        let n = eqb-false (size_in w) 0 f in
        let h : 1 ≤ size_in w = omega arith in
        let m = (size_payload w (size_in w) refl h).1 in
        let o : 1 + 2 * size_in w ≡ suc (2 * size_in w) = omega arith in
        let q : map length (stations_from (suc k) (w ∷ ws)) ≡ size_in w ∷ map length (stations_from k (drop (2 * size_in w) ws)) =
        sizes_more k (size_in w) (w ∷ ws) (with_size h refl) ∙ ap (λ j. size_in w ∷ map length (stations_from k (drop j (w ∷ ws)))) o in
        rw q (cons_each (h, m) (ih e))

legs_bounded : (ds : List ℕ) → EachSize ds → leg_count ds ≤ 64 * (length ds - 1)
unfolding leg_count
legs_bounded [] r = omega arith
legs_bounded (d ∷ []) r = omega arith
legs_bounded (d ∷ (e ∷ ds)) (cons_each a (cons_each b r)) =
    let m : d * e ≤ 64 = mul-le-mul {n₁ = d} {m₁ = e} {n₂ = 8} {m₂ = 8} a.1 b.1 in
    omega (arith, legs_bounded (e ∷ ds) (cons_each b r))

-- stations that are good have no more legs than there may be entries
pub legs_few : (k : ℕ) (ws : List ℕ) → k ≤ max_variables → good_stations k ws ≡ true → leg_count (map length (stations_from k ws)) ≤ max_entries
legs_few k ws few g =
    let n = length-map (stations_from k ws) length in
    let l = legs_bounded (map length (stations_from k ws)) (stations_each k ws g) in
    omega (arith, stations_length k ws)

-- ---- positions

points_placed : (d : ℕ) (ws : List ℕ) → Each PlacedPoint (points_from d ws)
unfolding points_from
points_placed zero ws = nil_each
points_placed (suc d) ws =
    cons_each (record { easting = offset_bounded 8 (get_or ws 0 0); northing = offset_bounded 9 (get_or ws 1 0) }) (points_placed d (drop 2 ws))

stations_placed : (k : ℕ) (ws : List ℕ) → Each (λ ps. Each PlacedPoint ps) (stations_from k ws)
unfolding stations_from
stations_placed zero ws = nil_each
stations_placed (suc k) ws =
    cons_each (points_placed (payload_of (get_or ws 0 0)) (drop 1 ws)) (stations_placed k (drop (1 + 2 * payload_of (get_or ws 0 0)) ws))

-- ---- the whole

pub accepted_sheet : (ws : List ℕ) → sheet_fault ws ≡ 0 → AcceptedSheet ws
unfolding positions_of
accepted_sheet ws e =
    let (n, h) = sheet_headed ws e in
    let b = headed_bounds ws n h in
    let (g, f) =
    passed (good_stations n (drop 1 ws)) (sheet_fault ws) (entries_fault (sheet_sizes ws) 0 (leg_count (sheet_sizes ws)) (entry_words_of ws))
    (whole_apart ws n h) e in
    let k : length (sheet_sizes ws) ≡ n = sizes_number ws n h in
    let r : EachSize (sheet_sizes ws) = rw (sizes_are ws n h) (stations_each n (drop 1 ws) g) in
    let l = legs_bounded (sheet_sizes ws) r in
    record {
      sizes = field_sizes (sheet_sizes ws) (omega arith) r;
      head = k ∙ sym (headed_payload ws n h);
      legs = omega arith;
      fault = f;
      entries = entries_accepted (sheet_sizes ws) (leg_count (sheet_sizes ws)) (entry_words_of ws) (omega arith) f;
      positions = stations_placed (payload_of (get_or ws 0 0)) (drop 1 ws);
    }
