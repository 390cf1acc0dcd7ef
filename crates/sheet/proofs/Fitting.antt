-- The stations of an accepted sheet: each one's words are all there, and its size is at most 8. The view is what the code that goes
-- from station to station keeps.
use Prim.Native.Nat.{ℕ, zero, suc, ◌+◌, ◌*◌, ◌≤◌}
use native.Mathlib.Numerals.{one-add}
use native.Mathlib.Omega.{arith}
use mathlib.Core.Path.{◌≡◌, refl}
use mathlib.Core.Bool.{Bool, true, false, ◌&&◌, cond, false≢true}
use mathlib.Core.List.{List, [], ◌∷◌}
use lib.ListN.{length, get_or, drop}
use lib.Dec.{eqb}
use borrow.Author.Tests.{eqb-false}
use Rattle.words.specs.Layout.{payload_of}
use Rattle.fields.specs.Limits.{max_values}
use Rattle.fields.specs.Front.{size_in}
use Rattle.sheet.proofs.Located.{size_payload}
use Rattle.input.proofs.Validating.{headed_payload}
use Rattle.input.proofs.Acceptance.{passed}
use Rattle.sheet.specs.Sheet.{sheet_fault}
use Rattle.sheet.specs.Phases.{good_positions, good_stations}
use Rattle.sheet.proofs.Located.{positions_inside}
use Rattle.sheet.proofs.Sheets.{whole_apart}
use Rattle.sheet.proofs.Acceptance.{sheet_headed}

-- the size that the first word gives, and the words behind that station
abbrev pub size_at : List ℕ → ℕ
size_at ws = payload_of (get_or ws 0 0)

abbrev pub after_station : List ℕ → List ℕ
after_station ws = drop (1 + 2 * size_at ws) ws

-- k stations stand in front of the words, with all their words
pub data Fit : ℕ → List ℕ → Type 0 where
  no_station : {ws : List ℕ} → Fit 0 ws
  one_more : {ws : List ℕ} {k : ℕ} → size_at ws ≤ max_values → 1 + 2 * size_at ws ≤ length ws → Fit k (after_station ws) → Fit (suc k) ws

good_fit : (k : ℕ) (ws : List ℕ) → good_stations k ws ≡ true → Fit k ws
unfolding good_stations
good_fit zero ws e = no_station
good_fit (suc k) [] e = absurd (false≢true e)
good_fit (suc k) (w ∷ ws) e =
    go (eqb (size_in w) 0) (good_positions (size_in w) ws) refl refl e (λ h. good_fit k (drop (2 * size_in w) ws) h)
  where
    go : (b c : Bool) → eqb (size_in w) 0 ≡ b → good_positions (size_in w) ws ≡ c
        → cond b false (c && good_stations k (drop (2 * size_in w) ws)) ≡ true
        → (good_stations k (drop (2 * size_in w) ws) ≡ true → Fit k (drop (2 * size_in w) ws)) → Fit (suc k) (w ∷ ws)
    go true c f g e ih = absurd (false≢true e)
    go false false f g e ih = absurd (false≢true e)
    go false true f g e ih =
        let n = eqb-false (size_in w) 0 f in
        let s = size_payload w (size_in w) refl (omega arith) in
        one_more {ws = w ∷ ws} {k = k} (omega arith) (omega (arith, positions_inside (size_in w) ws g)) (rw (one-add, s.0) (ih e))

pub stations_fit : (ws : List ℕ) → sheet_fault ws ≡ 0 → Fit (size_at ws) (drop 1 ws)
stations_fit ws fine =
    let (n, h) = sheet_headed ws fine in
    rw (headed_payload ws n h) (good_fit n (drop 1 ws) (passed (good_stations n (drop 1 ws)) (sheet_fault ws) _ (whole_apart ws n h) fine).0)
