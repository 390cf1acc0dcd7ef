-- The loops that write: each turn stores the front of what is still to come. The invariant is one equation, "what the slice is to
-- become is the slice now with the rest stored from the present index on"; here are its turns and ends.
use Prim.Native.Nat.{ℕ, zero, suc, ◌+◌, ◌-◌, ◌*◌, ◌≤◌, ◌<◌}
use native.Mathlib.Nat.{add-zero}
use native.Mathlib.Numerals.{add-one, add-two, add-three}
use native.Mathlib.Omega.{arith}
use mathlib.Core.Path.{◌≡◌, refl, sym, ap, ap₂, ◌∙◌}
use mathlib.Core.List.{List, [], ◌∷◌, ◌++◌, map}
use Rattle.std.proofs.Common.{take, drop-cons, drop_of_length-le}
use Rattle.std.proofs.lemmas.List.{append_assoc, drop-drop}
use Rattle.std.proofs.lemmas.List.Edits.{sets-eq}
use lib.ListN.{length, get_or, set, drop}
use lib.Seq.{sets}
use Rattle.words.specs.Layout.{payload_of, binding_word, cost_word}
use Rattle.fields.specs.Limits.{max_values}
use Rattle.sheet.specs.Sheet.{Point, leg_count, points_from, stations_from, sheet_fault, positions_of, sheet_sizes}
use Rattle.sheet.specs.Calls.{travel}
use Rattle.making.specs.Made.{Leg, leg_words, all_leg_words, legs_to, legs_between, legs_from}
use Rattle.sheet.specs.Places.{point_at}
use Rattle.sheet.proofs.Located.{points_length}
use Rattle.sheet.proofs.Acceptance.{accepted_sheet}
use Rattle.sheet.proofs.Fitting.{Fit, size_at, stations_fit}
use Rattle.making.proofs.GoodLegs.{legs_to-length, legs_between-length}
use Rattle.making.proofs.Reading.{leg_words-length}
use Rattle.sheet.proofs.Walking.{FitAt, fit_at, points_next, stations_next}

pub sets_append : (l : List ℕ) (i : ℕ) (xs ys : List ℕ) → sets l i (xs ++ ys) ≡ sets (sets l i xs) (i + length xs) ys
sets_append l i [] ys = rw (add-zero i)
sets_append l i (x ∷ xs) ys =
    let e : suc i + length xs ≡ i + suc (length xs) = omega arith in
    sets_append (set l i x) (suc i) xs ys ∙ ap (λ n. sets (sets (set l i x) (suc i) xs) n ys) e

leg_words-append : (xs ys : List Leg) → all_leg_words (xs ++ ys) ≡ all_leg_words xs ++ all_leg_words ys
unfolding all_leg_words
leg_words-append [] ys = refl
leg_words-append (l ∷ ls) ys = ap (λ ws. leg_words l ++ ws) (leg_words-append ls ys)

-- legs in front stored, the others to come
legs_stored : (t : List ℕ) (o : ℕ) (xs ys : List Leg) (k : ℕ) → length xs ≡ k
    → sets t o (all_leg_words (xs ++ ys)) ≡ sets (sets t o (all_leg_words xs)) (o + 3 * k) (all_leg_words ys)
legs_stored t o xs ys k e =
    let n : length (all_leg_words xs) ≡ 3 * k = omega (arith, leg_words-length xs) in
    rw (leg_words-append xs ys, sets_append t o (all_leg_words xs) (all_leg_words ys), n)

-- ---- copying

pub copy_next : (whole t ws : List ℕ) (o i : ℕ) → whole ≡ sets t (o + i) (drop i ws) → i < length ws
    → whole ≡ sets (set t (o + i) (get_or ws i 0)) (o + (i + 1)) (drop (i + 1) ws)
copy_next whole t ws o i inv h =
    let e : o + (i + 1) ≡ suc (o + i) = omega arith in
    rw (e, add-one i) (rw (drop-cons ws i 0 h) at inv)

pub copy_ends : (whole t ws : List ℕ) (o i : ℕ) → whole ≡ sets t o (drop i ws) → length ws ≤ i → t ≡ whole
copy_ends whole t ws o i inv h = sym (rw (drop_of_length-le ws {i = i} h) at inv)

-- ---- one leg

pub leg_stored : (t : List ℕ) (at v a b m first second third : ℕ) → first ≡ binding_word v a → second ≡ binding_word (v + 1) b → third ≡ cost_word m
    → set (set (set t at first) (at + 1) second) (at + 2) third ≡ sets t at (leg_words (record { variable = v; value = a; next_value = b; metres = m }))
leg_stored t at v a b m first second third x y z =
    let s : second ≡ binding_word (suc v) b = rw add-one at y in
    rw (add-one at, add-two at, x, s, z)

-- ---- legs from one position

-- nothing is passed yet
all_ahead : (ws : List ℕ) (first size : ℕ) → points_from size (drop first ws) ≡ points_from (size - 0) (drop (first + 2 * 0) ws)
all_ahead ws first size =
    let e : size - 0 ≡ size = omega arith in
    let f : first + 2 * 0 ≡ first = omega arith in
    rw (e, f)

module _ (ws : List ℕ) (i a : ℕ) (p : Point) (first size : ℕ) where
  pub to_starts : (t : List ℕ) (o : ℕ)
      → sets t o (all_leg_words (legs_to i a p 0 (points_from size (drop first ws))))
      ≡ sets t o (all_leg_words (legs_to i a p 0 (points_from (size - 0) (drop (first + 2 * 0) ws))))
  to_starts t o = ap (λ qs. sets t o (all_leg_words (legs_to i a p 0 qs))) (all_ahead ws first size)

  pub to_next : (whole t t' : List ℕ) (o b : ℕ) → whole ≡ sets t o (all_leg_words (legs_to i a p b (points_from (size - b) (drop (first + 2 * b) ws))))
      → b < size → (m : ℕ) → m ≡ travel p (point_at ws (first + 2 * b))
      → t' ≡ sets t o (leg_words (record { variable = i; value = a; next_value = b; metres = m }))
      → whole ≡ sets t' (o + 3) (all_leg_words (legs_to i a p (b + 1) (points_from (size - (b + 1)) (drop (first + 2 * (b + 1)) ws))))
  unfolding legs_to all_leg_words
  to_next whole t t' o b inv h m cost stored =
      let e : size - b ≡ suc (size - (b + 1)) = omega arith in
      let f : first + 2 * b + 2 ≡ first + 2 * (b + 1) = omega arith in
      rw (stored, cost, add-one b, add-three o) (rw (e, points_next (size - (b + 1)) (first + 2 * b) ws, f, add-one b) at inv)

  pub to_ends : (whole t : List ℕ) (o : ℕ) → whole ≡ sets t o (all_leg_words (legs_to i a p size (points_from (size - size) (drop (first + 2 * size) ws)))) → t ≡ whole
  unfolding legs_to all_leg_words points_from
  to_ends whole t o inv = let e : size - size ≡ 0 = omega arith in sym (rw e at inv)

-- ---- legs between two variables

module _ (ws : List ℕ) (i : ℕ) (qs : List Point) (first size m : ℕ) (many : length qs ≡ m) where
  pub between_starts : (t : List ℕ) (o : ℕ)
      → sets t o (all_leg_words (legs_between i 0 (points_from size (drop first ws)) qs))
      ≡ sets t o (all_leg_words (legs_between i 0 (points_from (size - 0) (drop (first + 2 * 0) ws)) qs))
  between_starts t o = ap (λ ps. sets t o (all_leg_words (legs_between i 0 ps qs))) (all_ahead ws first size)

  pub between_next : (whole t t' : List ℕ) (o o' a : ℕ) → whole ≡ sets t o (all_leg_words (legs_between i a (points_from (size - a) (drop (first + 2 * a) ws)) qs))
      → a < size → (p : Point) → p ≡ point_at ws (first + 2 * a) → o' ≡ o + 3 * m → t' ≡ sets t o (all_leg_words (legs_to i a p 0 qs))
      → whole ≡ sets t' o' (all_leg_words (legs_between i (a + 1) (points_from (size - (a + 1)) (drop (first + 2 * (a + 1)) ws)) qs))
  unfolding legs_between
  between_next whole t t' o o' a inv h p at moved stored =
      let e : size - a ≡ suc (size - (a + 1)) = omega arith in
      let f : first + 2 * a + 2 ≡ first + 2 * (a + 1) = omega arith in
      let rest : List Leg = legs_between i (suc a) (points_from (size - (a + 1)) (drop (first + 2 * (a + 1)) ws)) qs in
      let split : whole ≡ sets t o (all_leg_words (legs_to i a p 0 qs ++ rest)) =
      rw at (rw (e, points_next (size - (a + 1)) (first + 2 * a) ws, f) at inv) in
      split ∙ legs_stored t o (legs_to i a p 0 qs) rest m (legs_to-length i a p 0 qs ∙ many) ∙ rw (stored, moved, add-one a)

  pub between_ends : (whole t : List ℕ) (o : ℕ) → whole ≡ sets t o (all_leg_words (legs_between i size (points_from (size - size) (drop (first + 2 * size) ws)) qs)) → t ≡ whole
  unfolding legs_between all_leg_words points_from
  between_ends whole t o inv = let e : size - size ≡ 0 = omega arith in sym (rw e at inv)

-- ---- every leg

-- what is still to come of the legs, k stations from index f on
abbrev pub legs_ahead : List ℕ → ℕ → ℕ → ℕ → List Leg
legs_ahead ws i k f = legs_from i (stations_from k (drop f ws))

-- how many they are
abbrev pub count_ahead : List ℕ → ℕ → ℕ → ℕ
count_ahead ws k f = leg_count (map length (stations_from k (drop f ws)))

module _ (ws : List ℕ) (i k f d e g : ℕ) (size : d ≡ payload_of (get_or ws f 0)) (behind : g ≡ f + 1 + 2 * d) (size2 : e ≡ payload_of (get_or ws g 0)) where
  ahead_next : stations_from (suc (suc k)) (drop f ws)
      ≡ points_from d (drop (f + 1) ws) ∷ (points_from e (drop (g + 1) ws) ∷ stations_from k (drop (g + 1 + 2 * e) ws))
  ahead_next = rw (stations_next (suc k) f ws, ← size, ← behind, stations_next k g ws, ← size2)

  ahead_tail : stations_from (suc k) (drop g ws) ≡ points_from e (drop (g + 1) ws) ∷ stations_from k (drop (g + 1 + 2 * e) ws)
  ahead_tail = rw (stations_next k g ws, ← size2)

  pub count_ahead_lem : count_ahead ws (suc (suc k)) f ≡ d * e + count_ahead ws (suc k) g
  unfolding leg_count
  count_ahead_lem =
      rw (ahead_next, ahead_tail, points_length d (drop (f + 1) ws), points_length e (drop (g + 1) ws))
      (ap (λ n. d * e + leg_count (n ∷ map length (stations_from k (drop (g + 1 + 2 * e) ws)))) (points_length e (drop (g + 1) ws)))

  pub legs_next : (whole t t' : List ℕ) (o : ℕ) → whole ≡ sets t o (all_leg_words (legs_ahead ws i (suc (suc k)) f))
      → t' ≡ sets t o (all_leg_words (legs_between i 0 (points_from d (drop (f + 1) ws)) (points_from e (drop (g + 1) ws))))
      → whole ≡ sets t' (o + 3 * (d * e)) (all_leg_words (legs_ahead ws (i + 1) (suc k) g))
  unfolding legs_from
  legs_next whole t t' o inv stored =
      let ps : List Point = points_from d (drop (f + 1) ws) in
      let qs : List Point = points_from e (drop (g + 1) ws) in
      let rest : List Leg = legs_from (suc i) (qs ∷ stations_from k (drop (g + 1 + 2 * e) ws)) in
      let split : whole ≡ sets t o (all_leg_words (legs_between i 0 ps qs ++ rest)) = rw ahead_next at inv in
      let many : length (legs_between i 0 ps qs) ≡ d * e = legs_between-length i 0 ps qs ∙ ap₂ (λ x y. x * y) (points_length d (drop (f + 1) ws)) (points_length e (drop (g + 1) ws)) in
      split ∙ legs_stored t o (legs_between i 0 ps qs) rest (d * e) many ∙ rw (stored, ahead_tail, add-one i)

-- with one station ahead, or none, no leg is to come
pub count_none : (ws : List ℕ) (k f : ℕ) → k ≤ 1 → count_ahead ws k f ≡ 0
unfolding leg_count stations_from
count_none ws zero f h = refl
count_none ws (suc zero) f h = refl
count_none ws (suc (suc k)) f h = absurd (omega arith)

pub legs_end : (ws : List ℕ) (i k f : ℕ) (whole t : List ℕ) (o : ℕ) → k ≤ 1 → whole ≡ sets t o (all_leg_words (legs_ahead ws i k f)) → t ≡ whole
unfolding legs_from stations_from all_leg_words
legs_end ws i zero f whole t o h inv = sym inv
legs_end ws i (suc zero) f whole t o h inv = sym inv
legs_end ws i (suc (suc k)) f whole t o h inv = absurd (omega arith)

-- ---- the walk over the stations

-- of n stations i are passed, the next stands at index f, and its legs go from index o on; the last ends at `total`
pub record Left (ws : List ℕ) (n i f o total : ℕ) : Type 0 where
  pub going : i ≤ n
  pub fits : Fit (n - i) (drop f ws)
  pub counted : o + 3 * count_ahead ws (n - i) f ≡ total

pub left_starts : (ws : List ℕ) (n at : ℕ) → sheet_fault ws ≡ 0 → n ≡ length (sheet_sizes ws) → Left ws n 0 1 at (at + 3 * leg_count (sheet_sizes ws))
unfolding sheet_sizes positions_of
left_starts ws n at fine e =
    let a = accepted_sheet ws fine in
    let f : n - 0 ≡ size_at ws = omega (arith, a.head) in
    record { going = omega arith; fits = rw f (stations_fit ws fine); counted = rw f }

pub legs_start : (ws : List ℕ) (n at : ℕ) (t : List ℕ) → sheet_fault ws ≡ 0 → n ≡ length (sheet_sizes ws)
    → sets t at (all_leg_words (legs_from 0 (positions_of ws))) ≡ sets t at (all_leg_words (legs_ahead ws 0 (n - 0) 1))
unfolding positions_of
legs_start ws n at t fine e = let f : n - 0 ≡ size_at ws = omega (arith, (accepted_sheet ws fine).head) in rw f

-- a turn: two stations stand there, of sizes d and e
pub record Turn (ws : List ℕ) (n i f o total d g e : ℕ) : Type 0 where
  pub first : d ≤ max_values
  pub first_whole : g ≤ length ws
  pub second : e ≤ max_values
  pub second_whole : g + 1 + 2 * e ≤ length ws
  pub room : o + 3 * (d * e) ≤ total
  pub next : Left ws n (i + 1) g (o + 3 * (d * e)) total

module _ (ws : List ℕ) (n i f o total : ℕ) (left : Left ws n i f o total) (more : i + 1 < n) where
  pub first_fits : FitAt (suc (n - (i + 2))) f ws
  first_fits =
      let k : n - i ≡ suc (suc (n - (i + 2))) = omega (arith, left.going) in
      fit_at (suc (n - (i + 2))) f ws (rw k at left.fits)

  module _ (d g : ℕ) (size : d ≡ payload_of (get_or ws f 0)) (behind : g ≡ f + 1 + 2 * d) where
    pub second_fits : FitAt (n - (i + 2)) g ws
    second_fits = fit_at (n - (i + 2)) g ws (rw (← size, ← behind) at first_fits.rest)

    pub turn_of : (e : ℕ) → e ≡ payload_of (get_or ws g 0) → Turn ws n i f o total d g e
    turn_of e size2 =
        let k : n - i ≡ suc (suc (n - (i + 2))) = omega (arith, left.going) in
        let k' : n - (i + 1) ≡ suc (n - (i + 2)) = omega (arith, left.going) in
        let c : o + 3 * count_ahead ws (suc (suc (n - (i + 2)))) f ≡ total = rw k at left.counted in
        let a = count_ahead_lem ws i (n - (i + 2)) f d e g size behind size2 in
        let p = first_fits in
        let q = second_fits in
        record {
          first = omega (arith, p.small);
          first_whole = omega (arith, q.whole);
          second = omega (arith, q.small);
          second_whole = omega (arith, q.whole);
          room = omega arith;
          next = record { going = omega arith; fits = rw (k', behind, size) p.rest; counted = rw k' (omega arith) };
        }

    pub turn_legs : (e : ℕ) → e ≡ payload_of (get_or ws g 0) → (whole t t' : List ℕ) → whole ≡ sets t o (all_leg_words (legs_ahead ws i (n - i) f))
        → t' ≡ sets t o (all_leg_words (legs_between i 0 (points_from d (drop (f + 1) ws)) (points_from e (drop (g + 1) ws))))
        → whole ≡ sets t' (o + 3 * (d * e)) (all_leg_words (legs_ahead ws (i + 1) (n - (i + 1)) g))
    turn_legs e size2 whole t t' inv stored =
        let k : n - i ≡ suc (suc (n - (i + 2))) = omega (arith, left.going) in
        let k' : n - (i + 1) ≡ suc (n - (i + 2)) = omega (arith, left.going) in
        rw k' (legs_next ws i (n - (i + 2)) f d e g size behind size2 whole t t' o (rw k at inv) stored)

-- the walk ends where one station is left, or none
pub left_ends : (ws : List ℕ) (n i f o total : ℕ) → Left ws n i f o total → n ≤ i + 1 → o ≡ total
left_ends ws n i f o total left done = omega (arith, left.counted, count_none ws (n - i) f (omega arith))

pub left_legs : (ws : List ℕ) (n i f o total : ℕ) → Left ws n i f o total → n ≤ i + 1 → (whole t : List ℕ)
    → whole ≡ sets t o (all_leg_words (legs_ahead ws i (n - i) f)) → t ≡ whole
left_legs ws n i f o total left done whole t inv = legs_end ws i (n - i) f whole t o (omega arith) inv
