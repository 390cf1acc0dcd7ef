-- A coordinate's payload: its offset comes back from it, and no other payload has that offset.
use Prim.Native.Nat.{ℕ, ◌+◌, ◌-◌, ◌≤◌, ◌<◌}
use native.Mathlib.Omega.{arith}
use mathlib.Core.Path.{◌≡◌}
use native.Mathlib.Decide.{dec_le}
use borrow.Author.Tests.{le-leb, lt-leb}
use Rattle.words.specs.declared.Word.TheVariants.{Easting, Northing}
use Rattle.std.specs.Prelude.{Some, None}
use Rattle.words.specs.Layout.{coordinate_payload, easting_word, northing_word}
use Rattle.words.specs.Meaning.{of_kind, word_of, coordinate_of}
use Rattle.words.proofs.Reading.{of_kind_lem}

-- ---- the two ranges, each way

pub payload_up : (o : ℕ) → 1000000 ≤ o → o - 1000000 ≡ coordinate_payload o
unfolding coordinate_payload
payload_up o h = rw (le-leb 1000000 o h)

pub payload_down : (o : ℕ) → o < 1000000 → 268435456 + o - 1000000 ≡ coordinate_payload o
unfolding coordinate_payload
payload_down o h = rw (lt-leb 1000000 o h)

pub at_up : (p : ℕ) → p ≤ 1000000 → Some (p + 1000000) ≡ coordinate_of p
unfolding coordinate_of
at_up p h = rw (le-leb p 1000000 h)

pub at_down : (p : ℕ) → 267435456 ≤ p → Some (p - 267435456) ≡ coordinate_of p
unfolding coordinate_of
at_down p h = rw (lt-leb p 1000000 (omega arith), le-leb 267435456 p h)

pub outside : (p : ℕ) → 1000000 < p → p < 267435456 → None ≡ coordinate_of p
unfolding coordinate_of
outside p h h' = rw (lt-leb p 1000000 h, lt-leb 267435456 p h')

pub payload_bounded : (o : ℕ) → o ≤ 2000000 → coordinate_payload o < 268435456
payload_bounded o h = either (dec_le 1000000 o)
  where
    either : Dec (1000000 ≤ o) → coordinate_payload o < 268435456
    either (yes up) = omega (arith, payload_up o up)
    either (no down) = omega (arith, payload_down o (omega arith))

-- ---- there and back

pub coordinate_inverse : (p o : ℕ) → p < 268435456 → coordinate_of p ≡ Some o → (p ≡ coordinate_payload o) × (o ≤ 2000000)
coordinate_inverse p o h e = low (dec_le p 1000000)
  where
    high : 1000000 < p → Dec (267435456 ≤ p) → (p ≡ coordinate_payload o) × (o ≤ 2000000)
    high above (yes down) =
        let f : p - 267435456 ≡ o = cc (at_down p down) in
        omega (arith, payload_down o (omega arith))
    high above (no between) =
        let z : ◌≡◌ {A = ℕ} 0 1 = cc (outside p above (omega arith)) in
        omega arith

    low : Dec (p ≤ 1000000) → (p ≡ coordinate_payload o) × (o ≤ 2000000)
    low (yes up) =
        let f : p + 1000000 ≡ o = cc (at_up p up) in
        omega (arith, payload_up o (omega arith))
    low (no above) = high (omega arith) (dec_le 267435456 p)

-- ---- the two kinds of word that carry one

pub read_easting : (o : ℕ) → o ≤ 2000000 → word_of (easting_word o) ≡ Easting (coordinate_payload o)
unfolding of_kind
read_easting o h = of_kind_lem 8 (coordinate_payload o) (payload_bounded o h)

pub read_northing : (o : ℕ) → o ≤ 2000000 → word_of (northing_word o) ≡ Northing (coordinate_payload o)
unfolding of_kind
read_northing o h = of_kind_lem 9 (coordinate_payload o) (payload_bounded o h)
