-- The phases: which of them take a byte, how many bytes they want, and what a length opens.
use Prim.Native.Nat.{ℕ, ◌*◌, ◌≤◌, ◌<◌}
use native.Mathlib.Omega.{arith}
use mathlib.Core.Path.{◌≡◌}
use mathlib.Core.Bool.{true, false, false≢true}
use mathlib.Core.List.{List}
use lib.Dec.{ltb, leb}
use borrow.Author.Tests.{eq-eqb, ne_eqb, lt-ltb, le-ltb, le-leb, lt-leb, ltb-true, leb-true}
use Rattle.wcsp.proofs.Lists.{and_left, and_right}
use Rattle.cutting.specs.declared.Phase.{Phase}
use Rattle.cutting.specs.declared.Found.{Found}
use Rattle.cutting.specs.Cutting.{longest_sheet, opened, takes_in, takes_byte}

-- ---- a phase that takes a byte

pub small_room : (phase : Phase) (room : ℕ) → room < 4 * longest_sheet → false ≡ takes_byte phase room
small_room phase room h = rw (lt-leb (4 * longest_sheet) room h)

module _ (phase : Phase) (room : ℕ) (big : 4 * longest_sheet ≤ room) where
  pub length_takes : (at : ℕ) → phase ≡ Phase.Length at → ltb at 4 ≡ takes_byte phase room
  unfolding takes_in
  length_takes at e = rw (le-leb (4 * longest_sheet) room big, e)

  module _ (at end : ℕ) (e : phase ≡ Phase.Body at end) where
    pub body_takes : at < end → leb end (4 * longest_sheet) ≡ takes_byte phase room
    unfolding takes_in
    body_takes h = rw (le-leb (4 * longest_sheet) room big, e, lt-ltb at end h)

    pub body_past : end ≤ at → ltb at end ≡ takes_byte phase room
    unfolding takes_in
    body_past h = rw (le-leb (4 * longest_sheet) room big, e, le-ltb at end h)

  pub passing_takes : (left : ℕ) → phase ≡ Phase.Passing left → ltb 0 left ≡ takes_byte phase room
  unfolding takes_in
  passing_takes left e = rw (le-leb (4 * longest_sheet) room big, e)

  pub over_takes : phase ≡ Phase.Over → false ≡ takes_byte phase room
  unfolding takes_in
  over_takes e = rw (le-leb (4 * longest_sheet) room big, e)

-- what a phase that takes a byte is known by
module _ (phase : Phase) (room : ℕ) (takes : takes_byte phase room ≡ true) where
  big_room : 4 * longest_sheet ≤ room
  big_room = leb-true (4 * longest_sheet) room (and_left (leb (4 * longest_sheet) room) _ takes)

  known : (it : Phase) → phase ≡ it → takes_in it ≡ true
  known it e = rw e at (and_right (leb (4 * longest_sheet) room) _ takes)

  pub length_taken : (at : ℕ) → phase ≡ Phase.Length at → (at < 4) × (4 ≤ room)
  unfolding takes_in
  length_taken at e = (ltb-true at 4 (known (Phase.Length at) e), omega (arith, big_room))

  pub body_taken : (at end : ℕ) → phase ≡ Phase.Body at end → (at < end) × (end ≤ room)
  unfolding takes_in
  body_taken at end e =
      let t = known (Phase.Body at end) e in (
        ltb-true at end (and_left (ltb at end) _ t),
        omega (arith, big_room, leb-true end (4 * longest_sheet) (and_right (ltb at end) _ t)),
      )

  pub passing_taken : (left : ℕ) → phase ≡ Phase.Passing left → 1 ≤ left
  unfolding takes_in
  passing_taken left e = ltb-true 0 left (known (Phase.Passing left) e)

  pub over_taken : phase ≡ Phase.Over → ⊥
  unfolding takes_in
  over_taken e = false≢true (known Phase.Over e)

-- ---- what a length opens

module _ (words : ℕ) (body : List ℕ) where
  pub opened-none : words ≡ 0 → record { phase = Phase.Length 0; body = body; found = Found.Sheet 0 } ≡ opened words body
  unfolding opened
  opened-none e = rw (eq-eqb words 0 e)

  module _ (some : words ≡ 0 → ⊥) where
    pub opened_long : longest_sheet < words → record { phase = Phase.Passing (4 * words); body = body; found = Found.Length } ≡ opened words body
    unfolding opened
    opened_long h = rw (ne_eqb words 0 some, lt-ltb longest_sheet words h)

    pub opened_sheet : words ≤ longest_sheet → record { phase = Phase.Body 0 (4 * words); body = body; found = Found.Length } ≡ opened words body
    unfolding opened
    opened_sheet h = rw (ne_eqb words 0 some, le-ltb longest_sheet words h)
