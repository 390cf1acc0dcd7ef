-- "Input before state, then rising number" (document 01): the tests of a call, the number that they come to, and their order.
use Rattle.std.specs.Prelude.{ℕ, ◌<◌, ◌≡◌, Bool, true, ◌&&◌, cond, List, [], ◌∷◌, eqb, leb, ltb}
use Rattle.fields.specs.Limits.{between}

-- a test of a call: the number that it refuses with, and whether it applies
pub record Test : Type 0 where
  pub number : ℕ
  pub applies : Bool

infix 80 ◌if◌
abbrev pub ◌if◌ : ℕ → Bool → Test
k if b = record { number = k; applies = b }

-- the number of the first test that applies, 0 (success) if none does
unfoldable pub first_of : List Test → ℕ
first_of [] = 0
first_of (t ∷ ts) = cond t.applies t.number (first_of ts)

-- the numbers of "From the input", 1 to 8; those of "From the state" and of document 02 are from 9 on
abbrev pub last_input : ℕ
last_input = 8

abbrev pub first_state : ℕ
first_state = 9

abbrev pub from_input : ℕ → Bool
from_input k = between 1 k last_input

abbrev pub from_state : ℕ → Bool
from_state k = leb first_state k

-- the order of tests: their numbers rise. This is both halves of the sentence, since every number of the input lies below
-- every other.
unfoldable pub in_order : List Test → Bool
in_order [] = true
in_order (t ∷ []) = true
in_order (t ∷ (u ∷ ts)) = ltb t.number u.number && in_order (u ∷ ts)

abbrev pub InputBelowState : Type 0
InputBelowState = (j k : ℕ) → from_input j ≡ true → from_state k ≡ true → j < k

-- the tests of 1 to 5: the faulty word nearest the front has the number f, 0 if no word is faulty
abbrev pub fault_tests : ℕ → List Test
fault_tests f = 1 if eqb f 1 ∷ 2 if eqb f 2 ∷ 3 if eqb f 3 ∷ 4 if eqb f 4 ∷ 5 if eqb f 5 ∷ []

-- a call answers this number: that of the first of its tests that applies, and they are in order
pub record FirstInOrder (tests : List Test) (answered : ℕ) : Type 0 where
  pub order : in_order tests ≡ true
  pub decides : answered ≡ first_of tests
