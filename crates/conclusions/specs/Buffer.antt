-- Inner: a buffer of packed clauses, four blocks each, and the conclusions that a step adds: those that are no tautologies.
use Rattle.std.specs.Prelude.{ℕ, zero, suc, ◌<◌, ◌≤◌, ◌≡◌, List, [], ◌∷◌, length, get_or, drop}
use Rattle.clause.specs.declared.Clause.{Clause}
use Rattle.clause.specs.Packed.{signs_in, signs_of}

-- the first k clauses of the buffer
unfoldable pub clauses_in : ℕ → List ℕ → List (List ℕ)
clauses_in zero buffer = []
clauses_in (suc k) buffer =
    signs_in (get_or buffer 0 0) (get_or buffer 1 0) (get_or buffer 2 0) (get_or buffer 3 0) ∷ clauses_in k (drop 4 buffer)

-- room for 26 clauses, and every block holds three signs and nothing else
pub record PackedBuffer (buffer : List ℕ) : Type 0 where
  pub long : length buffer ≡ 104
  pub blocks : (i : ℕ) → get_or buffer i 0 < 16777216

-- no sign of x is greater than the full sign beside it, so that each has its complement
abbrev pub Below : Clause → Clause → Type 0
Below x fulls = (i : ℕ) → get_or (signs_of x) i 0 ≤ get_or (signs_of fulls) i 0
