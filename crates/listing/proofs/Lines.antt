-- The lines of the variables: put one by one from the first on.
use Prim.Native.Nat.{ℕ, zero, suc, ◌+◌}
use native.Mathlib.Nat.{zero-add}
use native.Mathlib.Numerals.{add-one}
use native.Mathlib.Omega.{arith}
use mathlib.Core.Path.{◌≡◌, refl, sym, ap}
use mathlib.Core.List.{List, [], ◌++◌, append_assoc, append-nil}
use lib.ListN.{length, get_or, take}
use Rattle.text.specs.Text.{variable_line}
use Rattle.text.specs.Putting.{Put}
use Rattle.text.proofs.Putting.{put_put}
use Rattle.sheet.specs.Sheet.{sheet_sizes}
use Rattle.listing.specs.Listed.{metres_to, variable_lines, assignment_lines}

-- no bytes put
pub nothing_put : (out : List ℕ) (at : ℕ) → Put out at [] out at
nothing_put out at = (sym (append-nil (take at out)), omega arith, refl)

module _ (sheet plan : List ℕ) where
  line_of : ℕ → List ℕ
  line_of v = variable_line v (get_or plan v 0) (metres_to sheet plan v)

  -- one line more is the last
  lines_next : (v k : ℕ) → variable_lines sheet plan v (suc k) ≡ variable_lines sheet plan v k ++ line_of (v + k)
  unfolding variable_lines line_of
  lines_next v zero = let e : v + 0 ≡ v = omega arith in rw (e, append-nil)
  lines_next v (suc k) =
      let e : v + suc k ≡ suc v + k = omega arith in
      rw (e, append_assoc) (ap (λ (l : List ℕ). line_of v ++ l) (lines_next (suc v) k))

  -- the lines before v are put, and then that of v
  pub line_put : (out : List ℕ) (at v : ℕ) (middle : List ℕ) (between a m : ℕ) (after : List ℕ) (end : ℕ)
      → Put out at (variable_lines sheet plan 0 v) middle between → a ≡ get_or plan v 0 → m ≡ metres_to sheet plan v
      → Put middle between (variable_line v a m) after end → Put out at (variable_lines sheet plan 0 (v + 1)) after end
  unfolding line_of
  line_put out at v middle between a m after end p e f q =
      rw (add-one v, lines_next 0 v, zero-add v, ← e, ← f) (put_put out at _ middle between _ after end p q)

-- the lines of all variables, by the number that the head says
pub lines_put : (sheet plan : List ℕ) (n at : ℕ) (out after : List ℕ) (end : ℕ) → n ≡ length (sheet_sizes sheet)
    → Put out at (variable_lines sheet plan 0 n) after end → Put out at (assignment_lines sheet plan) after end
lines_put sheet plan n at out after end e p = rw (← e) p
