-- `move_down` meets its contract: the loop keeps that the first i words from `at` on are those of the row behind and the rest is as it was, so each word
-- is read above every place stored so far. The measure is the number of words left.
use Prim.Native.Nat.{ℕ, ◌+◌, ◌-◌, ◌≤◌}
use mathlib.Core.Path.{◌≡◌}
use mathlib.Core.List.{List}
use lib.ListN.{length, take, drop}
use lib.Seq.{paste}
use Rattle.rows.specs.Raw.{row_width}
use Rattle.storing.proofs.move_down.Given as goal

-- the words of the row behind
abbrev pub behind : List ℕ → ℕ → List ℕ
behind t at = take row_width (drop (at + row_width) t)

abbrev pub invariant-loop-i : goal.invariant-loop-i
invariant-loop-i l = (l.i ≤ row_width) × (length l.t ≡ length l.initial.t) × (l.t ≡ paste l.initial.t l.at (behind l.initial.t l.at) l.i)

abbrev pub decreases-loop-i : goal.decreases-loop-i
decreases-loop-i l = row_width - l.i
