-- `clear` meets its contract: the loop keeps that the first i words from `at` on are zeros and the rest is as it was. The measure is the number of words left.
use Prim.Native.Nat.{◌-◌, ◌≤◌}
use mathlib.Core.Path.{◌≡◌}
use lib.ListN.{length, replicate}
use lib.Seq.{paste}
use Rattle.rows.specs.Raw.{row_width}
use Rattle.storing.proofs.clear.Given as goal

abbrev pub invariant-loop-i : goal.invariant-loop-i
invariant-loop-i l = (l.i ≤ row_width) × (length l.t ≡ length l.initial.t) × (l.t ≡ paste l.initial.t l.at (replicate row_width 0) l.i)

abbrev pub decreases-loop-i : goal.decreases-loop-i
decreases-loop-i l = row_width - l.i
