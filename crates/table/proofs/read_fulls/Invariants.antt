-- `read_fulls` meets its contract. The loop keeps the full signs of the sizes read so far, with those of one value behind, and what is left to test.
use Prim.Native.Nat.{◌≤◌, ◌-◌}
use lib.ListN.{drop}
use Rattle.table.proofs.Fronts.{Filled}
use Rattle.table.proofs.read_fulls.Given as goal

abbrev pub invariant-loop-i : goal.invariant-loop-i
invariant-loop-i l = (l.i ≤ l.n) × Filled (drop 1 l.t) l.n l.i l.fulls

abbrev pub decreases-loop-i : goal.decreases-loop-i
decreases-loop-i l = l.n - l.i
