-- `narrow` meets its contract: the rows passed have left the sign that the loop holds, so the rows from i on give the rest.
use Prim.Native.Nat.{◌-◌}
use Rattle.assignment.proofs.Narrowing.{Met}
use Rattle.assignment.proofs.narrow.Given as goal

abbrev pub invariant-loop-i : goal.invariant-loop-i
invariant-loop-i l = Met l.t l.base l.count l.k l.chosen l.full l.i l.sign

abbrev pub decreases-loop-i : goal.decreases-loop-i
decreases-loop-i l = l.count - l.i
