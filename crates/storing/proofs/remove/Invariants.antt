-- `remove` meets its contract: the loop keeps `Closing`, and clearing the last place ends it. The measure is the number of rows left to move.
use Prim.Native.Nat.{◌-◌}
use Rattle.storing.proofs.Closing.{Closing}
use Rattle.storing.proofs.remove.Given as goal

abbrev pub invariant-loop-j : goal.invariant-loop-j
invariant-loop-j l = Closing l.initial.t l.base l.count l.k l.t l.j l.at

abbrev pub decreases-loop-j : goal.decreases-loop-j
decreases-loop-j l = l.count - l.j
