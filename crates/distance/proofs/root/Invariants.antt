-- `root` answers the nearest whole metre. Its loop keeps an estimate of the root of q / 2,500, in half metres; the measure is the estimate, which falls at each turn.
use Rattle.distance.proofs.Estimates.{Estimate}
use Rattle.distance.proofs.root.Given as goal

abbrev pub invariant-loop-x : goal.invariant-loop-x
invariant-loop-x l = Estimate l.n l.x

abbrev pub decreases-loop-x : goal.decreases-loop-x
decreases-loop-x l = l.x
