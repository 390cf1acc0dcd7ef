-- `hunt` meets its contract: the buckets that it has passed over have no pair, and only in the first of them can rows be passed over.
use Rattle.hunt.proofs.Climbing.{Reached}
use Rattle.hunt.proofs.hunt.Given as goal

abbrev pub invariant-loop-s : goal.invariant-loop-s
invariant-loop-s l = Reached l.t l.base l.count l.v l.skip l.from l.fulls l.s l.first l.second
