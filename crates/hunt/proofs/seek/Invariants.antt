-- `seek` meets its contract: the rows passed do not go with x, so the search from j on answers for the whole.
use Rattle.hunt.proofs.Seeking.{Sought}
use Rattle.hunt.proofs.seek.Given as goal

abbrev pub invariant-loop-j : goal.invariant-loop-j
invariant-loop-j l = Sought l.t l.base l.count l.x l.v l.fulls l.from l.j
