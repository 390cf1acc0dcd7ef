-- `tail_weight` meets its contract: the sum so far and the rows from i on give the whole, and a sum above the greatest weight ends the loop.
use Prim.Native.Nat.{◌-◌}
use Rattle.completion.proofs.Summing.{Summing}
use Rattle.completion.proofs.tail_weight.Given as goal

abbrev pub invariant-loop-i : goal.invariant-loop-i
invariant-loop-i l = Summing l.t l.base l.count l.k l.values l.i l.sum

abbrev pub decreases-loop-i : goal.decreases-loop-i
decreases-loop-i l = l.count - l.i
