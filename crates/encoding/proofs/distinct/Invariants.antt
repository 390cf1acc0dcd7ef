-- `distinct` goes through the words: the count is the number of rows of those passed.
use Prim.Native.Nat.{◌-◌}
use lib.ListN.{length}
use Rattle.clause.specs.Packed.{signs_of}
use Rattle.encoding.proofs.Looking.{Counted}
use Rattle.encoding.proofs.distinct.Given as goal

abbrev pub invariant-loop-i : goal.invariant-loop-i
invariant-loop-i l = Counted (signs_of l.fulls) l.at l.instance l.pending l.count l.i
