-- `rebuild` meets its contract: the values from i on are given or chosen, and the rest is rebuilt over them.
use Rattle.assignment.proofs.Tables.{Rebuilding}
use Rattle.assignment.proofs.rebuild.Given as goal

abbrev pub invariant-loop-i : goal.invariant-loop-i
invariant-loop-i l = Rebuilding l.t l.k l.initial.target l.target l.chosen l.i

abbrev pub decreases-loop-i : goal.decreases-loop-i
decreases-loop-i l = l.i
