-- `carry` meets its contract: k and the number of values are tested, then each value from the last down, which the clause carries if it is in range.
use Rattle.table.specs.Meaning.{table_sizes}
use Rattle.completion.proofs.CarryTurns.{CarriedFrom}
use Rattle.completion.proofs.carry.Given as goal

abbrev pub invariant-loop-i : goal.invariant-loop-i
invariant-loop-i l = CarriedFrom (table_sizes l.t) l.k l.fixed l.i l.values

abbrev pub decreases-loop-i : goal.decreases-loop-i
decreases-loop-i l = l.i
