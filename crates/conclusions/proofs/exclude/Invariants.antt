-- `conclusions::exclude` meets its contract. The loop's invariant is `Turn`: what the buffer has, and what is still to come, make up what the contract says.
-- Each way through a turn has its law: no literal at b, b is v, or a literal whose clause is added.
use Rattle.conclusions.proofs.Turns.{Turn}
use Rattle.conclusions.proofs.exclude.Given as goal

abbrev pub invariant-loop-b : goal.invariant-loop-b
invariant-loop-b l = Turn l.initial.buffer l.k l.initial.running l.y l.fulls l.v l.buffer l.count l.b l.running
