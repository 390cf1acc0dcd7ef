-- `look` meets its contract. The loop's invariant is `Looking`: the clauses passed have their places noted, the missing ones are counted, and a weight too great is marked.
use Rattle.stepping.proofs.Places.{Looking}
use Rattle.stepping.proofs.look.Given as goal

abbrev pub invariant-loop-m : goal.invariant-loop-m
invariant-loop-m l = Looking l.t l.base l.count l.buffer l.kept l.moved l.places l.fresh l.heavy l.m
