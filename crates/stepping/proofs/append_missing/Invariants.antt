-- `append_missing` meets its contract. The loop's invariant is `Appending`: the rows of the missing clauses passed stand behind the others.
use Rattle.stepping.proofs.Writes.{Appending}
use Rattle.stepping.proofs.append_missing.Given as goal

abbrev pub invariant-loop-m : goal.invariant-loop-m
invariant-loop-m l = Appending l.initial.t l.base l.count l.old l.buffer l.places l.kept l.moved l.t l.now l.m
