-- `raise` meets its contract. The loop's invariant is `Raising`: the rows at the places passed are raised, and those behind are as they were.
use Rattle.stepping.proofs.Writes.{Raising}
use Rattle.stepping.proofs.raise.Given as goal

abbrev pub invariant-loop-m : goal.invariant-loop-m
invariant-loop-m l = Raising l.initial.t l.base l.count l.places l.kept l.moved l.t l.m
