-- `position` walks over the stations before the variable's; each turn goes behind one station, and where the walk ends the values stand.
use Rattle.sheet.proofs.Walking.{Walked}
use Rattle.sheet.proofs.position.Given as goal

abbrev pub invariant-loop : goal.invariant-loop
invariant-loop l = Walked l.sheet l.variable l.counter l.from
