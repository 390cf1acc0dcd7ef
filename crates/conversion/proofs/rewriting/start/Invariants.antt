-- `start` meets its contract: the loop keeps that the first i words are the source's and the others the target's own.
use mathlib.Core.Path.{◌≡◌}
use mathlib.Core.List.{◌++◌}
use lib.ListN.{take, drop}
use Rattle.conversion.proofs.rewriting.start.Given as goal

abbrev pub invariant-loop-i : goal.invariant-loop-i
invariant-loop-i l = l.target ≡ take l.i l.source ++ drop l.i l.initial.target
