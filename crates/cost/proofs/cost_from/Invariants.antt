-- `cost_from` sums over the words: the sum and what the words still to come add make up the whole, which fits.
use Prim.Native.Nat.{◌+◌}
use mathlib.Core.Path.{◌≡◌}
use mathlib.Core.Bool.{true}
use lib.ListN.{drop}
use Rattle.cost.specs.Costing.{cost_from}
use Rattle.cost.proofs.cost_from.Given as goal

abbrev pub invariant-loop-i : goal.invariant-loop-i
invariant-loop-i l =
    l.sum + cost_from l.plan l.matched (drop l.i l.words) ≡ cost_from l.plan true (drop l.at l.words)
