-- `positive` counts over the words: the number so far and that of the words to come make up the whole.
use Prim.Native.Nat.{◌+◌, ◌-◌, ◌≤◌}
use mathlib.Core.Path.{◌≡◌}
use lib.ListN.{length, drop}
use Rattle.encoding.specs.Coding.{positives}
use Rattle.encoding.proofs.positive.Given as goal

abbrev pub invariant-loop-i : goal.invariant-loop-i
invariant-loop-i l = (l.n + positives (drop l.i l.instance) ≡ positives (drop l.at l.instance)) × (l.n ≤ l.i)
