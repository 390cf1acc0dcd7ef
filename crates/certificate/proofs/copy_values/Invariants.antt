-- `copy_values` stores a value each turn: with those of the words left they are the values of all words.
use mathlib.Core.Path.{◌≡◌}
use mathlib.Core.List.{map}
use lib.ListN.{drop}
use lib.Seq.{sets}
use Rattle.words.specs.Layout.{value_in}
use Rattle.certificate.proofs.copy_values.Given as goal

abbrev pub invariant-loop-v : goal.invariant-loop-v
invariant-loop-v l =
    sets l.plan l.v (map value_in (drop l.v l.bindings)) ≡ sets l.initial.plan 0 (map value_in l.bindings)
