-- `write_bindings` stores a binding word each turn: with those of the values left they are the words of the whole plan.
use Prim.Native.Nat.{◌+◌}
use mathlib.Core.Path.{◌≡◌}
use lib.ListN.{drop}
use lib.Seq.{sets}
use Rattle.certificate.specs.Certificate.{binding_words}
use Rattle.certificate.proofs.write_bindings.Given as goal

abbrev pub invariant-loop-v : goal.invariant-loop-v
invariant-loop-v l =
    sets l.target (l.at + l.v) (binding_words l.v (drop l.v l.plan)) ≡ sets l.initial.target l.at (binding_words 0 l.plan)
