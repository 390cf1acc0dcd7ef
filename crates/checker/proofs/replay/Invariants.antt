-- `replay` meets its contract: what is kept from word to word says that the replay still to go is the whole one.
use mathlib.Core.Path.{◌≡◌}
use Rattle.table.specs.Meaning.{variables_of, domains}
use Rattle.table.specs.Check.{full_clause}
use Rattle.checker.proofs.Going.{Going}
use Rattle.checker.proofs.replay.Given as goal

abbrev pub invariant-loop-steps : goal.invariant-loop-steps
invariant-loop-steps l =
    Going l.initial.t l.derivation l.t l.shape.count l.steps × (l.shape.variables ≡ variables_of l.initial.t) × (l.shape.fulls ≡ full_clause (domains l.initial.t))
