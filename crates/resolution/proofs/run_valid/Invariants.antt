-- `run_valid` meets its contract: what is kept from turn to turn says that the run still to go is the whole run, and each way out of the loop
-- is one of its endings.
use Prim.Native.Nat.{◌+◌, ◌-◌}
use mathlib.Core.Path.{◌≡◌}
use Rattle.table.specs.Meaning.{variables_of, domains}
use Rattle.table.specs.Check.{full_clause}
use Rattle.resolution.proofs.Going.{Going}
use Rattle.resolution.proofs.run_valid.Given as goal

abbrev pub invariant-loop-pair : goal.invariant-loop-pair
invariant-loop-pair l =
    Going l.initial.t l.most l.initial.slice l.t l.slice l.count l.lowest l.skip l.from l.made × (l.base ≡ variables_of l.initial.t + 2) × (l.n ≡ variables_of l.initial.t) × (l.fulls ≡ full_clause (domains l.initial.t))

abbrev pub decreases-loop-pair : goal.decreases-loop-pair
decreases-loop-pair l = l.most - l.made
