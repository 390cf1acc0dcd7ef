-- A step and runs by value, by computation.
use mathlib.Core.Path.{refl}
use Rattle.wcsp.specs.Sign.{has, full, complement, within, present}
use Rattle.wcsp.specs.Clause.{tautology, same, bucket}
use Rattle.wcsp.specs.Row.{add_all, heavy}
use Rattle.wcsp.specs.Rule.{conclusions, permitted}
use Rattle.wcsp.specs.Resolve.{next_pair, resolve}
use Rattle.wcsp.specs.Unsettled.{lowest_unsettled}
use Rattle.stepping.specs.Step.{allowed}
use Rattle.resolution.specs.Step.{one_step}
use Rattle.resolution.specs.Run.{run_rows}
use Rattle.resolution.specs.Witness.{StepsByValue}

pub steps_by_value : StepsByValue
unfolding one_step run_rows allowed next_pair lowest_unsettled resolve conclusions permitted add_all heavy tautology same bucket has full complement within present
steps_by_value = record { single = refl; done_first = refl; then_paused = refl; on_zero = refl; on_one = refl; settled = refl; climbing = refl }
