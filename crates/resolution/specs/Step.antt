-- One step on rows: the step of Steps, on the next pair.
use Rattle.std.specs.Prelude.{ℕ, List}
use Rattle.std.proofs.Math.Option.{Option, none, some}
use Rattle.wcsp.specs.Row.{Row}
use Rattle.wcsp.specs.Resolve.{Pair, next_pair, resolve}
use Rattle.stepping.specs.Step.{Stepping, allowed}

-- none: no pair is left
unfoldable pub on_pair : List ℕ → ℕ → List Row → Option Pair → Option Stepping
unfolding allowed
on_pair ds cap rs none = none
on_pair ds cap rs (some pr) = some (allowed cap pr (resolve ds pr rs))

unfoldable pub one_step : List ℕ → ℕ → List Row → Option Stepping
unfolding on_pair
one_step ds cap rs = on_pair ds cap rs (next_pair ds rs)
