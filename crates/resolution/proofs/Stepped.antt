-- One step on rows, by whether a pair is left.
use Prim.Native.Nat.{ℕ}
use mathlib.Core.Path.{◌≡◌}
use mathlib.Core.List.{List}
use mathlib.Core.Option.{none, some}
use Rattle.wcsp.specs.Row.{Row}
use Rattle.wcsp.specs.Resolve.{Pair, next_pair, resolve}
use Rattle.stepping.specs.Step.{allowed}
use Rattle.resolution.specs.Step.{on_pair, one_step}

pub no_step : (ds : List ℕ) (cap : ℕ) (rs : List Row) → next_pair ds rs ≡ none → one_step ds cap rs ≡ none
unfolding one_step on_pair
no_step ds cap rs e = rw e

pub next-step : (ds : List ℕ) (cap : ℕ) (rs : List Row) (pr : Pair) → next_pair ds rs ≡ some pr → one_step ds cap rs ≡ some (allowed cap pr (resolve ds pr rs))
unfolding one_step on_pair
next-step ds cap rs pr e = rw e
