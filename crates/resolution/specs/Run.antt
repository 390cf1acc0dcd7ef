-- Several steps on rows: a run, with its tests before each step in document 01's order.
use Rattle.std.specs.Prelude.{ℕ, zero, suc, List, [], ◌∷◌, ◌++◌}
use Rattle.std.proofs.Math.Option.{Option, none, some}
use Rattle.wcsp.specs.Row.{Row}
use Rattle.wcsp.specs.Resolve.{Pair, next_pair}
use Rattle.stepping.specs.Step.{Stepping, refusing, steps_to, pair_word}
use Rattle.resolution.specs.Outcomes.{Outcome, Done, Paused, Refused}
use Rattle.resolution.specs.Step.{one_step}

-- what a run on rows comes to: its outcome, the rows that it leaves, the words of the steps made
pub record Ran : Type 0 where
  pub outcome : Outcome
  pub rows : List Row
  pub made : List ℕ

-- how a run goes on after the tests before a step
unfoldable pub after : Ran → (ℕ → Ran) → (Pair → List Row → Ran) → Option Stepping → Ran
after ends stops goes none = ends
after ends stops goes (some (refusing number)) = stops number
after ends stops goes (some (steps_to pr rs)) = goes pr rs

-- with no step left to make: done if no pair is left, else paused
unfoldable pub at_limit : List Row → List ℕ → Option Pair → Ran
at_limit rs made none = record { outcome = Done; rows = rs; made = made }
at_limit rs made (some pr) = record { outcome = Paused; rows = rs; made = made }

-- up to k more steps, after those with these words; tested before each: done, paused, then 11 or 12
unfoldable pub run_rows : List ℕ → ℕ → ℕ → List Row → List ℕ → Ran
unfolding after at_limit
run_rows ds cap zero rs made = at_limit rs made (next_pair ds rs)
run_rows ds cap (suc k) rs made =
    after (record { outcome = Done; rows = rs; made = made })
    (λ number. record { outcome = Refused number; rows = rs; made = made })
    (λ pr rs'. run_rows ds cap k rs' (made ++ (pair_word pr ∷ [])))
    (one_step ds cap rs)
