-- A step and runs by value: one variable of three values with costs 2, 1 and 4 (P2 of document 01), and two variables of two values.
use Rattle.std.specs.Prelude.{ℕ, ◌≡◌, List, [], ◌∷◌}
use Rattle.std.proofs.Math.Option.{some}
use Rattle.wcsp.specs.Row.{Row}
use Rattle.wcsp.specs.Unsettled.{lowest_unsettled}
use Rattle.words.specs.Layout.{step_word}
use Rattle.stepping.specs.Step.{steps_to}
use Rattle.resolution.specs.Outcomes.{Outcome}
use Rattle.resolution.specs.Step.{one_step}
use Rattle.resolution.specs.Run.{Ran, run_rows}

-- the encoding's rows, those after the first step, and those with no pair left
abbrev pub p2_start : List Row
p2_start = record { signs = 6 ∷ []; weight = 2 } ∷ record { signs = 5 ∷ []; weight = 1 } ∷ record { signs = 3 ∷ []; weight = 4 } ∷ []

abbrev pub p2_stepped : List Row
p2_stepped = record { signs = 6 ∷ []; weight = 1 } ∷ record { signs = 3 ∷ []; weight = 4 } ∷ record { signs = 4 ∷ []; weight = 1 } ∷ []

abbrev pub p2_end : List Row
p2_end = record { signs = 3 ∷ []; weight = 2 } ∷ record { signs = 2 ∷ []; weight = 1 } ∷ record { signs = 0 ∷ []; weight = 1 } ∷ []

-- two rows of each of two variables, and a run of up to k steps on them
abbrev pub two_start : List Row
two_start =
    record { signs = 1 ∷ 0 ∷ []; weight = 1 } ∷ record { signs = 2 ∷ 0 ∷ []; weight = 1 }
    ∷ record { signs = 0 ∷ 1 ∷ []; weight = 1 } ∷ record { signs = 0 ∷ 2 ∷ []; weight = 1 } ∷ []

abbrev pub two_ran : ℕ → Ran
two_ran k = run_rows (2 ∷ 2 ∷ []) 4 k two_start []

pub record StepsByValue : Type 0 where
  -- a step call makes one step
  pub single : one_step (3 ∷ []) 3 p2_start ≡ some (steps_to (record { variable = 0; first = 0; second = 1 }) p2_stepped)
  -- done is tested before paused: a run with no step left to make is done where no pair is left, else paused
  pub done_first : (run_rows (3 ∷ []) 3 0 p2_end []).outcome ≡ Outcome.Done
  pub then_paused : (run_rows (3 ∷ []) 3 0 p2_stepped []).outcome ≡ Outcome.Paused
  -- a run climbs: its first step is on variable 0, its second on variable 1; then every variable is settled
  pub on_zero : lowest_unsettled (2 ∷ 2 ∷ []) two_start ≡ 0
  pub on_one : lowest_unsettled (2 ∷ 2 ∷ []) (two_ran 1).rows ≡ 1
  pub settled : lowest_unsettled (2 ∷ 2 ∷ []) (two_ran 9).rows ≡ 2
  pub climbing : (two_ran 9).made ≡ step_word 0 0 1 ∷ step_word 1 0 1 ∷ []
