-- The paper's number and the further fields of a step's and of a run's answer.
use Rattle.std.specs.Prelude.{ℕ, cond, List, [], ◌∷◌, eqb}
use Rattle.resolution.specs.Answers.{StepAnswer, Refused, Done, Stepped}
use Rattle.resolution.specs.Outcomes.{Outcome, RunAnswer}

-- done is a success, as a step is
unfoldable pub step_number : StepAnswer → ℕ
step_number (Refused k) = k
step_number Done = 0
step_number (Stepped word) = 0

-- 1 if no pair is left, else 0; then the step word, 0 if no step was made
unfoldable pub step_fields : StepAnswer → List ℕ
step_fields (Refused k) = 0 ∷ (0 ∷ [])
step_fields Done = 1 ∷ (0 ∷ [])
step_fields (Stepped word) = 0 ∷ (word ∷ [])

-- done and paused are successes
unfoldable pub outcome_number : Outcome → ℕ
outcome_number Outcome.Done = 0
outcome_number Outcome.Paused = 0
outcome_number (Outcome.Refused k) = k

-- 0 done, 1 paused, 2 stopped by 11 or 12; a table refused with 9 was not run, and all its fields are 0
unfoldable pub outcome_field : Outcome → ℕ
outcome_field Outcome.Done = 0
outcome_field Outcome.Paused = 1
outcome_field (Outcome.Refused k) = cond (eqb k 9) 0 2

abbrev pub run_number : RunAnswer → ℕ
run_number ran = outcome_number ran.outcome

-- the outcome, the steps made, the bound
abbrev pub run_fields : RunAnswer → List ℕ
run_fields ran = outcome_field ran.outcome ∷ (ran.steps ∷ (ran.bound ∷ []))
