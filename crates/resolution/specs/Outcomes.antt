-- What a run answers, as definitions and theorems have it: a refusal by its number. And the run's own answer, taken to it.
use Rattle.std.specs.Prelude.{ℕ}
use Rattle.fields.specs.Numbers.{number_of}
use Rattle.resolution.specs.declared.Outcome.{Outcome as Told}
use Rattle.resolution.specs.declared.RunAnswer.{RunAnswer as Answered}

-- how a run ended: no pair left, limit or end of slice reached, or the number of a refusal
pub data Outcome : Type 0 where
  Done : Outcome
  Paused : Outcome
  Refused : ℕ → Outcome

-- a run's outcome, the steps made, and the empty row's weight in the table that it leaves
pub record RunAnswer : Type 0 where
  pub outcome : Outcome
  pub steps : ℕ
  pub bound : ℕ

abbrev pub outcome_of : Told → Outcome
outcome_of Told.Done = Done
outcome_of Told.Paused = Paused
outcome_of (Told.Refused r) = Refused (number_of r)

abbrev pub run_answer_of : Answered → RunAnswer
run_answer_of a = record { outcome = outcome_of a.outcome; steps = a.steps; bound = a.bound }
