-- What a step call answers, as definitions and theorems have it: a refusal by its number. And the call's own result, taken to it.
use Rattle.std.specs.Prelude.{ℕ, Option, Some, None, Result, Ok, Err}
use Rattle.fields.specs.declared.refusals.Refusal.{Refusal}
use Rattle.fields.specs.Numbers.{number_of}

-- the number of a refusal, done, or the step word
pub data StepAnswer : Type 0 where
  Refused : ℕ → StepAnswer
  Done : StepAnswer
  Stepped : ℕ → StepAnswer

abbrev pub step_answer_of : Result (Option ℕ) Refusal → StepAnswer
step_answer_of (Err r) = Refused (number_of r)
step_answer_of (Ok None) = Done
step_answer_of (Ok (Some word)) = Stepped word
