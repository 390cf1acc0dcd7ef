-- The step call and the run: answers and lent slices, for good and refused calls alike.
use Rattle.std.specs.Prelude.{ℕ, min, cond, List, [], ◌++◌, length, drop}
use Rattle.std.proofs.Math.Option.{Option, none, some}
use Rattle.wcsp.specs.Row.{empty_weight}
use Rattle.table.specs.Meaning.{variables_of, table_sizes, own_rows, capacity_of}
use Rattle.table.specs.Valid.{valid_table}
use Rattle.resolution.specs.Answers.{StepAnswer, Refused, Done, Stepped}
use Rattle.resolution.specs.Outcomes.{Outcome, RunAnswer}
use Rattle.stepping.specs.Step.{Stepping, refusing, steps_to, pair_word, with_rows}
use Rattle.resolution.specs.Step.{one_step}
use Rattle.resolution.specs.Run.{Ran, run_rows}

-- a step call's answer, and its table as the call returns
pub record StepReturned : Type 0 where
  pub answer : StepAnswer
  pub table : List ℕ

unfoldable pub step_returns : List ℕ → Option Stepping → StepReturned
step_returns t none = record { answer = Done; table = t }
step_returns t (some (refusing k)) = record { answer = Refused k; table = t }
step_returns t (some (steps_to pr rs)) = record { answer = Stepped (pair_word pr); table = with_rows t rs }

-- step: 9; done; 11; 12; else exactly the next step
unfoldable pub step_call : List ℕ → StepReturned
unfolding step_returns
step_call t =
    cond (valid_table t) (step_returns t (one_step (table_sizes t) (capacity_of t) (own_rows t)))
    (record { answer = Refused 9; table = t })

-- a run's answer, its table and its slice of step words as the call returns
pub record RunReturned : Type 0 where
  pub answer : RunAnswer
  pub table : List ℕ
  pub slice : List ℕ

-- with rows over n variables
abbrev pub run_returns : ℕ → List ℕ → List ℕ → Ran → RunReturned
run_returns n t slice ran =
    record {
      answer = record { outcome = ran.outcome; steps = length ran.made; bound = empty_weight n ran.rows };
      table = with_rows t ran.rows;
      slice = ran.made ++ drop (length ran.made) slice;
    }

-- run: 9; then steps up to the limit and the slice's length
unfoldable pub run_call : List ℕ → ℕ → List ℕ → RunReturned
run_call t limit slice =
    cond (valid_table t) (run_returns (variables_of t) t slice (run_rows (table_sizes t) (capacity_of t) (min limit (length slice)) (own_rows t) []))
    (record { answer = record { outcome = Outcome.Refused 9; steps = 0; bound = 0 }; table = t; slice = slice })
