-- Document 02, tables from last year: "An old table with rows is accepted by the first conversion only".
use Rattle.std.specs.Prelude.{ℕ, ◌<◌, ◌≡◌, true, List}
use Rattle.fields.specs.Answers.{refused}
use Rattle.table.specs.Meaning.{row_count}
use Rattle.table.specs.Valid.{valid_table_in}
use Rattle.table.specs.Five.{five_form}
use Rattle.conversion.specs.Calls.{to_five_call}
use Rattle.resolution.specs.Answers.{Refused}
use Rattle.resolution.specs.Outcomes.{Outcome}
use Rattle.resolution.specs.Calls.{step_call, run_call}
use Rattle.assignment.specs.Calls.{plan_call}
use Rattle.completion.specs.Calls.{complete_call}

-- every other call that takes a table answers 9 and changes nothing
pub record FirstOnly (t : List ℕ) : Type 0 where
  pub step : step_call t ≡ record { answer = Refused 9; table = t }
  pub run : (limit : ℕ) (slice : List ℕ)
      → run_call t limit slice ≡ record { answer = record { outcome = Outcome.Refused 9; steps = 0; bound = 0 }; table = t; slice = slice }
  pub plan : (target : List ℕ) → plan_call t target ≡ record { number = 9; target = target }
  pub complete : (k : ℕ) (fixed target : List ℕ) → complete_call t k fixed target ≡ record { answer = refused 9; target = target }
  pub back : (target : List ℕ) → to_five_call t target ≡ record { answer = refused 9; target = target }

abbrev pub OldWithRows : Type 0
OldWithRows = (t : List ℕ) → valid_table_in five_form t ≡ true → 0 < row_count t → FirstOnly t
