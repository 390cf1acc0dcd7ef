-- "Encoding and steps leave valid tables": the step call and the run, on every valid table.
use Rattle.std.specs.Prelude.{ℕ, ◌≡◌, true, List}
use Rattle.table.specs.Valid.{valid_table}
use Rattle.resolution.specs.Calls.{step_call, run_call}

abbrev pub StepsKeepValid : Type 0
StepsKeepValid = (t : List ℕ) → valid_table t ≡ true → valid_table (step_call t).table ≡ true

abbrev pub RunsKeepValid : Type 0
RunsKeepValid = (t : List ℕ) (limit : ℕ) (slice : List ℕ) → valid_table t ≡ true → valid_table (run_call t limit slice).table ≡ true
