-- A slice that is no valid table of six-word rows, such as last year's table with rows, is refused by all calls but the first conversion.
use Prim.Native.Nat.{ℕ}
use native.Mathlib.Omega.{arith}
use mathlib.Core.Path.{◌≡◌}
use mathlib.Core.Bool.{false}
use mathlib.Core.List.{List}
use Rattle.table.specs.Valid.{valid_table}
use Rattle.conversion.specs.Calls.{convert_call}
use Rattle.conversion.proofs.Forms.{one_form_with_rows}
use Rattle.resolution.specs.Calls.{step_call, run_call}
use Rattle.assignment.specs.Calls.{plan_call}
use Rattle.completion.specs.Calls.{complete_call}
use Rattle.calls.specs.LastYear.{FirstOnly, OldWithRows}

pub first_only : (t : List ℕ) → valid_table t ≡ false → FirstOnly t
unfolding step_call run_call plan_call complete_call convert_call
first_only t v =
    record {
      step = rw v;
      run = λ limit slice. rw v;
      plan = λ target. rw v;
      complete = λ k fixed target. rw v;
      back = λ target. rw v;
    }

pub old_with_rows : OldWithRows
old_with_rows t v h = first_only t (one_form_with_rows t v (omega (arith, h)))
