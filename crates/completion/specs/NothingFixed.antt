-- With k = n nothing is fixed: where the plan call gives its plan or 15, the complete call gives the rebuilt plan, and the empty row's weight as its cost.
use Rattle.std.specs.Prelude.{ℕ, ◌≡◌, ◌||◌, cond, List, [], ◌++◌, drop, eqb}
use Rattle.wcsp.specs.Row.{empty_weight}
use Rattle.fields.specs.Answers.{good}
use Rattle.table.specs.Meaning.{variables_of, own_rows}
use Rattle.assignment.specs.Calls.{table_assignment, plan_call}
use Rattle.completion.specs.Calls.{not_completed, complete_call}

-- in every slice, valid or not; every other refusal of the plan call is the complete call's too
abbrev pub NothingFixed : Type 0
NothingFixed = (t target : List ℕ)
    → let number = (plan_call t target).number in
    complete_call t (variables_of t) [] target
    ≡ cond (eqb number 0 || eqb number 15)
    (record { answer = good (empty_weight (variables_of t) (own_rows t)); target = table_assignment t ++ drop (variables_of t) target })
    (not_completed number target)
