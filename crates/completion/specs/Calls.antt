-- The complete call (document 02: stations k to n - 1 are fixed): its answer and its target bytes, for good and refused calls alike.
use Rattle.std.specs.Prelude.{ℕ, Bool, ◌&&◌, cond, List, ◌++◌, length, drop, leb, ltb}
use Rattle.std.proofs.Math.Option.{Option, none, some}
use Rattle.wcsp.specs.Resolve.{Pair}
use Rattle.wcsp.specs.Rebuild.{tail_weight}
use Rattle.fields.specs.Answers.{Answer}
use Rattle.fields.specs.Answers.{refused, good}
use Rattle.fields.specs.Assignment.{is_assignment}
use Rattle.rows.specs.Raw.{max_weight}
use Rattle.table.specs.Meaning.{variables_of, table_sizes, own_rows}
use Rattle.table.specs.Valid.{valid_table}
use Rattle.assignment.specs.Calls.{table_completion}
use Rattle.assignment.specs.Order.{table_pair}

-- a number, 0 for success, with the cost, and the target as the call returns
pub record CompleteReturned : Type 0 where
  pub answer : Answer
  pub target : List ℕ

-- a refused call: its number, and nothing changed
abbrev pub not_completed : ℕ → List ℕ → CompleteReturned
not_completed number target = record { answer = refused number; target = target }

-- k is at most n, and exactly n - k values are fixed, each in range
unfoldable pub fixed_fit : List ℕ → ℕ → List ℕ → Bool
fixed_fit ds k fixed = leb k (length ds) && is_assignment (drop k ds) fixed

-- the cost: the falsified weight of the table's rows without variables below k
unfoldable pub completion_cost : List ℕ → ℕ → List ℕ → ℕ
completion_cost t k fixed = tail_weight k fixed (own_rows t)

-- 13 while a pair remains; 11 for a cost above the greatest weight of a row
unfoldable pub complete_on : List ℕ → ℕ → List ℕ → List ℕ → Option Pair → CompleteReturned
complete_on t k fixed target none =
    let m = completion_cost t k fixed in
    cond (ltb max_weight m) (not_completed 11 target)
    (record { answer = good m; target = table_completion t k fixed ++ drop (variables_of t) target })
complete_on t k fixed target (some pr) = not_completed 13 target

-- complete: 9, 10 for a target shorter than n bytes, 14 for fixed values that do not fit, 13, 11; else n bytes, the rest of the target kept
unfoldable pub complete_call : List ℕ → ℕ → List ℕ → List ℕ → CompleteReturned
unfolding complete_on
complete_call t k fixed target =
    cond (valid_table t)
    (cond (ltb (length target) (variables_of t))
    (not_completed 10 target)
    (cond (fixed_fit (table_sizes t) k fixed) (complete_on t k fixed target (table_pair t)) (not_completed 14 target)))
    (not_completed 9 target)
