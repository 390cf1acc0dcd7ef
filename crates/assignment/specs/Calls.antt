-- The plan call: its number and its target bytes, for good and refused calls alike.
use Rattle.std.specs.Prelude.{ℕ, Bool, cond, List, ◌++◌, length, drop, leb, ltb}
use Rattle.std.proofs.Math.Option.{Option, none, some}
use Rattle.wcsp.specs.Row.{empty_weight}
use Rattle.wcsp.specs.Resolve.{Pair, next_pair}
use Rattle.wcsp.specs.Rebuild.{rebuilt, rebuilt_over}
use Rattle.fields.specs.Limits.{forbidden_cost}
use Rattle.table.specs.Meaning.{variables_of, table_sizes, own_rows}
use Rattle.table.specs.Valid.{valid_table}

-- a number, 0 for success, and the target as the call returns
pub record PlanReturned : Type 0 where
  pub number : ℕ
  pub target : List ℕ

-- the rebuilt assignment (document 01: plan) of a table's variables
unfoldable pub table_assignment : List ℕ → List ℕ
table_assignment t = rebuilt (table_sizes t) (own_rows t)

-- the rebuilt assignment of a table's variables over the values q of those from k on (document 02: completion)
unfoldable pub table_completion : List ℕ → ℕ → List ℕ → List ℕ
table_completion t k q = rebuilt_over (table_sizes t) (own_rows t) k q

-- the empty row weighs as much as a forbidden entry, or more (document 02, spots nobody may core)
unfoldable pub empty_forbids : List ℕ → Bool
empty_forbids t = leb forbidden_cost (empty_weight (variables_of t) (own_rows t))

-- 13 while a pair remains; then 15
unfoldable pub plan_on : List ℕ → List ℕ → Option Pair → PlanReturned
unfolding table_assignment empty_forbids
plan_on t target none =
    cond (empty_forbids t) (record { number = 15; target = target })
    (record { number = 0; target = table_assignment t ++ drop (variables_of t) target })
plan_on t target (some pr) = record { number = 13; target = target }

-- plan: 9, 10 for a target shorter than n bytes, 13, 15; else n bytes, the rest of the target kept
unfoldable pub plan_call : List ℕ → List ℕ → PlanReturned
unfolding plan_on
plan_call t target =
    cond (valid_table t)
    (cond (ltb (length target) (variables_of t))
    (record { number = 10; target = target })
    (plan_on t target (next_pair (table_sizes t) (own_rows t))))
    (record { number = 9; target = target })
