-- The plan call answers the first of its tests that applies.
use Prim.Native.Nat.{ℕ}
use mathlib.Core.Path.{◌≡◌, refl}
use mathlib.Core.Bool.{Bool, true, false, not, cond}
use mathlib.Core.Option.{Option, none, some}
use lib.ListN.{length}
use lib.Dec.{ltb}
use Rattle.wcsp.specs.Resolve.{Pair}
use Rattle.fields.specs.Order.{in_order, first_of}
use Rattle.table.specs.Meaning.{variables_of}
use Rattle.table.specs.Valid.{valid_table}
use Rattle.assignment.specs.Calls.{PlanReturned, empty_forbids, plan_on, plan_call}
use Rattle.assignment.specs.Order.{is_left, table_pair, PlanInOrder}

pub plan_in_order : PlanInOrder
unfolding plan_call plan_on is_left in_order first_of
plan_in_order t target = record { order = refl; decides = go (valid_table t) (ltb (length target) (variables_of t)) (table_pair t) (empty_forbids t) refl }
  where
    go : (valid short : Bool) (left : Option Pair) (heavy : Bool) → empty_forbids t ≡ heavy
        → ◌≡◌ {A = ℕ} (cond {A = PlanReturned} valid
        (cond short (record { number = 10; target = target }) (plan_on t target left))
        (record { number = 9; target = target })).number
        (cond (not valid) 9 (cond short 10 (cond (is_left left) 13 (cond heavy 15 0))))
    go true true left heavy e = refl
    go true false none true e = rw e
    go true false none false e = rw e
    go true false (some pr) heavy e = refl
    go false short left heavy e = refl
