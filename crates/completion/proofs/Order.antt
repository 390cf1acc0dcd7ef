-- The complete call answers the first of its tests that applies.
use Prim.Native.Nat.{ℕ}
use mathlib.Core.Path.{◌≡◌, refl, ap, ◌∙◌}
use mathlib.Core.Bool.{Bool, true, false, not, cond}
use mathlib.Core.List.{List}
use mathlib.Core.Option.{Option, none, some}
use lib.ListN.{length}
use lib.Dec.{ltb}
use Rattle.wcsp.specs.Resolve.{Pair}
use Rattle.fields.specs.Order.{first_of}
use Rattle.rows.specs.Raw.{max_weight}
use Rattle.table.specs.Meaning.{variables_of, table_sizes}
use Rattle.table.specs.Valid.{valid_table}
use Rattle.assignment.specs.Order.{is_left, table_pair}
use Rattle.completion.specs.Calls.{CompleteReturned, not_completed, fixed_fit, completion_cost, complete_on, complete_call}
use Rattle.completion.specs.Order.{CompleteInOrder}

module _ (t : List ℕ) (k : ℕ) (fixed target : List ℕ) where
  good_or_high : (high : Bool) (done : CompleteReturned) → done.answer.number ≡ 0
      → (cond high (not_completed 11 target) done).answer.number ≡ cond high 11 0
  good_or_high true done e = refl
  good_or_high false done e = e

  on_number : (o : Option Pair)
      → (complete_on t k fixed target o).answer.number ≡ cond (is_left o) 13 (cond (ltb max_weight (completion_cost t k fixed)) 11 0)
  unfolding complete_on is_left
  on_number none = good_or_high (ltb max_weight (completion_cost t k fixed)) _ refl
  on_number (some pr) = refl

  decided : (valid short fit : Bool) (on : CompleteReturned)
      → (cond valid (cond short (not_completed 10 target) (cond fit on (not_completed 14 target))) (not_completed 9 target)).answer.number
      ≡ cond (not valid) 9 (cond short 10 (cond (not fit) 14 on.answer.number))
  decided true true fit on = refl
  decided true false true on = refl
  decided true false false on = refl
  decided false short fit on = refl

pub complete_in_order : CompleteInOrder
unfolding complete_call first_of
complete_in_order t k fixed target =
    decided t k fixed target (valid_table t) (ltb (length target) (variables_of t)) (fixed_fit (table_sizes t) k fixed)
    (complete_on t k fixed target (table_pair t))
    ∙ ap
    (λ n. cond (not (valid_table t)) 9 (cond (ltb (length target) (variables_of t)) 10 (cond (not (fixed_fit (table_sizes t) k fixed)) 14 n)))
    (on_number t k fixed target (table_pair t))
