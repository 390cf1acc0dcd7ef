-- Nothing fixed: no value is asked for from n on, the rebuilding starts at the last variable, and the empty row is all that counts, which no valid
-- table has above the greatest weight.
use Prim.Native.Nat.{ℕ, ◌≤◌}
use native.Mathlib.Omega.{arith}
use mathlib.Core.Path.{◌≡◌, refl, ap₂, ◌∙◌}
use mathlib.Core.Bool.{Bool, true, false, ◌||◌, cond}
use mathlib.Core.List.{List, [], ◌++◌}
use mathlib.Core.Option.{Option, none, some}
use lib.ListN.{length, drop, replicate}
use lib.Dec.{eqb, ltb}
use borrow.Author.Tests.{le-ltb}
use Rattle.wcsp.specs.Row.{empty_weight}
use Rattle.wcsp.specs.Resolve.{Pair}
use Rattle.wcsp.proofs.TooHeavy.{heavy-weight_of}
use Rattle.wcsp.proofs.Tails.{tail_of_none}
use Rattle.fields.specs.Answers.{good}
use Rattle.rows.specs.Raw.{max_weight}
use Rattle.table.specs.Meaning.{variables_of, table_sizes, own_rows}
use Rattle.table.specs.Valid.{valid_table}
use Rattle.table.proofs.Finishing.{valid_variables}
use Rattle.table.proofs.Own.{valid_is_canonical}
use Rattle.assignment.specs.Calls.{PlanReturned, table_assignment, empty_forbids, plan_on, plan_call}
use Rattle.assignment.specs.Order.{is_left, table_pair}
use Rattle.assignment.proofs.Planning.{nothing_over, none_in_range}
use Rattle.completion.specs.Calls.{CompleteReturned, not_completed, fixed_fit, completion_cost, complete_on, complete_call}
use Rattle.completion.specs.NothingFixed.{NothingFixed}
use Rattle.completion.proofs.Fitting.{fits_of}
use Rattle.completion.proofs.Completing.{on_left, on_good}

module _ (t : List ℕ) (v : valid_table t ≡ true) where
  abbrev n : ℕ
  n = variables_of t

  none_fits : fixed_fit (table_sizes t) n [] ≡ true
  none_fits = fits_of (table_sizes t) n [] (omega (arith, valid_variables t v)) (none_in_range t v)

  empty_cost : completion_cost t n [] ≡ empty_weight n (own_rows t)
  unfolding completion_cost
  empty_cost = rw (← valid_variables t v) (tail_of_none (table_sizes t) (own_rows t) (valid_is_canonical t v).holdable.valid)

  cost_low : completion_cost t n [] ≤ max_weight
  unfolding empty_weight
  cost_low = rw empty_cost (heavy-weight_of max_weight (replicate n 0) (own_rows t) (valid_is_canonical t v).holdable.light)

-- ---- case by case

module _ (t target : List ℕ) where
  -- the plan and the empty row's weight, or the plan call's number
  abbrev alike : ℕ → CompleteReturned
  alike number =
      cond (eqb number 0 || eqb number 15)
      (record { answer = good (empty_weight (variables_of t) (own_rows t)); target = table_assignment t ++ drop (variables_of t) target })
      (not_completed number target)

  good_done : valid_table t ≡ true → complete_on t (variables_of t) [] target none
      ≡ record { answer = good (empty_weight (variables_of t) (own_rows t)); target = table_assignment t ++ drop (variables_of t) target }
  good_done v =
      on_good t (variables_of t) [] target (le-ltb max_weight (completion_cost t (variables_of t) []) (cost_low t v))
      ∙ ap₂ (λ m l. record { answer = good m; target = l ++ drop (variables_of t) target }) (empty_cost t v) (nothing_over t v)

  alike_on : valid_table t ≡ true → (o : Option Pair) (heavy : Bool) → empty_forbids t ≡ heavy
      → complete_on t (variables_of t) [] target o ≡ alike (plan_on t target o).number
  unfolding plan_on is_left
  alike_on v none true e = rw e (good_done v)
  alike_on v none false e = rw e (good_done v)
  alike_on v (some pr) heavy e = on_left t (variables_of t) [] target (some pr) refl

pub nothing_fixed : NothingFixed
unfolding plan_call complete_call
nothing_fixed t target = go (valid_table t) refl (ltb (length target) (variables_of t))
  where
    go : (valid : Bool) → valid_table t ≡ valid → (short : Bool)
        → cond valid (cond short (not_completed 10 target)
        (cond (fixed_fit (table_sizes t) (variables_of t) []) (complete_on t (variables_of t) [] target (table_pair t)) (not_completed 14 target))) (not_completed 9 target)
        ≡ alike t target
        (cond {A = PlanReturned} valid (cond short (record { number = 10; target = target }) (plan_on t target (table_pair t))) (record { number = 9; target = target })).number
    go true v true = refl
    go true v false = rw (none_fits t v) (alike_on t target v (table_pair t) (empty_forbids t) refl)
    go false v short = refl
