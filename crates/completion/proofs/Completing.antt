-- The complete call: what each return leaves is what the definition says, by the answers of the calls that it makes.
use Prim.Native.Nat.{ℕ, ◌+◌, ◌*◌, ◌<◌, ◌≤◌}
use native.Mathlib.Omega.{arith}
use mathlib.Core.Path.{◌≡◌, refl, sym, ap, ap₂, ◌∙◌}
use mathlib.Core.Bool.{Bool, true, false, false≢true}
use mathlib.Core.List.{List, ◌++◌}
use mathlib.Core.Option.{Option as Maybe, none, some}
use lib.ListN.{length, drop}
use lib.Seq.{paste, slice}
use lib.Dec.{ltb}
use borrow.Author.Tests.{lt-ltb, le-ltb}
use Rattle.std.specs.Prelude.{Option, Some, None}
use Rattle.wcsp.specs.Resolve.{Pair}
use Rattle.wcsp.specs.Rebuild.{tail_weight}
use Rattle.clause.specs.declared.Clause.{Clause}
use Rattle.clause.specs.Packed.{signs_of, Holds}
use Rattle.fields.specs.Answers.{Answer}
use Rattle.fields.specs.Answers.{refused, good}
use Rattle.fields.specs.Padding.{lacking}
use Rattle.rows.specs.Raw.{row_width, max_weight}
use Rattle.table.specs.declared.Shape.{Shape}
use Rattle.table.specs.Meaning.{variables_of, table_sizes, rows_from}
use Rattle.table.specs.Valid.{valid_table}
use Rattle.table.specs.Check.{shape_of, check_table}
use Rattle.table.proofs.Own.{own_widens}
use Rattle.table.proofs.Finishing.{valid_variables}
use Rattle.table.proofs.Tested.{table_valid, table_invalid}
use Rattle.assignment.specs.Calls.{table_completion}
use Rattle.assignment.specs.Order.{is_left, table_pair}
use Rattle.assignment.specs.Chosen.{carried_signs, Carries, Ready}
use Rattle.assignment.proofs.Tables.{few_sizes, variables_are, rows_within, rows_are}
use Rattle.assignment.proofs.Planning.{left_none}
use Rattle.completion.specs.Calls.{CompleteReturned, not_completed, fixed_fit, completion_cost, complete_on, complete_call}
use Rattle.completion.specs.Fixed.{Carrying}
use Rattle.completion.specs.Limited.{limited_sum}
use Rattle.completion.proofs.Fitting.{of_fits, one_each}
use Rattle.completion.proofs.Summing.{told_high, told_total}
use Rattle.completion.proofs.Placing.{put_length, put_values, put_rest}

-- what the call returns and leaves
abbrev pub CompleteLeft : List ℕ → ℕ → List ℕ → List ℕ → Answer → List ℕ → Type 0
CompleteLeft t k fixed target answer after = ◌≡◌ {A = CompleteReturned} (record { answer = answer; target = after }) (complete_call t k fixed target)

-- ---- the definition's cases

module _ (t : List ℕ) (k : ℕ) (fixed target : List ℕ) where
  pub call_invalid : valid_table t ≡ false → complete_call t k fixed target ≡ not_completed 9 target
  unfolding complete_call
  call_invalid v = rw v

  pub on_left : (o : Maybe Pair) → is_left o ≡ true → complete_on t k fixed target o ≡ not_completed 13 target
  unfolding complete_on is_left
  on_left none e = absurd (false≢true e)
  on_left (some pr) e = refl

  pub on_high : ltb max_weight (completion_cost t k fixed) ≡ true → complete_on t k fixed target none ≡ not_completed 11 target
  unfolding complete_on
  on_high h = rw h

  pub on_good : ltb max_weight (completion_cost t k fixed) ≡ false
      → complete_on t k fixed target none
      ≡ record { answer = good (completion_cost t k fixed); target = table_completion t k fixed ++ drop (variables_of t) target }
  unfolding complete_on
  on_good h = rw h

  module _ (v : valid_table t ≡ true) where
    pub call_short : length target < variables_of t → complete_call t k fixed target ≡ not_completed 10 target
    unfolding complete_call
    call_short h = rw (v, lt-ltb (length target) (variables_of t) h)

    module _ (room : variables_of t ≤ length target) where
      pub call_unfit : fixed_fit (table_sizes t) k fixed ≡ false → complete_call t k fixed target ≡ not_completed 14 target
      unfolding complete_call
      call_unfit f = rw (v, le-ltb (length target) (variables_of t) room, f)

      pub call_on : fixed_fit (table_sizes t) k fixed ≡ true → complete_call t k fixed target ≡ complete_on t k fixed target (table_pair t)
      unfolding complete_call
      call_on f = rw (v, le-ltb (length target) (variables_of t) room, f)

-- ---- the returns

module _ (t : List ℕ) (k : ℕ) (fixed target : List ℕ) (checked : Option Shape) (answer : checked ≡ check_table t) where
  pub not_a_table : checked ≡ None → CompleteLeft t k fixed target (refused 9) target
  not_a_table e = sym (call_invalid t k fixed target (table_invalid t checked answer e))

  module _ (shape : Shape) (is : checked ≡ Some shape) where
    pub told : (valid_table t ≡ true) × (shape ≡ shape_of t)
    told = table_valid t checked answer shape is

    pub variables : shape.variables ≡ variables_of t
    variables = variables_are t told.0 shape told.1

    pub too_short : length target < shape.variables → CompleteLeft t k fixed target (refused 10) target
    too_short h = sym (call_short t k fixed target told.0 (omega (arith, variables)))

    module _ (room : shape.variables ≤ length target) (read : Option Clause) (carrying : Carrying (table_sizes t) k fixed read) where
      in_target : variables_of t ≤ length target
      in_target = omega (arith, variables)

      pub not_fitting : read ≡ None → CompleteLeft t k fixed target (refused 14) target
      not_fitting e = sym (call_unfit t k fixed target told.0 in_target (carrying.unfitting e))

      module _ (values : Clause) (fitting : read ≡ Some values) where
        fits : fixed_fit (table_sizes t) k fixed ≡ true
        fits = (carrying.fitting values fitting).0

        holds : Holds values (carried_signs (table_sizes t) k fixed)
        holds = (carrying.fitting values fitting).1

        long : k + length fixed ≡ variables_of t
        long = one_each (table_sizes t) k fixed fits ∙ valid_variables t told.0

        pub k_low : k ≤ 12
        k_low = omega (arith, long, valid_variables t told.0, few_sizes t told.0)

        pub may_sum : shape.variables + 2 + row_width * shape.count ≤ length t
        may_sum = rows_within t told.0 shape told.1

        pub place_room : k + length fixed ≤ length target
        place_room = omega (arith, long, in_target)

        module _ (left : Bool) (asked : left ≡ is_left (table_pair t)) where
          pub pair_left : left ≡ true → CompleteLeft t k fixed target (refused 13) target
          pair_left e =
              sym
              (call_on t k fixed target told.0 in_target fits ∙ on_left t k fixed target (table_pair t) (sym asked ∙ e))

          module _ (e : left ≡ false) (sum : Option ℕ)
              (summed : (q : List ℕ) → Carries (signs_of values) k q → sum ≡ limited_sum (tail_weight k q (rows_from shape.count (drop (shape.variables + 2) t)))) where
            none_left : table_pair t ≡ none
            none_left = left_none (table_pair t) (sym e ∙ asked)

            on_none : complete_call t k fixed target ≡ complete_on t k fixed target none
            on_none = call_on t k fixed target told.0 in_target fits ∙ ap (complete_on t k fixed target) none_left

            sum_is : sum ≡ limited_sum (completion_cost t k fixed)
            unfolding completion_cost
            sum_is =
                summed fixed (record { rest = lacking (table_sizes t); bits = holds.signs_are })
                ∙ ap (λ rs. limited_sum (tail_weight k fixed rs)) (rows_are t told.0 shape told.1)
                ∙ ap limited_sum ((own_widens t told.0).tail k fixed (one_each (table_sizes t) k fixed fits))

            pub too_dear : sum ≡ None → CompleteLeft t k fixed target (refused 11) target
            too_dear h =
                sym
                (on_none ∙ on_high t k fixed target (told_high (completion_cost t k fixed) (sym h ∙ sum_is)))

            module _ (cost : ℕ) (h : sum ≡ Some cost) (put : List ℕ) (placed : put ≡ paste target k fixed (length fixed)) where
              given : slice k (variables_of t) put ≡ fixed
              given = ap (slice k (variables_of t)) placed ∙ put_values target (variables_of t) k fixed long in_target

              pub ready : Ready t shape k values put
              ready =
                  record {
                    valid = told.0;
                    shaped = told.1;
                    done = none_left;
                    room = omega (arith, in_target, ap length placed, put_length target (variables_of t) k fixed long in_target);
                    low = omega (arith, long);
                    in_range = rw given (of_fits (table_sizes t) k fixed fits).1;
                    carried = rw given holds;
                  }

              pub completed : (after : List ℕ) → after ≡ table_completion t k (slice k (variables_of t) put) ++ drop (variables_of t) put
                  → CompleteLeft t k fixed target (good cost) after
              completed after q =
                  let (low, m) = told_total (completion_cost t k fixed) cost (sym h ∙ sum_is) in
                  let rest : drop (variables_of t) put ≡ drop (variables_of t) target
                  = ap (drop (variables_of t)) placed ∙ put_rest target (variables_of t) k fixed long in_target in
                  let p : after ≡ table_completion t k fixed ++ drop (variables_of t) target
                  = q ∙ ap₂ (λ l d. table_completion t k l ++ d) given rest in
                  ap₂ (λ a l. record { answer = a; target = l }) (ap good m) p ∙ sym (on_none ∙ on_good t k fixed target low)
