-- The plan call: what each return leaves is what the definition says, by the table's test, whether a pair is left and the empty row's weight.
use Prim.Native.Nat.{ℕ, ◌+◌, ◌<◌, ◌≤◌}
use native.Mathlib.Nat.{le_refl}
use native.Mathlib.Omega.{arith}
use mathlib.Core.Path.{◌≡◌, refl, sym, subst, ap, ◌∙◌}
use mathlib.Core.Bool.{Bool, true, false, false≢true}
use mathlib.Core.List.{List, [], ◌++◌}
use mathlib.Core.Option.{Option as Maybe, none, some}
use lib.ListN.{length, drop, replicate, replicate-append-replicate}
use lib.Seq.{slice, slice_empty, drop-length}
use borrow.Author.Tests.{lt-ltb, le-ltb}
use Rattle.std.specs.Prelude.{Option, Some, None}
use Rattle.wcsp.specs.Clause.{InRange, nil}
use Rattle.wcsp.specs.Row.{empty_weight}
use Rattle.wcsp.specs.Resolve.{Pair}
use Rattle.wcsp.specs.Rebuild.{rebuilt}
use Rattle.clause.specs.declared.Clause.{Clause}
use Rattle.clause.specs.Packed.{Holds}
use Rattle.fields.specs.Limits.{max_variables, forbidden_cost}
use Rattle.fields.specs.Padding.{lacking}
use Rattle.table.specs.declared.Shape.{Shape}
use Rattle.table.specs.Meaning.{variables_of, row_count, table_sizes, table_rows}
use Rattle.table.specs.Valid.{valid_table}
use Rattle.table.specs.Check.{shape_of, check_table}
use Rattle.table.proofs.Finishing.{valid_variables}
use Rattle.table.proofs.Tested.{table_valid, table_invalid}
use Rattle.assignment.specs.Calls.{PlanReturned, table_assignment, table_completion, empty_forbids, plan_on, plan_call}
use Rattle.assignment.specs.Order.{is_left, table_pair}
use Rattle.assignment.specs.Chosen.{carried_signs, Ready}
use Rattle.assignment.proofs.Tables.{few_sizes, few_variables, variables_are}
use Rattle.assignment.proofs.Forbidding.{forbids, forbids_not}

-- what the call returns and leaves
abbrev pub PlanLeft : List ℕ → List ℕ → ℕ → List ℕ → Type 0
PlanLeft t target number after = ◌≡◌ {A = PlanReturned} (record { number = number; target = after }) (plan_call t target)

-- ---- whether a pair is left

pub left_none : (o : Maybe Pair) → false ≡ is_left o → o ≡ none
unfolding is_left
left_none none e = refl
left_none (some pr) e = absurd (false≢true e)

plan_left : (t target : List ℕ) (o : Maybe Pair) → true ≡ is_left o → plan_on t target o ≡ record { number = 13; target = target }
unfolding plan_on is_left
plan_left t target none e = absurd (false≢true (sym e))
plan_left t target (some pr) e = refl

pub plan_forbidden : (t target : List ℕ) → empty_forbids t ≡ true → plan_on t target none ≡ record { number = 15; target = target }
unfolding plan_on
plan_forbidden t target e = rw e

pub plan_allowed : (t target : List ℕ) → empty_forbids t ≡ false
    → plan_on t target none ≡ record { number = 0; target = table_assignment t ++ drop (variables_of t) target }
unfolding plan_on
plan_allowed t target e = rw e

-- ---- the definition's cases

module _ (t target : List ℕ) where
  call_invalid : valid_table t ≡ false → plan_call t target ≡ record { number = 9; target = target }
  unfolding plan_call
  call_invalid v = rw v

  module _ (v : valid_table t ≡ true) where
    call_short : length target < variables_of t → plan_call t target ≡ record { number = 10; target = target }
    unfolding plan_call
    call_short h = rw (v, lt-ltb (length target) (variables_of t) h)

    call_on : variables_of t ≤ length target → plan_call t target ≡ plan_on t target (table_pair t)
    unfolding plan_call
    call_on h = rw (v, le-ltb (length target) (variables_of t) h)

-- ---- no value given

pub nothing_over : (t : List ℕ) → valid_table t ≡ true → table_completion t (variables_of t) [] ≡ table_assignment t
unfolding table_completion table_assignment rebuilt
nothing_over t v = ap (λ n. table_completion t n []) (sym (valid_variables t v))

pub none_carried : (t : List ℕ) → valid_table t ≡ true → replicate 12 0 ≡ carried_signs (table_sizes t) (variables_of t) []
none_carried t v =
    let n : 12 ≡ variables_of t + lacking (table_sizes t) = omega (arith, few_sizes t v, valid_variables t v) in
    ap (λ i. replicate i 0) n ∙ sym (replicate-append-replicate (variables_of t) (lacking (table_sizes t)) 0)

pub none_in_range : (t : List ℕ) → valid_table t ≡ true → InRange (drop (variables_of t) (table_sizes t)) []
none_in_range t v = rw (← valid_variables t v, drop-length) nil

-- ---- the returns

module _ (t : List ℕ) (checked : Option Shape) (answer : checked ≡ check_table t) where
  pub not_a_table : (target : List ℕ) → checked ≡ None → PlanLeft t target 9 target
  not_a_table target e = sym (call_invalid t target (table_invalid t checked answer e))

  module _ (shape : Shape) (is : checked ≡ Some shape) where
    pub told : (valid_table t ≡ true) × (shape ≡ shape_of t)
    told = table_valid t checked answer shape is

    variables : shape.variables ≡ variables_of t
    variables = variables_are t told.0 shape told.1

    pub variables_few : shape.variables ≤ 12
    variables_few = few_variables t told.0 shape told.1

    -- what the empty row's weight is read with
    pub may_weigh : (valid_table t ≡ true) × (shape.variables + 2 ≡ variables_of t + 2) × (shape.count ≡ row_count t)
    may_weigh = (told.0, ap (λ n. n + 2) variables, ap (λ s. s.count) told.1)

    pub too_short : (target : List ℕ) → length target < shape.variables → PlanLeft t target 10 target
    too_short target h = sym (call_short t target told.0 (omega (arith, variables)))

    module _ (target : List ℕ) (room : shape.variables ≤ length target) (left : Bool) (asked : left ≡ is_left (table_pair t)) where
      in_target : variables_of t ≤ length target
      in_target = omega (arith, variables)

      pub pair_left : left ≡ true → PlanLeft t target 13 target
      pair_left e = sym (call_on t target told.0 in_target ∙ plan_left t target (table_pair t) (sym e ∙ asked))

      module _ (e : left ≡ false) where
        none_left : table_pair t ≡ none
        none_left = left_none (table_pair t) (sym e ∙ asked)

        call_done : plan_call t target ≡ plan_on t target none
        call_done = call_on t target told.0 in_target ∙ ap (plan_on t target) none_left

        pub forbidden : (w : ℕ) → w ≡ empty_weight max_variables (table_rows t) → forbidden_cost ≤ w → PlanLeft t target 15 target
        forbidden w q h = sym (call_done ∙ plan_forbidden t target (forbids t told.0 w q h))

        pub ready : (chosen : Clause) → Holds chosen (replicate 12 0) → Ready t shape shape.variables chosen target
        ready chosen h =
            subst (λ k. Ready t shape k chosen target) (sym variables)
            (record {
              valid = told.0;
              shaped = told.1;
              done = none_left;
              room = in_target;
              low = le_refl (variables_of t);
              in_range = rw (slice_empty (variables_of t) target) (none_in_range t told.0);
              carried = rw (slice_empty (variables_of t) target, ← none_carried t told.0) h;
            })

        pub rebuilt_all : (w : ℕ) → w ≡ empty_weight max_variables (table_rows t) → w < forbidden_cost → (after : List ℕ)
            → after ≡ table_completion t shape.variables (slice shape.variables (variables_of t) target) ++ drop (variables_of t) target
            → PlanLeft t target 0 after
        rebuilt_all m a h after q =
            let w = slice_empty (variables_of t) target in
            let p = rw (variables, w, nothing_over t told.0) at q in
            ap (λ l. record { number = 0; target = l }) p ∙ sym (call_done ∙ plan_allowed t target (forbids_not t told.0 m a h))
