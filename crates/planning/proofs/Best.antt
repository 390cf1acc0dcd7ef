-- A run on a sheet's instance: its bound is never above a cost; once it is done the plan call gives the best assignment, or 15 where all are forbidden.
use Prim.Native.Nat.{ℕ, zero, suc, ◌+◌, ◌≤◌, ◌<◌, min}
use native.Mathlib.Omega.{arith}
use mathlib.Core.Path.{◌≡◌, refl, sym, ap}
use mathlib.Core.Bool.{Bool, true, false, cond}
use mathlib.Core.List.{List, [], ◌∷◌, ◌++◌}
use mathlib.Core.Option.{Option, none, some}
use lib.ListN.{length, take, drop, length-append}
use lib.Seq.{take_at}
use Rattle.wcsp.specs.Row.{Row, empty_weight}
use Rattle.wcsp.specs.Resolve.{Pair, next_pair}
use Rattle.wcsp.specs.Rebuild.{rebuilt}
use Rattle.wcsp.proofs.Lists.{along_length}
use Rattle.fields.specs.Limits.{forbidden_cost}
use Rattle.fields.specs.Forbidden.{has_forbidden, AllForbidden}
use Rattle.sheet.specs.Sheet.{sheet_fault, sheet_sizes}
use Rattle.input.specs.Instance.{sizes_of, entries_of}
use Rattle.table.specs.Meaning.{variables_of, table_sizes, own_rows, capacity_of}
use Rattle.table.specs.Valid.{valid_table}
use Rattle.making.specs.Made.{made_words}
use Rattle.making.proofs.Reading.{made_accepted}
use Rattle.encoding.specs.Calls.{encode_call}
use Rattle.stepping.specs.Step.{Stepping, refusing, steps_to, pair_word}
use Rattle.resolution.specs.Outcomes.{Outcome}
use Rattle.resolution.specs.Step.{one_step}
use Rattle.resolution.specs.Run.{Ran, after, at_limit, run_rows}
use Rattle.resolution.specs.Calls.{run_returns, run_call}
use Rattle.resolution.specs.Numbers.{outcome_field, run_number}
use Rattle.assignment.specs.Calls.{plan_call}
use Rattle.checker.specs.Calls.{check_call}
use Rattle.checker.specs.Theorems.{Best}
use Rattle.calls.specs.Calls.{started, run_asked, in_place, after_call, after_calls}
use Rattle.calls.specs.Forbids.{ForbidsExactly}
use Rattle.calls.specs.Demand.{UpheldFrom}
use Rattle.calls.proofs.Upholding.{demand3_in_place}
use Rattle.calls.proofs.Held.{held_assignment}
use Rattle.calls.proofs.Going.{comes_held, comes_six, calls_come, encoded_comes}
use Rattle.calls.proofs.Accepting.{derivation_accepted}
use Rattle.planning.specs.Theorems.{DoneIsBest, DoneIsForbidden, DoneIsAccepted, NoneBelow, Room, RunIn}

-- a run on a valid table leaves a word in its slice for each of its steps
words_made : (t slice : List ℕ) (limit : ℕ) → valid_table t ≡ true
    → length (take (run_call t limit slice).answer.steps (run_call t limit slice).slice) ≡ (run_call t limit slice).answer.steps
unfolding run_call
words_made t slice limit valid =
    let ws : List ℕ = (run_rows (table_sizes t) (capacity_of t) (min limit (length slice)) (own_rows t) []).made in
    rw (valid, take_at ws (drop (length ws) slice) (length ws) refl)

-- a run makes no more steps than its limit
rows_few : (ds : List ℕ) (cap k : ℕ) (rs : List Row) (made : List ℕ) → length (run_rows ds cap k rs made).made ≤ length made + k
unfolding run_rows after at_limit
rows_few ds cap zero rs made = go (next_pair ds rs)
  where
    go : (o : Option Pair) → length (at_limit rs made o).made ≤ length made + 0
    go none = omega arith
    go (some pr) = omega arith
rows_few ds cap (suc k) rs made = go (one_step ds cap rs) (rows_few ds cap k)
  where
    goes : Pair → List Row → Ran
    goes pr rs' = run_rows ds cap k rs' (made ++ (pair_word pr ∷ []))

    go : (o : Option Stepping) → ((rs : List Row) (made : List ℕ) → length (run_rows ds cap k rs made).made ≤ length made + k)
        → length (after (record { outcome = Outcome.Done; rows = rs; made = made }) (λ number. record { outcome = Outcome.Refused number; rows = rs; made = made }) goes o).made ≤ length made + suc k
    go none ih = omega arith
    go (some (refusing number)) ih = omega arith
    go (some (steps_to pr rs')) ih = omega (arith, ih rs' (made ++ (pair_word pr ∷ [])), length-append made (pair_word pr ∷ []))

pub run_few : (t slice : List ℕ) (limit : ℕ) → (run_call t limit slice).answer.steps ≤ limit
unfolding run_call
run_few t slice limit = go (valid_table t)
  where
    ran : Ran
    ran = run_rows (table_sizes t) (capacity_of t) (min limit (length slice)) (own_rows t) []

    go : (b : Bool) → (cond b (run_returns (variables_of t) t slice ran) (record { answer = record { outcome = Outcome.Refused 9; steps = 0; bound = 0 }; table = t; slice = slice })).answer.steps ≤ limit
    go true = omega (arith, rows_few (table_sizes t) (capacity_of t) (min limit (length slice)) (own_rows t) [])
    go false = omega arith

module _ (sheet t slice : List ℕ) (limit : ℕ) (fine : sheet_fault sheet ≡ 0)
    (coded : (encode_call (made_words sheet) t).answer.number ≡ 0) where
  before : UpheldFrom (made_words sheet) t (encode_call (made_words sheet) t).table []
  unfolding after_calls in_place
  before = demand3_in_place (made_words sheet) t [] coded refl

  left : List ℕ
  left = (run_call (encode_call (made_words sheet) t).table limit slice).table

  words : List ℕ
  words =
      take (run_call (encode_call (made_words sheet) t).table limit slice).answer.steps
      (run_call (encode_call (made_words sheet) t).table limit slice).slice

  upheld : UpheldFrom (made_words sheet) t left words
  unfolding after_calls after_call in_place left words
  upheld = demand3_in_place (made_words sheet) t (run_asked limit slice ∷ []) coded refl

  same_sizes : sizes_of (made_words sheet) ≡ sheet_sizes sheet
  same_sizes = (made_accepted sheet fine).sizes

  -- ---- a run, however it ended

  pub run_below : NoneBelow (sizes_of (made_words sheet)) (entries_of (made_words sheet))
      (run_call (encode_call (made_words sheet) t).table limit slice).answer.bound
  unfolding left
  run_below = rw (before.1.run_bound limit slice) upheld.1.kept.below

  steps_made : length words ≡ (run_call (encode_call (made_words sheet) t).table limit slice).answer.steps
  unfolding words
  steps_made = words_made (encode_call (made_words sheet) t).table slice limit before.1.kept.valid

  pub run_from : (room : Room) → length t ≡ room.table → min limit (length slice) ≡ room.most
      → let r = run_call (encode_call (made_words sheet) t).table limit slice in
      RunIn room (made_words sheet) r.answer.steps r.answer.bound (run_number r.answer) (outcome_field r.answer.outcome)
  unfolding left
  run_from room long most =
      record {
        words = words;
        rows = own_rows left;
        derived = upheld.1.kept.derived;
        made = steps_made;
        weight = sym (before.1.run_bound limit slice);
        ends = let r = before.1.run limit slice in rw (before.0, long, most) at r;
      }

  -- ---- a run that is done

  module _ (target : List ℕ) (ended : outcome_field (run_call (encode_call (made_words sheet) t).table limit slice).answer.outcome ≡ 0)
      (long : length (sheet_sizes sheet) ≤ length target) where
    no_pair_lem : next_pair (sizes_of (made_words sheet)) (own_rows left) ≡ none
    unfolding left
    no_pair_lem = (before.1.run_done limit slice).0 ended

    plan : List ℕ
    plan = rebuilt (sizes_of (made_words sheet)) (own_rows left)

    best : Best (sizes_of (made_words sheet)) (entries_of (made_words sheet)) plan (empty_weight (length (sizes_of (made_words sheet))) (own_rows left))
    unfolding plan
    best = upheld.1.best no_pair_lem

    forbids : ForbidsExactly (sizes_of (made_words sheet)) (entries_of (made_words sheet)) left
    forbids = upheld.1.forbidden no_pair_lem

    -- the run's bound
    bound : ℕ
    bound = (run_call (encode_call (made_words sheet) t).table limit slice).answer.bound

    bound_weighs : bound ≡ empty_weight (length (sizes_of (made_words sheet))) (own_rows left)
    unfolding left bound
    bound_weighs = before.1.run_bound limit slice

    room : length (sizes_of (made_words sheet)) ≤ length target
    room = omega (arith, ap length same_sizes)

    module _ (light : bound < forbidden_cost) where
      written : plan_call left target ≡ record { number = 0; target = plan ++ drop (length (sizes_of (made_words sheet))) target }
      unfolding plan
      written = upheld.1.plan_written target room no_pair_lem (rw (← bound_weighs) light)

      front : take (length (sheet_sizes sheet)) (plan_call left target).target ≡ plan
      front =
          let many : length (plan) ≡ length (sheet_sizes sheet) = omega (arith, ap length same_sizes, along_length best.in_range) in
          rw written (take_at (plan) (drop (length (sizes_of (made_words sheet))) target) _ many)

      plan_best : Best (sizes_of (made_words sheet)) (entries_of (made_words sheet)) (take (length (sheet_sizes sheet)) (plan_call left target).target) bound
      plan_best = rw (front, bound_weighs) best

      plan_free : has_forbidden (entries_of (made_words sheet)) (take (length (sheet_sizes sheet)) (plan_call left target).target) ≡ false
      unfolding plan
      plan_free = rw front (forbids.free (rw (← bound_weighs) light))

      number_good : (plan_call left target).number ≡ 0
      number_good = ap (λ r. r.number) written

      accepted : (work : List ℕ) → length work ≡ length t
          → (check_call (made_words sheet) words (take (length (sheet_sizes sheet)) (plan_call left target).target) bound work).answer ≡ record { number = 0; steps = length words }
      unfolding left words plan bound after_calls after_call in_place
      accepted work long =
          let first = started (made_words sheet) t in
          let calls = run_asked limit slice ∷ [] in
          let end = comes_six (made_words sheet) (after_calls first calls) (calls_come (made_words sheet) first calls (encoded_comes (made_words sheet) t coded)) upheld.1.kept.valid in
          rw (front, bound_weighs, ← held_assignment (comes_held (made_words sheet) end))
          (derivation_accepted (made_words sheet) t calls coded refl no_pair_lem work long)

    module _ (heavy : forbidden_cost ≤ bound) where
      plan_refused : plan_call left target ≡ record { number = 15; target = target }
      plan_refused = upheld.1.plan_forbidden target room no_pair_lem (rw (← bound_weighs) heavy)

      every_forbidden : AllForbidden (sizes_of (made_words sheet)) (entries_of (made_words sheet))
      every_forbidden = forbids.exactly.0 (rw (← bound_weighs) heavy)

pub done_is_best : DoneIsBest
unfolding left bound
done_is_best sheet t slice target limit fine coded ended long light = (
  number_good sheet t slice limit fine coded target ended long light,
  plan_best sheet t slice limit fine coded target ended long light,
  plan_free sheet t slice limit fine coded target ended long light,
)

pub done_is_forbidden : DoneIsForbidden
unfolding left bound
done_is_forbidden sheet t slice target limit fine coded ended long heavy = (
  plan_refused sheet t slice limit fine coded target ended long heavy,
  every_forbidden sheet t slice limit fine coded target ended long heavy,
)

-- the words in front of the slice are as many as the steps
pub run_written : (sheet t slice : List ℕ) (limit : ℕ) → sheet_fault sheet ≡ 0 → (encode_call (made_words sheet) t).answer.number ≡ 0
    → let r = run_call (encode_call (made_words sheet) t).table limit slice in
    length (take r.answer.steps r.slice) ≡ r.answer.steps
unfolding words
run_written sheet t slice limit fine coded = steps_made sheet t slice limit fine coded

pub done_is_accepted : DoneIsAccepted
unfolding left words bound
done_is_accepted sheet t slice target limit fine coded ended long light work same =
    rw (steps_made sheet t slice limit fine coded) at (accepted sheet t slice limit fine coded target ended long light work same)
