-- The step call and the run answer the first of their tests that applies. A run that ends done has no pair, one that pauses has made every step that it may: for neither 11 or 12 applies.
use Prim.Native.Nat.{ℕ, zero, suc, ◌+◌, min}
use native.Mathlib.Omega.{arith}
use mathlib.Core.Path.{◌≡◌, refl, sym, ◌∙◌}
use mathlib.Core.Bool.{Bool, true, false, not, cond}
use mathlib.Core.List.{List, [], ◌∷◌, ◌++◌}
use mathlib.Core.Option.{Option, none, some}
use lib.ListN.{length, length-append}
use lib.Dec.{ltb}
use borrow.Author.Tests.{lt-ltb, le-ltb}
use Rattle.wcsp.specs.Row.{Row}
use Rattle.wcsp.specs.Resolve.{Pair, next_pair, resolve}
use Rattle.fields.specs.Order.{in_order, first_of}
use Rattle.table.specs.Layout.{too_heavy}
use Rattle.table.specs.Meaning.{variables_of, table_sizes, own_rows, capacity_of}
use Rattle.table.specs.Valid.{valid_table}
use Rattle.stepping.specs.Step.{Stepping, refusing, steps_to, allowed, refusal_of, pair_word}
use Rattle.resolution.specs.Outcomes.{Outcome}
use Rattle.resolution.specs.Answers.{Refused}
use Rattle.resolution.specs.Step.{on_pair, one_step}
use Rattle.resolution.specs.Run.{Ran, after, at_limit, run_rows}
use Rattle.resolution.specs.Numbers.{step_number, outcome_number, run_number}
use Rattle.resolution.specs.Calls.{StepReturned, step_returns, step_call, RunReturned, run_returns, run_call}
use Rattle.resolution.specs.Order.{finished_is, tests_on_rows, ran_on, StepInOrder, RunInOrder}

-- the number of a step, 0 where no pair is left or the step can be made
number_of : Option Stepping → ℕ
number_of none = 0
number_of (some s) = refusal_of s

by_pair : (ds : List ℕ) (room : ℕ) (rs : List Row) → number_of (one_step ds room rs) ≡ first_of (tests_on_rows true ds room rs)
unfolding number_of one_step on_pair allowed refusal_of finished_is first_of
by_pair ds room rs = go (next_pair ds rs)
  where
    judged : (pr : Pair) (rs' : List Row) (heavy many : Bool)
        → refusal_of (cond heavy (refusing 11) (cond many (refusing 12) (steps_to pr rs'))) ≡ cond heavy 11 (cond many 12 0)
    judged pr rs' true many = refl
    judged pr rs' false true = refl
    judged pr rs' false false = refl

    go : (o : Option Pair)
        → number_of (on_pair ds room rs o) ≡ cond (finished_is too_heavy ds rs o) 11 (cond (finished_is (λ rs'. ltb room (length rs')) ds rs o) 12 0)
    go none = refl
    go (some pr) = let rs' = resolve ds pr rs in judged pr rs' (too_heavy rs') (ltb room (length rs'))

answered : (t : List ℕ) (o : Option Stepping) → step_number (step_returns t o).answer ≡ number_of o
unfolding number_of step_number step_returns refusal_of
answered t none = refl
answered t (some (refusing k)) = refl
answered t (some (steps_to pr rs)) = refl

step_decides : (t : List ℕ) (valid : Bool) (ds : List ℕ) (room : ℕ) (rs : List Row)
    → step_number (cond {A = StepReturned} valid (step_returns t (one_step ds room rs)) (record { answer = Refused 9; table = t })).answer
    ≡ cond (not valid) 9 (first_of (tests_on_rows true ds room rs))
unfolding step_number
step_decides t true ds room rs = answered t (one_step ds room rs) ∙ by_pair ds room rs
step_decides t false ds room rs = refl

pub step_in_order : StepInOrder
unfolding step_call in_order first_of
step_in_order t = record { order = refl; decides = step_decides t (valid_table t) (table_sizes t) (capacity_of t) (own_rows t) }

-- ---- the run

-- with no step wanted neither 11 nor 12 applies
not_wanted : (ds : List ℕ) (room : ℕ) (rs : List Row) → first_of (tests_on_rows false ds room rs) ≡ 0
unfolding first_of
not_wanted ds room rs = refl

-- a run of up to k more steps, after those with these words
abbrev Decides : List ℕ → ℕ → ℕ → Ran → Type 0
Decides ds room most ran =
    outcome_number ran.outcome ≡ first_of (tests_on_rows (ltb (length ran.made) most) ds room ran.rows)

run_decides : (ds : List ℕ) (room k : ℕ) (rs : List Row) (made : List ℕ) (most : ℕ) → length made + k ≡ most
    → Decides ds room most (run_rows ds room k rs made)
unfolding number_of refusal_of run_rows after at_limit outcome_number
run_decides ds room zero rs made most h = go (next_pair ds rs)
  where
    ended : 0 ≡ first_of (tests_on_rows (ltb (length made) most) ds room rs)
    ended = rw (le-ltb (length made) most (omega arith)) (sym (not_wanted ds room rs))

    go : (o : Option Pair) → Decides ds room most (at_limit rs made o)
    go none = ended
    go (some pr) = ended
run_decides ds room (suc k) rs made most h = go (one_step ds room rs) (by_pair ds room rs) (λ rs' made' h'. run_decides ds room k rs' made' most h')
  where
    wanted : ltb (length made) most ≡ true
    wanted = lt-ltb (length made) most (omega arith)

    go : (o : Option Stepping) → number_of o ≡ first_of (tests_on_rows true ds room rs)
        → ((rs' : List Row) (made' : List ℕ) → length made' + k ≡ most → Decides ds room most (run_rows ds room k rs' made'))
        → Decides ds room most (after (record { outcome = Outcome.Done; rows = rs; made = made })
        (λ number. record { outcome = Outcome.Refused number; rows = rs; made = made })
        (λ pr rs'. run_rows ds room k rs' (made ++ (pair_word pr ∷ []))) o)
    go none e later = rw wanted e
    go (some (refusing number)) e later = rw wanted e
    go (some (steps_to pr rs')) e later =
        later rs' (made ++ (pair_word pr ∷ [])) (omega (arith, length-append made (pair_word pr ∷ [])))

run_first : (t slice : List ℕ) (n : ℕ) (valid : Bool) (ds : List ℕ) (room most : ℕ) (ran : Ran) → Decides ds room most ran
    → run_number (cond {A = RunReturned} valid (run_returns n t slice ran)
    (record { answer = record { outcome = Outcome.Refused 9; steps = 0; bound = 0 }; table = t; slice = slice })).answer
    ≡ cond (not valid) 9 (first_of (tests_on_rows (ltb (length ran.made) most) ds room ran.rows))
unfolding outcome_number
run_first t slice n true ds room most ran e = e
run_first t slice n false ds room most ran e = refl

pub run_in_order : RunInOrder
unfolding run_call in_order first_of
run_in_order t limit slice =
    let most = min limit (length slice) in
    let decided = run_decides (table_sizes t) (capacity_of t) most (own_rows t) [] most (omega arith) in
    record {
      order = refl;
      decides = run_first t slice (variables_of t) (valid_table t) (table_sizes t) (capacity_of t) most (ran_on t most) decided;
    }
