-- A slice that holds sizes and rows as a table: what it reads as, and what the step, the plan and the complete call come to on its rows.
use Prim.Native.Nat.{ℕ, ◌≤◌, ◌<◌, min}
use mathlib.Core.Path.{◌≡◌, ap, ap₂, ◌∙◌}
use mathlib.Core.Bool.{true, false}
use mathlib.Core.List.{List, [], ◌++◌}
use mathlib.Core.Option.{Option, none, some}
use lib.ListN.{length, drop}
use lib.Dec.{leb, ltb}
use borrow.Author.Tests.{le-leb, lt-leb, lt-ltb, le-ltb}
use Rattle.wcsp.specs.Clause.{InRange}
use Rattle.wcsp.specs.Row.{Row, empty_weight}
use Rattle.wcsp.specs.Resolve.{Pair, next_pair}
use Rattle.wcsp.specs.Rebuild.{rebuilt, rebuilt_over, tail_weight}
use Rattle.fields.specs.Limits.{forbidden_cost}
use Rattle.fields.specs.Answers.{good}
use Rattle.rows.specs.Raw.{max_weight}
use Rattle.table.specs.Layout.{capacity, table_words}
use Rattle.table.specs.Meaning.{table_sizes}
use Rattle.table.proofs.Own.{Held}
use Rattle.stepping.specs.Step.{with_rows}
use Rattle.resolution.specs.Step.{one_step}
use Rattle.resolution.specs.Run.{run_rows}
use Rattle.resolution.specs.Calls.{step_returns, step_call, run_returns, run_call}
use Rattle.assignment.specs.Order.{table_pair}
use Rattle.assignment.specs.Calls.{table_assignment, table_completion, empty_forbids, plan_on, plan_call}
use Rattle.assignment.proofs.Planning.{plan_forbidden, plan_allowed}
use Rattle.completion.specs.Calls.{fixed_fit, completion_cost, complete_on, complete_call}
use Rattle.completion.proofs.Fitting.{fits_of}
use Rattle.completion.proofs.Completing.{call_on, on_good}

module _ {t : List ℕ} {len : ℕ} {ds : List ℕ} {rs : List Row} (h : Held t len ds rs) where
  pub held_rows : (rs' : List Row) → with_rows t rs' ≡ table_words len ds rs'
  held_rows rs' = ap₂ (λ n sizes. table_words n sizes rs') h.long h.sizes

  pub held_step : step_call t ≡ step_returns t (one_step ds (capacity len (length ds)) rs)
  unfolding step_call
  held_step = rw (h.valid, h.sizes, h.capacious, h.rows)

  pub held_run : (limit : ℕ) (slice : List ℕ)
      → run_call t limit slice ≡ run_returns (length ds) t slice (run_rows ds (capacity len (length ds)) (min limit (length slice)) rs [])
  unfolding run_call
  held_run limit slice = rw (h.valid, h.capacious, h.variables, h.sizes, h.rows)

  pub held_assignment : table_assignment t ≡ rebuilt ds rs
  unfolding table_assignment
  held_assignment = rw (h.sizes, h.rows)

  pub plan_short : (target : List ℕ) → length target < length ds → plan_call t target ≡ record { number = 10; target = target }
  unfolding plan_call
  plan_short target l = rw (h.valid, h.variables, lt-ltb (length target) (length ds) l)

  -- a target long enough
  plan_room : (target : List ℕ) (o : Option Pair) → length ds ≤ length target → next_pair ds rs ≡ o → plan_call t target ≡ plan_on t target o
  unfolding plan_call
  plan_room target o l e = rw (h.valid, h.variables, le-ltb (length target) (length ds) l, h.sizes, h.rows, e)

  pub plan_early : (target : List ℕ) (pr : Pair) → length ds ≤ length target → next_pair ds rs ≡ some pr
      → plan_call t target ≡ record { number = 13; target = target }
  unfolding plan_on
  plan_early target pr l e = plan_room target (some pr) l e

  held_forbids : empty_forbids t ≡ leb forbidden_cost (empty_weight (length ds) rs)
  unfolding empty_forbids
  held_forbids = rw (h.variables, h.rows)

  pub plan_heavy : (target : List ℕ) → length ds ≤ length target → next_pair ds rs ≡ none → forbidden_cost ≤ empty_weight (length ds) rs
      → plan_call t target ≡ record { number = 15; target = target }
  plan_heavy target l e w = plan_room target none l e ∙ plan_forbidden t target (held_forbids ∙ le-leb forbidden_cost (empty_weight (length ds) rs) w)

  pub plan_written : (target : List ℕ) → length ds ≤ length target → next_pair ds rs ≡ none → empty_weight (length ds) rs < forbidden_cost
      → plan_call t target ≡ record { number = 0; target = rebuilt ds rs ++ drop (length ds) target }
  plan_written target l e w =
      plan_room target none l e
      ∙ plan_allowed t target (held_forbids ∙ lt-leb forbidden_cost (empty_weight (length ds) rs) w)
      ∙ rw (h.variables, held_assignment)

  -- what a completion comes to in the table's words
  held_cost : (k : ℕ) (q : List ℕ) → completion_cost t k q ≡ tail_weight k q rs
  unfolding completion_cost
  held_cost k q = rw h.rows

  held_completion : (k : ℕ) (q : List ℕ) → table_completion t k q ≡ rebuilt_over ds rs k q
  unfolding table_completion
  held_completion k q = rw (h.sizes, h.rows)

  pub complete_written : (k : ℕ) (fixed target : List ℕ) → length ds ≤ length target → k ≤ length ds → InRange (drop k ds) fixed
      → next_pair ds rs ≡ none → tail_weight k fixed rs ≤ max_weight
      → complete_call t k fixed target ≡ record { answer = good (tail_weight k fixed rs); target = rebuilt_over ds rs k fixed ++ drop (length ds) target }
  complete_written k fixed target l low r e light =
      let fit : fixed_fit (table_sizes t) k fixed ≡ true = rw h.sizes (fits_of ds k fixed low r) in
      let done : table_pair t ≡ none = rw (h.sizes, h.rows) e in
      let small : ltb max_weight (completion_cost t k fixed) ≡ false = rw (held_cost k fixed) (le-ltb max_weight (tail_weight k fixed rs) light) in
      call_on t k fixed target h.valid (rw h.variables l) fit
      ∙ ap (complete_on t k fixed target) done
      ∙ on_good t k fixed target small
      ∙ rw (held_cost k fixed, held_completion k fixed, h.variables)
