-- Demand 3 as one statement: records whose fields are its sentences, and document 02's of completions, forbidden combinations and tables from last
-- year, for every accepted instance, every table of either form that comes from its encoding and every list of calls.
use Rattle.std.specs.Prelude.{ℕ, ◌≤◌, ◌<◌, min, ◌≡◌, ◌⊎◌, ◌↔◌, true, List, [], ◌∷◌, ◌++◌, length, drop}
use Rattle.std.proofs.Math.Option.{none, some}
use Rattle.wcsp.specs.Clause.{InRange}
use Rattle.wcsp.specs.Row.{Row, falsified, empty_weight}
use Rattle.wcsp.specs.Entry.{Entry, cost}
use Rattle.wcsp.specs.Resolve.{Pair, next_pair, resolve}
use Rattle.wcsp.specs.Rebuild.{rebuilt}
use Rattle.wcsp.specs.Bound.{row_bound, step_bound}
use Rattle.fields.specs.Limits.{forbidden_cost}
use Rattle.fields.specs.Answers.{refused, good}
use Rattle.input.specs.Instance.{instance_fault, sizes_of, entries_of}
use Rattle.table.specs.Form.{TableForm}
use Rattle.table.specs.Raws.{standard_form}
use Rattle.table.specs.Layout.{rows_at, table_words_in, table_words, capacity}
use Rattle.table.specs.Meaning.{table_sizes, own_rows_in, own_rows}
use Rattle.table.specs.Valid.{valid_table_in, valid_table}
use Rattle.table.specs.Five.{five_form}
use Rattle.conversion.specs.Calls.{to_six_call}
use Rattle.encoding.specs.Calls.{encoded_rows, encode_call}
use Rattle.stepping.specs.Step.{pair_word}
use Rattle.resolution.specs.Calls.{step_call, run_call}
use Rattle.resolution.specs.Numbers.{step_number, step_fields, outcome_field, run_number}
use Rattle.assignment.specs.Calls.{plan_call}
use Rattle.checker.specs.Theorems.{Best}
use Rattle.calls.specs.Calls.{Call, State, in_place, started, after_calls, Derives}
use Rattle.calls.specs.LastFixed.{CompletesBest}
use Rattle.calls.specs.Forbids.{ForbidsExactly}

-- how many rows a slice takes over these sizes
abbrev pub room : List ℕ → List ℕ → ℕ
room ds t = capacity (length t) (length ds)

-- what a step call on t gives: the paper's number and fields of its answer, and the table
abbrev pub StepGives : List ℕ → ℕ → List ℕ → List ℕ → Type 0
StepGives t number fields table =
    let c = step_call t in
    (step_number c.answer ≡ number) × (step_fields c.answer ≡ fields) × (c.table ≡ table)

-- how a further run on rows over these sizes ends, by the paper's number and the outcome field, and by no others
pub data RunEnds (ds : List ℕ) (cap most steps : ℕ) (rs : List Row) : (number field : ℕ) → Type 0 where
  -- done: no pair is left
  none_left : next_pair ds rs ≡ none → RunEnds ds cap most steps rs 0 0
  -- paused: at its limit or the end of its slice, with a pair left
  limit_met : steps ≡ most → (pr : Pair) → next_pair ds rs ≡ some pr → RunEnds ds cap most steps rs 0 1
  -- 12: with steps still to make, and a pair left whose finished step needs more rows than the capacity
  no_room : steps < most → (pr : Pair) → next_pair ds rs ≡ some pr → cap < length (resolve ds pr rs) → RunEnds ds cap most steps rs 12 2

-- what holds of a table t' of one form for these sizes and entries, after steps with the words ws that started from these rows
pub record Kept (f : TableForm) (ds : List ℕ) (es : List Entry) (from : List Row) (t' ws : List ℕ) : Type 0 where
  -- the table is a valid one of these sizes, and its rows are those of Steps: each step made was the next one
  pub valid : valid_table_in f t' ≡ true
  pub words : t' ≡ table_words_in f (length t') ds (own_rows_in f t')
  pub derived : Derives ds from ws (own_rows_in f t')
  -- the falsified weight equals the cost, for every assignment; so the empty row's weight is never above any cost
  pub conserved : (p : List ℕ) → InRange ds p → falsified p (own_rows_in f t') ≡ cost es p
  pub below : (p : List ℕ) → InRange ds p → empty_weight (length ds) (own_rows_in f t') ≤ cost es p
  -- no more steps than a number of the rows that they started from, which is fixed by sizes and entries
  pub bounded : length ws ≤ row_bound ds from
  pub fixed : row_bound ds from ≡ step_bound ds es

-- what holds then of a table of six-word rows: all this, and what further calls give
pub record Upheld (ds : List ℕ) (es : List Entry) (from : List Row) (t' ws : List ℕ) : Type 0 where
  pub kept : Kept standard_form ds es from t' ws
  -- a further step call: while a pair is left the step on it is made, or only 12 stops it
  pub step_made : (pr : Pair) → next_pair ds (own_rows t') ≡ some pr
      → let rs' = resolve ds pr (own_rows t') in
      length rs' ≤ room ds t'
      → StepGives t' 0 (0 ∷ (pair_word pr ∷ [])) (table_words (length t') ds rs')
  pub step_full : (pr : Pair) → next_pair ds (own_rows t') ≡ some pr → room ds t' < length (resolve ds pr (own_rows t'))
      → StepGives t' 12 (0 ∷ (0 ∷ [])) t'
  -- with none left it is done, and it answers done only then
  pub step_done : next_pair ds (own_rows t') ≡ none → StepGives t' 0 (1 ∷ (0 ∷ [])) t'
  pub done_only : step_fields (step_call t').answer ≡ 1 ∷ (0 ∷ []) → next_pair ds (own_rows t') ≡ none
  -- a further run: only the end, its limit, its slice or 12 stops it; its bound is the empty row's weight in the table it leaves
  pub run : (limit : ℕ) (slice : List ℕ)
      → let r = run_call t' limit slice in
      RunEnds ds (room ds t') (min limit (length slice)) r.answer.steps (own_rows r.table) (run_number r.answer)
      (outcome_field r.answer.outcome)
  pub run_bound : (limit : ℕ) (slice : List ℕ)
      → let r = run_call t' limit slice in
      r.answer.bound ≡ empty_weight (length ds) (own_rows r.table)
  -- so its outcome field is 0, done, exactly if no pair is left in the table it leaves
  pub run_done : (limit : ℕ) (slice : List ℕ)
      → let r = run_call t' limit slice in
      (outcome_field r.answer.outcome ≡ 0) ↔ (next_pair ds (own_rows r.table) ≡ none)
  -- and its number is never 9 and never 11
  pub run_numbers : (limit : ℕ) (slice : List ℕ)
      → let k = run_number (run_call t' limit slice).answer in
      (k ≡ 0) ⊎ (k ≡ 12)
  -- a further plan call: 10 for a short target, 13 while a pair is left, 15 for an empty row at least as heavy as a forbidden entry, else the rebuilt assignment
  pub plan_short : (target : List ℕ) → length target < length ds → plan_call t' target ≡ record { number = 10; target = target }
  pub plan_early : (target : List ℕ) (pr : Pair) → length ds ≤ length target → next_pair ds (own_rows t') ≡ some pr
      → plan_call t' target ≡ record { number = 13; target = target }
  pub plan_forbidden : (target : List ℕ) → length ds ≤ length target → next_pair ds (own_rows t') ≡ none
      → forbidden_cost ≤ empty_weight (length ds) (own_rows t') → plan_call t' target ≡ record { number = 15; target = target }
  pub plan_written : (target : List ℕ) → length ds ≤ length target → next_pair ds (own_rows t') ≡ none
      → empty_weight (length ds) (own_rows t') < forbidden_cost
      → plan_call t' target ≡ record { number = 0; target = rebuilt ds (own_rows t') ++ drop (length ds) target }
  -- once no pair is left, the rebuilt assignment has exactly the empty row's weight as cost, which is the least cost
  pub best : next_pair ds (own_rows t') ≡ none → Best ds es (rebuilt ds (own_rows t')) (empty_weight (length ds) (own_rows t'))
  -- and, of document 02, every fixed tail is completed at least cost
  pub completed : CompletesBest ds es t'
  -- and the empty row is at least as heavy as a forbidden entry exactly if every assignment has a forbidden combination; else the rebuilt one has none
  pub forbidden : next_pair ds (own_rows t') ≡ none → ForbidsExactly ds es t'

-- and of one of five-word rows: converting it gives 10 for a short target, 12 without room, else the table of the same rows
pub record UpheldFive (ds : List ℕ) (es : List Entry) (from : List Row) (t' ws : List ℕ) : Type 0 where
  pub kept : Kept five_form ds es from t' ws
  pub six_short : (target : List ℕ) → length target < rows_at (length ds) → to_six_call t' target ≡ record { answer = refused 10; target = target }
  pub six_full : (target : List ℕ) → rows_at (length ds) ≤ length target → room ds target < length (own_rows_in five_form t')
      → to_six_call t' target ≡ record { answer = refused 12; target = target }
  pub six_made : (target : List ℕ) → rows_at (length ds) ≤ length target → length (own_rows_in five_form t') ≤ room ds target
      → to_six_call t' target
      ≡ record { answer = good (length (own_rows_in five_form t')); target = table_words (length target) ds (own_rows_in five_form t') }

-- a table, and the derivation that led to it: of one form or of the other, and what holds in each
pub record UpheldEither (ds : List ℕ) (es : List Entry) (from : List Row) (st : State) : Type 0 where
  pub either : (valid_table st.table ≡ true) ⊎ (valid_table_in five_form st.table ≡ true)
  pub six : valid_table st.table ≡ true → Upheld ds es from st.table st.derivation
  pub five : valid_table_in five_form st.table ≡ true → UpheldFive ds es from st.table st.derivation

-- what calls left of an encoding of inst
abbrev pub UpheldOf : List ℕ → State → Type 0
UpheldOf inst st = UpheldEither (sizes_of inst) (entries_of inst) (encoded_rows inst) st

-- a table of form f with a derivation that leads to it from the encoding of an accepted instance: an encoding just made, or a half-resolved
-- table that was kept, from this year or the last
pub record ComesIn (f : TableForm) (inst : List ℕ) (st : State) : Type 0 where
  pub accepted : instance_fault inst ≡ 0
  pub valid : valid_table_in f st.table ≡ true
  pub sizes : table_sizes st.table ≡ sizes_of inst
  pub derived : Derives (sizes_of inst) (encoded_rows inst) st.derivation (own_rows_in f st.table)

abbrev pub Comes : List ℕ → State → Type 0
Comes inst st = ComesIn standard_form inst st ⊎ ComesIn five_form inst st

-- demand 3, for every accepted instance, every table of either form whose rows are those of Steps, and every list of calls
abbrev pub Demand3 : Type 0
Demand3 = (inst : List ℕ) (st : State) (calls : List Call) → Comes inst st → UpheldOf inst (after_calls st calls)

-- a good encoding wrote, row for row, the table of the encoding; so it is such a table, with no step yet
abbrev pub EncodesExactly : Type 0
EncodesExactly = (inst t : List ℕ) → (encode_call inst t).answer.number ≡ 0
    → (encode_call inst t).table ≡ table_words (length t) (sizes_of inst) (encoded_rows inst)

abbrev pub EncodedComes : Type 0
EncodedComes = (inst t : List ℕ) → (encode_call inst t).answer.number ≡ 0 → Comes inst (started inst t)

-- without a conversion the table stays in its slice, of six-word rows: the table t' and the derivation ws that calls left of an encoding of inst in t
abbrev pub UpheldFrom : List ℕ → List ℕ → List ℕ → List ℕ → Type 0
UpheldFrom inst t t' ws = (length t' ≡ length t) × Upheld (sizes_of inst) (entries_of inst) (encoded_rows inst) t' ws

abbrev pub Demand3InPlace : Type 0
Demand3InPlace = (inst t : List ℕ) (calls : List Call) → (encode_call inst t).answer.number ≡ 0 → in_place calls ≡ true
    → let st = after_calls (started inst t) calls in
    UpheldFrom inst t st.table st.derivation
