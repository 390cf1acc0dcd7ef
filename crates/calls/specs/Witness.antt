-- P1 of document 01 on words meets each hypothesis of demand 3, of an accepted derivation and of the driver's. What the calls refuse, and how
-- a run ends that is not done: on P1 too, and on a field whose table is too short for its first step. What P1 comes to stands in WordCases.
-- Then forbidden combinations: a field with one spot over a drain, and one with both. Then P1's table converted on the way, P2's half resolved and
-- in five-word rows, and room for the most rows.
use Rattle.std.specs.Prelude.{ℕ, ◌+◌, ◌-◌, ◌*◌, ◌<◌, ◌≡◌, true, false, List, [], ◌∷◌, length, take, replicate}
use Rattle.std.proofs.Math.Option.{none, some}
use Rattle.wcsp.specs.Resolve.{next_pair}
use Rattle.words.specs.Layout.{head_word, size_word, binding_word, cost_word, forbidden_word, step_word}
use Rattle.fields.specs.Limits.{forbidden_cost}
use Rattle.fields.specs.Answers.{good}
use Rattle.fields.specs.Forbidden.{has_forbidden}
use Rattle.input.specs.Instance.{sizes_of, entries_of}
use Rattle.rows.specs.Raw.{row_width}
use Rattle.table.specs.Layout.{rows_at}
use Rattle.table.specs.Meaning.{table_sizes, row_count, own_rows_in, own_rows}
use Rattle.table.specs.Valid.{valid_table_in, valid_table}
use Rattle.encoding.specs.Calls.{encoded_rows, encode_call}
use Rattle.table.specs.Five.{five_form}
use Rattle.resolution.specs.Calls.{RunReturned, run_call}
use Rattle.resolution.specs.Numbers.{run_number, run_fields}
use Rattle.assignment.specs.Calls.{plan_call, table_assignment}
use Rattle.assignment.specs.Order.{is_left}
use Rattle.completion.specs.Calls.{complete_call}
use Rattle.checker.specs.Answer.{CheckAnswer}
use Rattle.checker.specs.Calls.{check_call}
use Rattle.calls.specs.Calls.{Call, step_asked, run_asked, plan_asked, six_asked, five_asked, State, started, after_calls}
use Rattle.calls.specs.Derivation.{needs}
use Rattle.calls.specs.Driver.{DriveReturned, drive_all}
use Rattle.calls.specs.WordCases.{p1, p2}

-- a slice that takes two rows of one variable, or of two, whatever lay in it
abbrev pub lent : List ℕ
lent = replicate (rows_at 2 + 2 * row_width) 7

-- a run of at most five steps, and a plan
abbrev pub p1_calls : List Call
p1_calls = run_asked 5 (5 ∷ 6 ∷ []) ∷ plan_asked (9 ∷ 8 ∷ []) ∷ []

-- the driver's words for a step, for a run of limit 5 with a slice of 2 words, and for a plan into 1 byte
abbrev pub p1_asks : List ℕ
p1_asks = 0 ∷ (268435456 + 5 * 16384 + 2) ∷ (2 * 268435456 + 1) ∷ []

abbrev pub p1_driven : DriveReturned
p1_driven = drive_all p1 lent p1_asks (5 ∷ 6 ∷ []) (9 ∷ 8 ∷ [])

-- two variables of two values; rows that the slice takes, but not those of their first step
abbrev pub crowded : List ℕ
crowded = head_word 2 ∷ size_word 2 ∷ size_word 2 ∷ binding_word 0 0 ∷ cost_word 3 ∷ binding_word 0 1 ∷ binding_word 1 0 ∷ cost_word 1 ∷ []

-- two values: the first is forbidden and the second costs 1; or both are forbidden
abbrev pub one_over_drain : List ℕ
one_over_drain = head_word 1 ∷ size_word 2 ∷ binding_word 0 0 ∷ forbidden_word ∷ binding_word 0 1 ∷ cost_word 1 ∷ []

abbrev pub both_over_drain : List ℕ
both_over_drain = head_word 1 ∷ size_word 2 ∷ binding_word 0 0 ∷ forbidden_word ∷ binding_word 0 1 ∷ forbidden_word ∷ []

-- the table that a run to its end leaves
abbrev pub finished_table : List ℕ → List ℕ
finished_table inst = (run_call (encode_call inst lent).table 5 (5 ∷ 6 ∷ [])).table

-- back to five-word rows; a step, which is refused; to six-word rows in a target that is too short, and in one with room; a run
abbrev pub converting_calls : List Call
converting_calls = five_asked (replicate 13 9) ∷ step_asked ∷ six_asked (replicate 2 9) ∷ six_asked (replicate 15 9) ∷ run_asked 5 (5 ∷ 6 ∷ []) ∷ []

-- what the first k of them leave of P1's encoding
abbrev pub converted_by : ℕ → State
converted_by k = after_calls (started p1 lent) (take k converting_calls)

-- P2's table after one step of three, back in five-word rows
abbrev pub halfway : State
halfway = after_calls (started p2 (replicate 21 7)) (step_asked ∷ five_asked (replicate 18 9) ∷ [])

-- a run to the end in a slice with room for the three rows of the crowded field's first step, and its words
abbrev pub roomy : RunReturned
roomy = run_call (encode_call crowded (replicate (rows_at 2 + 3 * row_width) 7)).table 9 (replicate 4 5)

abbrev pub roomy_words : List ℕ
roomy_words = take roomy.answer.steps roomy.slice

-- the check of that run's words in a work table of so many words
abbrev pub roomy_check : ℕ → CheckAnswer
roomy_check len = (check_call crowded roomy_words (table_assignment roomy.table) roomy.answer.bound (replicate len 7)).answer

-- what a run gives: the paper's number of its answer, and its outcome, steps and bound
abbrev pub RunGives : List ℕ → ℕ → List ℕ → ℕ → List ℕ → Type 0
RunGives t limit slice number fields = let a = (run_call t limit slice).answer in (run_number a ≡ number) × (run_fields a ≡ fields)

pub record Witnesses : Type 0 where
  -- demand 3: the encoding is good; a pair is left then, and none after the calls
  pub encodes : (encode_call p1 lent).answer ≡ good 2
  pub left : next_pair (sizes_of p1) (own_rows (encode_call p1 lent).table) ≡ some (record { variable = 0; first = 0; second = 1 })
  pub ends : next_pair (sizes_of p1) (own_rows (after_calls (started p1 lent) p1_calls).table) ≡ none
  pub derives : (after_calls (started p1 lent) p1_calls).derivation ≡ step_word 0 0 1 ∷ []
  -- a run paused, and one stopped by 12
  pub paused : RunGives (encode_call p1 lent).table 5 [] 0 (1 ∷ 0 ∷ 0 ∷ [])
  pub full : RunGives (encode_call crowded lent).table 5 (5 ∷ 6 ∷ []) 12 (2 ∷ 0 ∷ 0 ∷ [])
  -- a plan call refused: 13, 10
  pub early : plan_call (encode_call p1 lent).table (9 ∷ 8 ∷ []) ≡ record { number = 13; target = 9 ∷ 8 ∷ [] }
  pub short : plan_call (encode_call p1 lent).table [] ≡ record { number = 10; target = [] }
  -- a claim refused: the cost is the plan's, but not the least
  pub refused : (check_call p1 (step_word 0 0 1 ∷ []) (0 ∷ []) 3 lent).answer ≡ record { number = 7; steps = 1 }
  -- the driver makes the step by its first word, leaves no pair, and writes the step word and the plan
  pub driven : p1_driven.answer ≡ record { number = 0; steps = 1 }
  pub driven_ends : next_pair (sizes_of p1) (own_rows p1_driven.table) ≡ none
  pub driven_words : p1_driven.out ≡ step_word 0 0 1 ∷ 6 ∷ []
  pub driven_plan : p1_driven.target ≡ 1 ∷ 8 ∷ []
  -- a forbidden value is left out; where both are forbidden the plan call gives 15, and the completion of no value and the checker take the cost
  pub allowed_plan : plan_call (finished_table one_over_drain) (9 ∷ 8 ∷ []) ≡ record { number = 0; target = 1 ∷ 8 ∷ [] }
  pub allowed_free : has_forbidden (entries_of one_over_drain) (1 ∷ []) ≡ false
  pub first_forbidden : has_forbidden (entries_of both_over_drain) (0 ∷ []) ≡ true
  pub second_forbidden : has_forbidden (entries_of both_over_drain) (1 ∷ []) ≡ true
  pub forbidden_ends : next_pair (sizes_of both_over_drain) (own_rows (finished_table both_over_drain)) ≡ none
  pub forbidden_plan : plan_call (finished_table both_over_drain) (9 ∷ 8 ∷ []) ≡ record { number = 15; target = 9 ∷ 8 ∷ [] }
  pub forbidden_completed : complete_call (finished_table both_over_drain) 1 [] (9 ∷ 8 ∷ []) ≡ record { answer = good forbidden_cost; target = 0 ∷ 8 ∷ [] }
  pub forbidden_checked : (check_call both_over_drain (step_word 0 0 1 ∷ []) (0 ∷ []) forbidden_cost lent).answer ≡ record { number = 0; steps = 1 }
  pub checked_ends : next_pair (sizes_of both_over_drain) (own_rows (check_call both_over_drain (step_word 0 0 1 ∷ []) (0 ∷ []) forbidden_cost lent).table) ≡ none
  -- converted on the way: the table of five-word rows is no table to the step, and the derivation goes on in another slice
  pub converted_five : valid_table_in five_form (converted_by 1).table ≡ true
  pub converted_only : valid_table (converted_by 1).table ≡ false
  pub converted_rows : 0 < row_count (converted_by 1).table
  pub converted_stays : converted_by 3 ≡ converted_by 1
  pub converted_six : valid_table (converted_by 4).table ≡ true
  pub converted_length : length (converted_by 4).table ≡ 15
  pub converted_ends : next_pair (sizes_of p1) (own_rows (converted_by 5).table) ≡ none
  pub converted_derives : (converted_by 5).derivation ≡ step_word 0 0 1 ∷ []
  -- a half-resolved table of five-word rows, as one that was kept: a step is made, and a pair is left
  pub halfway_five : valid_table_in five_form halfway.table ≡ true
  pub halfway_sizes : table_sizes halfway.table ≡ sizes_of p2
  pub halfway_rows : 0 < row_count halfway.table
  pub halfway_steps : length halfway.derivation ≡ 1
  pub halfway_left : is_left (next_pair (sizes_of p2) (own_rows_in five_form halfway.table)) ≡ true
  -- room for the most rows that the steps had, more than the encoding has, is enough and no word less
  pub roomy_rows : length (encoded_rows crowded) < needs crowded roomy_words
  pub roomy_most : needs crowded roomy_words ≡ 3
  pub roomy_ends : next_pair (sizes_of crowded) (own_rows roomy.table) ≡ none
  pub roomy_accepted : roomy_check (rows_at 2 + 3 * row_width) ≡ record { number = 0; steps = length roomy_words }
  pub roomy_short : (roomy_check (rows_at 2 + 3 * row_width - 1)).number ≡ 12
