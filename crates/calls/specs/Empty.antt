-- Document 02, a field with no stations: what holds after every list of calls where an accepted instance has no variables, and both forms of such an
-- instance, no words and a head of 0 with constant costs, on words through every call on tables.
use Rattle.std.specs.Prelude.{ℕ, ◌+◌, ◌≤◌, ◌<◌, ◌≡◌, true, false, List, [], ◌∷◌, replicate}
use Rattle.wcsp.specs.Row.{empty_weight}
use Rattle.wcsp.specs.Entry.{Entry}
use Rattle.wcsp.specs.Empty.{all_costs}
use Rattle.words.specs.Layout.{head_word, size_word, binding_word, cost_word, signs_word, weight_word, step_word, count_word, forbidden_word, high_word}
use Rattle.fields.specs.Limits.{forbidden_cost}
use Rattle.fields.specs.Answers.{refused, good}
use Rattle.input.specs.Instance.{instance_fault, sizes_of, entries_of}
use Rattle.table.specs.Meaning.{own_rows}
use Rattle.table.specs.Valid.{valid_table_in, valid_table}
use Rattle.table.specs.Five.{five_form}
use Rattle.conversion.specs.Calls.{to_six_call, to_five_call}
use Rattle.encoding.specs.Calls.{encode_call}
use Rattle.resolution.specs.Answers.{Done}
use Rattle.resolution.specs.Calls.{step_call}
use Rattle.assignment.specs.Calls.{plan_call}
use Rattle.completion.specs.Calls.{complete_call}
use Rattle.checker.specs.Theorems.{Best}
use Rattle.checker.specs.Calls.{check_call}
use Rattle.calls.specs.Calls.{Call, State, after_calls}
use Rattle.calls.specs.Demand.{Comes}
use Rattle.calls.specs.Driver.{drive_all}
use Rattle.calls.specs.Witness.{p1_asks, RunGives}

-- what holds of a table of six-word rows that calls left, and what further calls give; `Upheld` holds of it too
pub record EmptyUpheld (es : List Entry) (st : State) : Type 0 where
  -- no step was made, and the empty row weighs the sum of the costs
  pub steps : st.derivation ≡ []
  pub weight : empty_weight 0 (own_rows st.table) ≡ all_costs es
  -- the one assignment is the best, and the sum is its cost
  pub best : Best [] es [] (all_costs es)
  -- a plan call writes no byte; it is good, or refused with 15 where a constant cost forbids every plan
  pub planned : (target : List ℕ) → all_costs es < forbidden_cost → plan_call st.table target ≡ record { number = 0; target = target }
  pub forbidden : (target : List ℕ) → forbidden_cost ≤ all_costs es → plan_call st.table target ≡ record { number = 15; target = target }
  -- the completion of no values, the only one there is, has the sum too
  pub completed : (target : List ℕ) → complete_call st.table 0 [] target ≡ record { answer = good (all_costs es); target = target }

abbrev pub EmptyUpholds : Type 0
EmptyUpholds = (inst : List ℕ) (st : State) (calls : List Call) → Comes inst st → sizes_of inst ≡ [] → valid_table (after_calls st calls).table ≡ true
    → EmptyUpheld (entries_of inst) (after_calls st calls)

-- ---- worked by hand

abbrev pub constants : List ℕ
constants = head_word 0 ∷ cost_word 5 ∷ cost_word 7 ∷ []

abbrev pub forbidden_constant : List ℕ
forbidden_constant = head_word 0 ∷ cost_word 5 ∷ forbidden_word ∷ []

-- slices of nine words, whatever lies in them: room for one row and a word
abbrev pub nine : List ℕ
nine = replicate 9 7

-- the table of no rows, and that of the empty row at a weight of at most 28 bits, in six words and in five
abbrev pub no_rows : List ℕ
no_rows = head_word 0 ∷ count_word 0 ∷ replicate 7 0

abbrev pub one_row : ℕ → List ℕ
one_row w = head_word 0 ∷ count_word 1 ∷ signs_word 0 0 ∷ signs_word 1 0 ∷ signs_word 2 0 ∷ signs_word 3 0 ∷ weight_word w ∷ high_word 0 ∷ 0 ∷ []

abbrev pub one_five : ℕ → List ℕ
one_five w = head_word 0 ∷ count_word 1 ∷ signs_word 0 0 ∷ signs_word 1 0 ∷ signs_word 2 0 ∷ signs_word 3 0 ∷ weight_word w ∷ []

pub record EmptyFields : Type 0 where
  -- which instances there are
  pub accepts : (instance_fault [] ≡ 0) × (instance_fault constants ≡ 0) × (instance_fault forbidden_constant ≡ 0)
  pub binding : instance_fault (head_word 0 ∷ binding_word 0 0 ∷ cost_word 5 ∷ []) ≡ 3
  pub station : instance_fault (head_word 0 ∷ size_word 1 ∷ []) ≡ 3
  pub dear : instance_fault (head_word 0 ∷ cost_word 65536 ∷ []) ≡ 4
  pub thirteen : instance_fault (head_word 13 ∷ []) ≡ 1
  -- their encodings, from two words on
  pub codes_nothing : encode_call [] nine ≡ record { answer = good 0; table = no_rows }
  pub codes_head : encode_call (head_word 0 ∷ []) nine ≡ record { answer = good 0; table = no_rows }
  pub codes_constants : encode_call constants nine ≡ record { answer = good 1; table = one_row 12 }
  pub codes_forbidden : encode_call forbidden_constant nine ≡ record { answer = good 1; table = one_row (forbidden_cost + 5) }
  pub two_words : encode_call [] (7 ∷ 7 ∷ []) ≡ record { answer = good 0; table = head_word 0 ∷ count_word 0 ∷ [] }
  pub one_word : encode_call [] (7 ∷ []) ≡ record { answer = refused 10; table = 7 ∷ [] }
  pub no_room : (encode_call constants (replicate 7 7)).answer ≡ refused 12
  -- which tables there are, in both forms
  pub valid : (valid_table no_rows ≡ true) × (valid_table (one_row 12) ≡ true)
  pub valid_five : (valid_table_in five_form no_rows ≡ true) × (valid_table_in five_form (one_five 12) ≡ true)
  pub short : (valid_table (head_word 0 ∷ []) ≡ false) × (valid_table [] ≡ false)
  pub short_five : (valid_table_in five_form (head_word 0 ∷ []) ≡ false) × (valid_table_in five_form [] ≡ false)
  pub zeros : (valid_table (replicate 9 0) ≡ false) × (valid_table_in five_form (replicate 9 0) ≡ false)
  -- there is nothing to resolve
  pub steps_nothing : step_call no_rows ≡ record { answer = Done; table = no_rows }
  pub steps_constants : step_call (one_row 12) ≡ record { answer = Done; table = one_row 12 }
  pub ran_nothing : RunGives no_rows 5 [] 0 (0 ∷ 0 ∷ 0 ∷ [])
  pub ran_constants : RunGives (one_row 12) 0 [] 0 (0 ∷ 0 ∷ 12 ∷ [])
  -- the plan of no bytes
  pub plans_nothing : plan_call no_rows [] ≡ record { number = 0; target = [] }
  pub plans_constants : plan_call (one_row 12) (9 ∷ []) ≡ record { number = 0; target = 9 ∷ [] }
  pub plans_none : plan_call (one_row (forbidden_cost + 5)) [] ≡ record { number = 15; target = [] }
  -- its completion: k is 0, and no value is fixed
  pub completes_nothing : complete_call no_rows 0 [] [] ≡ record { answer = good 0; target = [] }
  pub completes_constants : complete_call (one_row 12) 0 [] (9 ∷ []) ≡ record { answer = good 12; target = 9 ∷ [] }
  pub from_one : complete_call no_rows 1 [] [] ≡ record { answer = refused 14; target = [] }
  pub fixed_one : complete_call no_rows 0 (0 ∷ []) [] ≡ record { answer = refused 14; target = [] }
  -- the claim of no bytes at the sum
  pub checks_nothing : check_call [] [] [] 0 nine ≡ record { answer = record { number = 0; steps = 0 }; table = no_rows }
  pub checks_constants : check_call constants [] [] 12 nine ≡ record { answer = record { number = 0; steps = 0 }; table = one_row 12 }
  pub checks_forbidden : (check_call forbidden_constant [] [] (forbidden_cost + 5) nine).answer ≡ record { number = 0; steps = 0 }
  pub cheaper : (check_call constants [] [] 11 nine).answer ≡ record { number = 7; steps = 0 }
  pub byte : (check_call [] [] (0 ∷ []) 0 nine).answer ≡ record { number = 7; steps = 0 }
  pub step : (check_call constants (step_word 0 0 1 ∷ []) [] 12 nine).answer ≡ record { number = 6; steps = 0 }
  -- conversions there and back
  pub back_nothing : to_five_call no_rows (9 ∷ 9 ∷ []) ≡ record { answer = good 0; target = head_word 0 ∷ count_word 0 ∷ [] }
  pub there_nothing : to_six_call (head_word 0 ∷ count_word 0 ∷ []) nine ≡ record { answer = good 0; target = no_rows }
  pub back_constants : to_five_call (one_row 12) (replicate 7 9) ≡ record { answer = good 1; target = one_five 12 }
  pub there_constants : to_six_call (one_five 12) nine ≡ record { answer = good 1; target = one_row 12 }
  pub no_place : to_six_call (head_word 0 ∷ count_word 0 ∷ []) (9 ∷ []) ≡ record { answer = refused 10; target = 9 ∷ [] }
  -- a step, a run and a plan, by the driver: no step word is written, and no byte
  pub driven_nothing : drive_all [] nine p1_asks (6 ∷ []) (8 ∷ [])
      ≡ record { answer = record { number = 0; steps = 0 }; table = no_rows; out = 6 ∷ []; target = 8 ∷ [] }
  pub driven_constants : drive_all constants nine p1_asks (6 ∷ []) (8 ∷ [])
      ≡ record { answer = record { number = 0; steps = 0 }; table = one_row 12; out = 6 ∷ []; target = 8 ∷ [] }
