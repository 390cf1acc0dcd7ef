-- Plan calls worked by hand around the weight of a forbidden entry (document 02, spots nobody may core), and refusals where two tests apply.
use Rattle.std.specs.Prelude.{ℕ, ◌+◌, ◌*◌, ◌≡◌, List, [], ◌∷◌}
use Rattle.wcsp.specs.Row.{◌weighted◌}
use Rattle.fields.specs.Order.{first_of}
use Rattle.rows.specs.Raw.{row_width, max_weight}
use Rattle.table.specs.Layout.{rows_at, table_words}
use Rattle.assignment.specs.Calls.{PlanReturned, plan_call}
use Rattle.assignment.specs.Order.{tests_of_plan}

-- this weight whatever the value, and 1 more for value 0 of two
abbrev pub empty_at : ℕ → List ℕ
empty_at w = table_words (rows_at 1 + 2 * row_width) (2 ∷ []) ((0 ∷ []) weighted w ∷ (2 ∷ []) weighted 1 ∷ [])

-- the same with a pair left
abbrev pub empty_started : ℕ → List ℕ
empty_started w = table_words (rows_at 1 + 3 * row_width) (2 ∷ []) ((0 ∷ []) weighted w ∷ (2 ∷ []) weighted 1 ∷ (1 ∷ []) weighted 1 ∷ [])

-- this weight for value 0, and nothing for value 1
abbrev pub value_at : ℕ → List ℕ
value_at w = table_words (rows_at 1 + row_width) (2 ∷ []) ((2 ∷ []) weighted w ∷ [])

-- what a call into two bytes gives: value 1 in front, or nothing written
abbrev pub planned_one : PlanReturned
planned_one = record { number = 0; target = 1 ∷ 9 ∷ [] }

abbrev pub not_planned_by : ℕ → PlanReturned
not_planned_by number = record { number = number; target = 8 ∷ 9 ∷ [] }

pub record Plans : Type 0 where
  -- one below a forbidden entry, at it, and a weight whose low word is 0
  pub below : plan_call (empty_at 268431360) (8 ∷ 9 ∷ []) ≡ planned_one
  pub at : plan_call (empty_at 268431361) (8 ∷ 9 ∷ []) ≡ not_planned_by 15
  pub high_word_alone : plan_call (empty_at 268435456) (8 ∷ 9 ∷ []) ≡ not_planned_by 15
  -- another row of any weight does not forbid
  pub other_row : plan_call (value_at max_weight) (8 ∷ 9 ∷ []) ≡ planned_one
  -- 13 and 10 before 15
  pub early : plan_call (empty_started max_weight) (8 ∷ 9 ∷ []) ≡ not_planned_by 13
  pub short : plan_call (empty_at max_weight) [] ≡ record { number = 10; target = [] }
  -- by the list of tests, too
  pub tested_at : first_of (tests_of_plan (empty_at 268431361) (8 ∷ 9 ∷ [])) ≡ 15
  pub tested_early : first_of (tests_of_plan (empty_started max_weight) (8 ∷ 9 ∷ [])) ≡ 13
