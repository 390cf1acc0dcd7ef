-- Completions worked by hand: of P3 of document 01 once no pair is left, for every k and tails of it; costs at the greatest weight of a row; and
-- refusals where two tests apply.
use Rattle.std.specs.Prelude.{ℕ, ◌+◌, ◌*◌, ◌≡◌, List, [], ◌∷◌}
use Rattle.wcsp.specs.Row.{◌weighted◌}
use Rattle.fields.specs.Answers.{good}
use Rattle.fields.specs.Order.{first_of}
use Rattle.rows.specs.Raw.{row_width, max_weight}
use Rattle.table.specs.Layout.{rows_at, table_words}
use Rattle.assignment.specs.Calls.{plan_call}
use Rattle.completion.specs.Calls.{CompleteReturned, not_completed, complete_call}
use Rattle.completion.specs.Order.{tests_of_complete}

-- values 0, 0 cost 2 and values 1, 0 cost 1; and the table before its one step
abbrev pub p3_done : List ℕ
p3_done = table_words (rows_at 2 + 2 * row_width) (2 ∷ 2 ∷ []) ((2 ∷ 2 ∷ []) weighted 1 ∷ (0 ∷ 2 ∷ []) weighted 1 ∷ [])

abbrev pub p3_started : List ℕ
p3_started = table_words (rows_at 2 + 2 * row_width) (2 ∷ 2 ∷ []) ((2 ∷ 2 ∷ []) weighted 2 ∷ (1 ∷ 2 ∷ []) weighted 1 ∷ [])

-- the greatest weight whatever the value, and 1 more for value 0
abbrev pub heaviest : List ℕ
heaviest = table_words (rows_at 1 + 2 * row_width) (2 ∷ []) ((0 ∷ []) weighted max_weight ∷ (2 ∷ []) weighted 1 ∷ [])

-- the same with a pair left
abbrev pub heaviest_started : List ℕ
heaviest_started =
    table_words (rows_at 1 + 3 * row_width) (2 ∷ []) ((0 ∷ []) weighted max_weight ∷ (2 ∷ []) weighted 1 ∷ (1 ∷ []) weighted 1 ∷ [])

-- a good call into a target of two bytes and one more, which is kept
abbrev pub completed_at : ℕ → ℕ → ℕ → CompleteReturned
completed_at m v w = record { answer = good m; target = v ∷ w ∷ 9 ∷ [] }

abbrev pub lent_bytes : List ℕ
lent_bytes = 7 ∷ 8 ∷ 9 ∷ []

pub record Completions : Type 0 where
  -- nothing fixed: the plan and the empty row's weight, which is 0
  pub free : complete_call p3_done 2 [] lent_bytes ≡ completed_at 0 0 1
  -- the last value fixed: row 0, 2 counts for value 0
  pub last_at0 : complete_call p3_done 1 (0 ∷ []) lent_bytes ≡ completed_at 1 1 0
  pub last_at1 : complete_call p3_done 1 (1 ∷ []) lent_bytes ≡ completed_at 0 0 1
  -- all values fixed: their own cost
  pub all_at0 : complete_call p3_done 0 (0 ∷ 0 ∷ []) lent_bytes ≡ completed_at 2 0 0
  pub all_at1 : complete_call p3_done 0 (1 ∷ 1 ∷ []) lent_bytes ≡ completed_at 0 1 1
  -- the greatest weight is a good cost, and one more is 11
  pub at_greatest : complete_call heaviest 0 (1 ∷ []) (7 ∷ []) ≡ record { answer = good max_weight; target = 1 ∷ [] }
  pub above_greatest : complete_call heaviest 0 (0 ∷ []) (7 ∷ []) ≡ not_completed 11 (7 ∷ [])
  -- nothing fixed where the plan call gives 15: the plan and the empty row's weight all the same
  pub not_planned : plan_call heaviest (7 ∷ []) ≡ record { number = 15; target = 7 ∷ [] }
  pub completed_yet : complete_call heaviest 1 [] (7 ∷ []) ≡ record { answer = good max_weight; target = 1 ∷ [] }
  -- 10 before 14: a short target and values that do not fit
  pub short_first : complete_call p3_done 3 [] (7 ∷ []) ≡ not_completed 10 (7 ∷ [])
  -- 14 before 13: each of its conditions, a pair being left
  pub above_n : complete_call p3_started 3 [] lent_bytes ≡ not_completed 14 lent_bytes
  pub one_too_few : complete_call p3_started 1 [] lent_bytes ≡ not_completed 14 lent_bytes
  pub out_of_range : complete_call p3_started 1 (2 ∷ []) lent_bytes ≡ not_completed 14 lent_bytes
  -- 13, also before 11
  pub pair_left : complete_call p3_started 1 (1 ∷ []) lent_bytes ≡ not_completed 13 lent_bytes
  pub pair_left_first : complete_call heaviest_started 0 (0 ∷ []) (7 ∷ []) ≡ not_completed 13 (7 ∷ [])
  -- by the list of tests, too
  pub tested_short : first_of (tests_of_complete p3_done 3 [] (7 ∷ [])) ≡ 10
  pub tested_unfit : first_of (tests_of_complete p3_started 3 [] lent_bytes) ≡ 14
  pub tested_early : first_of (tests_of_complete heaviest_started 0 (0 ∷ []) (7 ∷ [])) ≡ 13
