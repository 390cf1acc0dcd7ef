-- Inner: what the look and the writes of a step do, one clause after another, on raw rows.
use Rattle.std.specs.Prelude.{ℕ, zero, suc, ◌+◌, ◌-◌, ◌<◌, ◌≤◌, ◌≡◌, Bool, false, ◌||◌, cond, List, [], ◌∷◌, ◌++◌, get_or, eqb, ltb, Option, Some, None}
use Rattle.wcsp.specs.Clause.{kept}
use Rattle.wcsp.specs.Resolve.{Pair, moved_weight, conclusions_of, resolve}
use Rattle.conclusions.specs.Buffer.{clauses_in, PackedBuffer}
use Rattle.rows.specs.Raw.{max_weight, Raw, no_raw, raws_in, weight_in, raw_row, find_from, reweighed, without}
use Rattle.table.specs.Clauses.{clause_from}
use Rattle.table.specs.Layout.{rows_at}
use Rattle.table.specs.Meaning.{variables_of, row_count, table_rows, domains, capacity_of}
use Rattle.stepping.specs.Step.{allowed, refusal_of}

-- the weight of raw row k, 0 past the last
abbrev pub weight_at : List Raw → ℕ → ℕ
weight_at qs k = weight_in (get_or qs k no_raw)

-- ---- the look

-- where a search through n rows ended: behind the last if nothing was found
unfoldable pub place_of : ℕ → Option ℕ → ℕ
place_of n (Some k) = k
place_of n None = n

-- where the row of a clause stands
abbrev pub place_in : ℕ → List Raw → List ℕ → ℕ
place_in n qs c = place_of n (find_from (raw_row (clause_from c) 0) 0 qs)

-- how many of the first m clauses have no row
unfoldable pub fresh_to : ℕ → List Raw → List (List ℕ) → ℕ → ℕ
unfolding place_of
fresh_to n qs cs zero = zero
fresh_to n qs cs (suc m) = fresh_to n qs cs m + cond (eqb (place_in n qs (get_or cs m [])) n) 1 0

-- whether the row of one of the first m clauses would pass the limit with u more
unfoldable pub heavy_to : ℕ → ℕ → List Raw → List (List ℕ) → ℕ → Bool
unfolding place_of
heavy_to u n qs cs zero = false
heavy_to u n qs cs (suc m) = heavy_to u n qs cs m || ltb max_weight (weight_at qs (place_in n qs (get_or cs m [])) + u)

-- every clause's place is noted
abbrev pub Placed : ℕ → List Raw → List (List ℕ) → ℕ → List ℕ → Type 0
Placed n qs cs k places = (m : ℕ) → m < k → get_or places m 0 ≡ place_in n qs (get_or cs m [])

-- ---- the writes

-- the rows at the first m places raised by u
unfoldable pub raised_to : ℕ → List ℕ → List Raw → ℕ → List Raw
unfolding reweighed
raised_to u places qs zero = qs
raised_to u places qs (suc m) =
    reweighed (raised_to u places qs m) (get_or places m 0) (weight_at (raised_to u places qs m) (get_or places m 0) + u)

-- u taken from raw row k, which goes if nothing is left of it
unfoldable pub taken_from : ℕ → ℕ → List Raw → List Raw
unfolding reweighed without
taken_from u k qs = cond (eqb (weight_at qs k) u) (without qs k) (reweighed qs k (weight_at qs k - u))

-- a new row for each of the first m clauses that had none among n rows
unfoldable pub appended_to : ℕ → ℕ → List ℕ → List (List ℕ) → List Raw → ℕ → List Raw
appended_to u n places cs qs zero = qs
appended_to u n places cs qs (suc m) =
    appended_to u n places cs qs m ++ cond (eqb (get_or places m 0) n) (raw_row (clause_from (get_or cs m [])) u ∷ []) []

-- ---- the plan of a step

-- what the look at a table leaves: the conclusions that count, where their rows stand, the moved weight; and the step may be made
pub record Surveyed (t : List ℕ) (pr : Pair) (buffer places : List ℕ) (kept' moved : ℕ) : Type 0 where
  pub few : kept' ≤ 26
  pub packed : PackedBuffer buffer
  pub clauses : clauses_in kept' buffer ≡ kept (domains t) (conclusions_of (domains t) pr (table_rows t))
  pub weight : moved ≡ moved_weight pr (table_rows t)
  pub placed : Placed (row_count t) (raws_in t (rows_at (variables_of t)) (row_count t)) (clauses_in kept' buffer) kept' places
  pub result : 0 ≡ refusal_of (allowed (capacity_of t) pr (resolve (domains t) pr (table_rows t)))
