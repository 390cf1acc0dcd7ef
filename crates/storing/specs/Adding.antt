-- Inner: one clause added to the raw rows of a table (document 01, Steps): its weight goes to the row with its signs, else to a new last row.
use Rattle.std.specs.Prelude.{ℕ, ◌+◌, ◌*◌, ◌<◌, ◌≤◌, cond, List, [], ◌∷◌, ◌++◌, length, get_or, eqb, Option, Some, None}
use Rattle.clause.specs.declared.Clause.{Clause}
use Rattle.clause.specs.Packed.{FitsBlocks}
use Rattle.rows.specs.Raw.{row_width, max_weight, Raw, no_raw, raws_in, Laid, weight_in, raw_row, find_from, reweighed}

-- the raw rows with a clause of this weight: added to the row that was found, else a new last row
unfoldable pub added_at : Option ℕ → List Raw → Clause → ℕ → List Raw
added_at (Some k) rs x weight = reweighed rs k (weight_in (get_or rs k no_raw) + weight)
added_at None rs x weight = rs ++ (raw_row x weight ∷ [])

-- weight 0 adds nothing
unfoldable pub added : List Raw → Clause → ℕ → List Raw
unfolding added_at
added rs x weight = cond (eqb weight 0) rs (added_at (find_from (raw_row x 0) 0 rs) rs x weight)

-- the clause can be added: the table is laid with its rows and has room, and no weight passes the limit
pub record Addable (t : List ℕ) (base count : ℕ) (x : Clause) (weight : ℕ) : Type 0 where
  pub laid : Laid t base (raws_in t base count)
  pub room : base + row_width * length (added (raws_in t base count) x weight) ≤ length t
  pub packed : FitsBlocks x
  pub light : (k : ℕ) → k < count → weight_in (get_or (raws_in t base count) k no_raw) + weight ≤ max_weight
  pub small : weight ≤ max_weight
