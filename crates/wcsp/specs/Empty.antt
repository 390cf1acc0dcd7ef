-- Fields with no variables (document 02: a field with no stations): one assignment, the empty one, and entries that are constant costs.
use Rattle.std.specs.Prelude.{ℕ, ◌≡◌, ◌↔◌, cond, List, [], ◌∷◌, eqb}
use Rattle.std.proofs.Math.Option.{none}
use Rattle.wcsp.specs.Clause.{InRange}
use Rattle.wcsp.specs.Row.{Row, ◌weighted◌}
use Rattle.wcsp.specs.Entry.{Entry, cost, WellFormed, encoded, LeastCost}
use Rattle.wcsp.specs.Resolve.{next_pair}
use Rattle.wcsp.specs.Bound.{total}

-- the sum of the entries' costs
abbrev pub all_costs : List Entry → ℕ
all_costs es = total (λ (e : Entry). e.cost) es

-- the empty assignment is in range, and no other
abbrev pub OneAssignment : Type 0
OneAssignment = (p : List ℕ) → InRange [] p ↔ (p ≡ [])

-- it has every cost, so the least cost is the sum
abbrev pub ConstantsAdd : Type 0
ConstantsAdd = (es : List Entry) → WellFormed [] es → cost es [] ≡ all_costs es

abbrev pub LeastIsSum : Type 0
LeastIsSum = (es : List Entry) → WellFormed [] es → LeastCost [] es (all_costs es)

-- the encoding has one row, the empty one, which weighs the sum, and none where that is 0
abbrev pub EncodesToOne : Type 0
EncodesToOne = (es : List Entry) → WellFormed [] es → encoded [] es ≡ cond (eqb (all_costs es) 0) [] ([] weighted all_costs es ∷ [])

-- and there is never a pair
abbrev pub NothingToResolve : Type 0
NothingToResolve = (rs : List Row) → next_pair [] rs ≡ none
