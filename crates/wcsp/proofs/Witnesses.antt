-- Small cases worked by hand that each pin one part of a definition: without it a count, a weight, a row or a pair is another one.
-- They are computed from the definitions alone, so another spelling of the same definition leaves them as they are.
use Prim.Native.Nat.{ℕ}
use mathlib.Core.Path.{◌≡◌, refl}
use mathlib.Core.Bool.{false}
use mathlib.Core.List.{[], ◌∷◌}
use mathlib.Core.Option.{some}
use Rattle.wcsp.specs.Sign.{has, full, complement, within, present, lowest}
use Rattle.wcsp.specs.Clause.{falsifies, same, bucket}
use Rattle.wcsp.specs.Row.{◌weighted◌, falsified, merge}
use Rattle.wcsp.specs.Rule.{conclusions, permitted}
use Rattle.wcsp.specs.Resolve.{Pair, no_row, next_pair, lessen, moved_weight}
use Rattle.wcsp.specs.Unsettled.{lowest_unsettled, buckets_from}
use Rattle.wcsp.specs.Rebuild.{rebuilt, tail_weight}
use Rattle.wcsp.specs.Theorems.{falsified_count}

pair : ℕ → ℕ → ℕ → Pair
pair s i j = record { variable = s; first = i; second = j }

-- ---- the rule

-- the complement is taken in the variable's own values
complemented : complement 2 1 ≡ 2
unfolding complement
complemented = refl

-- group 3: the first premise alone is falsified, and only the clause with its partner's other literal complemented takes it up
group_3 : falsified_count (0 ∷ 1 ∷ []) (conclusions (2 ∷ 2 ∷ []) 0 (2 ∷ 0 ∷ []) (1 ∷ 2 ∷ [])) ≡ 1
unfolding has full complement present falsifies falsified_count conclusions
group_3 = refl

-- group 4: the same with the premises exchanged
group_4 : falsified_count (0 ∷ 1 ∷ []) (conclusions (2 ∷ 2 ∷ []) 0 (1 ∷ 2 ∷ []) (2 ∷ 0 ∷ [])) ≡ 1
unfolding has full complement present falsifies falsified_count conclusions
group_4 = refl

-- the union: both premises are falsified, so two conclusions are
union : falsified_count (2 ∷ []) (conclusions (3 ∷ []) 0 (1 ∷ []) (2 ∷ [])) ≡ 2
unfolding has full complement present falsifies falsified_count conclusions
union = refl

-- a sign that contains the other
nested_signs : permitted (3 ∷ []) 0 (3 ∷ []) (2 ∷ []) ≡ false
unfolding full within present permitted
nested_signs = refl

-- ---- the step

-- merging adds the weights
merged : falsified (0 ∷ []) (merge 3 ((2 ∷ []) weighted 4 ∷ []) (2 ∷ [])) ≡ 7
unfolding has falsifies falsified same merge
merged = refl

-- the lesser weight is moved
lesser : moved_weight (pair 0 0 1) ((1 ∷ []) weighted 4 ∷ (2 ∷ []) weighted 3 ∷ []) ≡ 3
unfolding pair moved_weight
lesser = refl

-- a row whose whole weight is taken is no row any more
used_up : lessen 4 0 ((2 ∷ []) weighted 4 ∷ []) ≡ []
unfolding lessen
used_up = refl

-- of two second rows the lower
second_row : next_pair (3 ∷ []) ((1 ∷ []) weighted 1 ∷ (2 ∷ []) weighted 1 ∷ (4 ∷ []) weighted 1 ∷ []) ≡ some (pair 0 0 1)
unfolding pair full within present bucket permitted next_pair
second_row = refl

-- of two variables the lower
variable : next_pair (3 ∷ 3 ∷ []) ((0 ∷ 1 ∷ []) weighted 1 ∷ (0 ∷ 2 ∷ []) weighted 1 ∷ (1 ∷ 0 ∷ []) weighted 1 ∷ (2 ∷ 0 ∷ []) weighted 1 ∷ []) ≡ some (pair 0 2 3)
unfolding pair full within present bucket permitted next_pair
variable = refl

-- ---- the lowest unsettled variable

-- two rows with variable 0 whose signs nest are settled, the two of variable 1 are not
unsettled : lowest_unsettled (3 ∷ 3 ∷ []) ((0 ∷ 1 ∷ []) weighted 1 ∷ (1 ∷ 0 ∷ []) weighted 1 ∷ (3 ∷ 0 ∷ []) weighted 1 ∷ (0 ∷ 2 ∷ []) weighted 1 ∷ []) ≡ 1
unfolding full within present bucket permitted next_pair lowest_unsettled
unsettled = refl

-- with no pair left it is the number of variables
all_settled : lowest_unsettled (3 ∷ 3 ∷ []) ((1 ∷ 0 ∷ []) weighted 1 ∷ (0 ∷ 2 ∷ []) weighted 1 ∷ []) ≡ 2
unfolding full within present bucket permitted next_pair lowest_unsettled
all_settled = refl

-- the rows of variable 1 stay, and so does the empty row; that of variable 0 leaves an empty place
from_one : buckets_from 1 ((0 ∷ 1 ∷ []) weighted 4 ∷ (1 ∷ 2 ∷ []) weighted 2 ∷ (0 ∷ 0 ∷ []) weighted 1 ∷ [])
    ≡ (0 ∷ 1 ∷ []) weighted 4 ∷ no_row ∷ (0 ∷ 0 ∷ []) weighted 1 ∷ []
unfolding bucket buckets_from
from_one = refl

-- ---- the rebuilt assignment

-- a row that a higher value satisfies narrows nothing
satisfied : rebuilt (2 ∷ 2 ∷ []) ((2 ∷ 1 ∷ []) weighted 1 ∷ []) ≡ 0 ∷ 0 ∷ []
unfolding has full lowest falsifies bucket rebuilt
satisfied = refl

-- of four rows the one with a variable below 1 does not count, nor the one that the value satisfies; the empty row does
tail : tail_weight 1 (0 ∷ []) ((2 ∷ 0 ∷ []) weighted 8 ∷ (0 ∷ 2 ∷ []) weighted 2 ∷ (0 ∷ 1 ∷ []) weighted 4 ∷ (0 ∷ 0 ∷ []) weighted 1 ∷ []) ≡ 3
unfolding has falsifies bucket tail_weight
tail = refl
