-- The nearest whole metre between two points in centimetres, and the law that says what it is.
use Rattle.std.specs.Prelude.{ℕ, zero, suc, ◌+◌, ◌-◌, ◌*◌, ◌/◌, ◌≤◌, ◌<◌, min, max, ◌≡◌, cond, ◌⊎◌, leb}

-- the squared distance half a metre beyond m metres, at 100m + 50 centimetres: from there on m + 1 is as near as m, or nearer
unfoldable pub half_beyond : ℕ → ℕ
half_beyond m = 2500 * ((2 * m + 1) * (2 * m + 1))

-- the largest whole m up to b that is 0, or that q reaches: half a metre beyond m - 1 is at most q
unfoldable pub largest_up_to : ℕ → ℕ → ℕ
unfolding half_beyond
largest_up_to zero q = zero
largest_up_to (suc b) q = cond (leb (half_beyond b) q) (suc b) (largest_up_to b q)

-- the nearest whole metre of a squared distance q in square centimetres; no m above q / 2,500 comes into question
unfoldable pub metres : ℕ → ℕ
unfolding largest_up_to half_beyond
metres q = largest_up_to (q / 2500) q

-- Of a distance in centimetres, q being its square: m is 0, or the half metre before m is reached, 100m - 50 being at most the distance. The square
-- of 100m - 50 is 2,500(2m - 1)²
abbrev pub HalfReached : ℕ → ℕ → Type 0
HalfReached q m = (m ≡ 0) ⊎ (2500 * ((2 * m - 1) * (2 * m - 1)) ≤ q)

-- m is "the nearest whole metre, a half going up" (document 02, wish 2): 100m - 50 is at most the distance, and 100m + 50, whose square is
-- 2,500(2m + 1)², is above it
pub record Nearest (q m : ℕ) : Type 0 where
  pub not_before : HalfReached q m
  pub not_next : q < 2500 * ((2 * m + 1) * (2 * m + 1))

-- `metres q` is that m, and no other is: a reader need believe this alone, and not how the definition looks for it
pub record MetresAreNearest : Type 0 where
  pub holds : (q : ℕ) → Nearest q (metres q)
  pub unique : (q m : ℕ) → Nearest q m → m ≡ metres q

-- coordinates from -1,000,000 to 1,000,000 centimetres are counted from the lowest: the greatest of these offsets, and the most
-- metres that two such points lie apart
abbrev pub max_offset : ℕ
max_offset = 2000000

abbrev pub max_metres : ℕ
max_metres = 28284

-- the squared distance between two points, given by their eastings and northings
abbrev pub difference : ℕ → ℕ → ℕ
difference a b = max a b - min a b

abbrev pub squared_distance : ℕ → ℕ → ℕ → ℕ → ℕ
squared_distance e n e' n' = difference e e' * difference e e' + difference n n' * difference n n'

unfoldable pub metres_between : ℕ → ℕ → ℕ → ℕ → ℕ
unfolding metres
metres_between e n e' n' = metres (squared_distance e n e' n')
