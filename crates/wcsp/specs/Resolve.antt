-- The next pair and the step on it (document 000, Figure 19.2): one variable eliminated after another, lowest first.
use Rattle.std.specs.Prelude.{ℕ, zero, suc, ◌-◌, ◌<◌, min, ◌≡◌, Bool, true, ◌&&◌, cond, List, [], ◌∷◌, length, get_or, eqb}
use Rattle.std.proofs.Math.Option.{Option, none, some}
use Rattle.wcsp.specs.Clause.{bucket}
use Rattle.wcsp.specs.Row.{Row, add_all}
use Rattle.wcsp.specs.Rule.{conclusions, permitted}

-- a variable and two rows to resolve on it; rows count from 0
pub record Pair : Type 0 where
  pub variable : ℕ
  pub first : ℕ
  pub second : ℕ

unfoldable pub or_else {ℓ} : {A : Type ℓ} → Option A → Option A → Option A
or_else (some a) o = some a
or_else none o = o

-- two rows of bucket s that may be resolved on it
unfoldable pub candidate : List ℕ → ℕ → List ℕ → List ℕ → Bool
candidate ds s x y = eqb (bucket x) s && eqb (bucket y) s && permitted ds s x y

-- the first of the rows, counted from j, that goes with x
unfoldable pub partner : List ℕ → ℕ → List ℕ → ℕ → List Row → Option ℕ
unfolding or_else candidate
partner ds s x j [] = none
partner ds s x j (r ∷ rs) = cond (candidate ds s x r.signs) (some j) (partner ds s x (suc j) rs)

pair_with : ℕ → ℕ → Option ℕ → Option Pair
pair_with s i none = none
pair_with s i (some j) = some (record { variable = s; first = i; second = j })

-- the lowest first row of bucket s, of the rows counted from i, and its lowest second row
unfoldable pub pair_in : List ℕ → ℕ → ℕ → List Row → Option Pair
unfolding or_else partner pair_with
pair_in ds s i [] = none
pair_in ds s i (r ∷ rs) = or_else (pair_with s i (partner ds s r.signs (suc i) rs)) (pair_in ds s (suc i) rs)

-- the lowest of the k variables from s on that has such a pair
unfoldable pub pair_from : List ℕ → ℕ → ℕ → List Row → Option Pair
unfolding or_else pair_in
pair_from ds zero s rs = none
pair_from ds (suc k) s rs = or_else (pair_in ds s 0 rs) (pair_from ds k (suc s) rs)

-- the next pair; none: no pair is left
unfoldable pub next_pair : List ℕ → List Row → Option Pair
unfolding pair_from
next_pair ds rs = pair_from ds (length ds) 0 rs

-- what stands past the last row
abbrev pub no_row : Row
no_row = record { signs = []; weight = 0 }

-- weight u taken from row i; a row at 0 is removed, the rest closing up
unfoldable pub lessen : ℕ → ℕ → List Row → List Row
lessen u i [] = []
lessen u zero (r ∷ rs) = cond (eqb (r.weight - u) 0) rs (record { signs = r.signs; weight = r.weight - u } ∷ rs)
lessen u (suc i) (r ∷ rs) = r ∷ lessen u i rs

-- the moved weight: the lesser of the two rows'
unfoldable pub moved_weight : Pair → List Row → ℕ
moved_weight pr rs = min (get_or rs pr.first no_row).weight (get_or rs pr.second no_row).weight

-- the conclusions of the pair's rows
unfoldable pub conclusions_of : List ℕ → Pair → List Row → List (List ℕ)
conclusions_of ds pr rs =
    conclusions ds pr.variable (get_or rs pr.first no_row).signs (get_or rs pr.second no_row).signs

-- one step: the moved weight is taken from both rows and given to every conclusion
unfoldable pub resolve : List ℕ → Pair → List Row → List Row
unfolding lessen moved_weight conclusions_of add_all
resolve ds pr rs =
    let u = moved_weight pr rs in add_all ds u (lessen u pr.first (lessen u pr.second rs)) (conclusions_of ds pr rs)

-- a pair that the checker takes: rows in order, below the row count, permitted on its variable
pub record MayResolve (ds : List ℕ) (rs : List Row) (pr : Pair) : Type 0 where
  pub ordered : pr.first < pr.second
  pub in_table : pr.second < length rs
  pub known : pr.variable < length ds
  pub may : permitted ds pr.variable (get_or rs pr.first no_row).signs (get_or rs pr.second no_row).signs ≡ true

-- rs becomes rs' by k steps, each on the next pair
pub data Steps (ds : List ℕ) : List Row → ℕ → List Row → Type 0 where
  stop : {rs : List Row} → Steps ds rs 0 rs
  step : {rs rs' : List Row} {k : ℕ} (pr : Pair) → next_pair ds rs ≡ some pr → Steps ds (resolve ds pr rs) k rs' → Steps ds rs (suc k) rs'

-- rs becomes rs' by the listed pairs, each a permitted one
pub data Replays (ds : List ℕ) : List Row → List Pair → List Row → Type 0 where
  stop : {rs : List Row} → Replays ds rs [] rs
  step : {rs rs' : List Row} {prs : List Pair} (pr : Pair) → MayResolve ds rs pr → Replays ds (resolve ds pr rs) prs rs'
      → Replays ds rs (pr ∷ prs) rs'
