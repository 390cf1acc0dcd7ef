-- The lowest unsettled variable (document 02: the lowest unsettled station), from which on a hunt finds the next pair. Each statement has its
-- proof in proofs/Unsettled, under its name with a small first letter.
use Rattle.std.specs.Prelude.{ℕ, ◌-◌, ◌<◌, ◌≤◌, ◌≡◌, ◌↔◌, cond, List, [], ◌∷◌, length, ltb}
use Rattle.std.proofs.Math.Option.{Option, none, some}
use Rattle.wcsp.specs.Clause.{bucket}
use Rattle.wcsp.specs.Row.{Row, ValidRows}
use Rattle.wcsp.specs.Resolve.{Pair, no_row, pair_in, pair_from, next_pair, resolve}

-- the variables below s are settled: no two rows of their buckets may be resolved on them
abbrev pub Settled : List ℕ → ℕ → List Row → Type 0
Settled ds s rs = (v : ℕ) → v < s → pair_in ds v 0 rs ≡ none

-- the pair's variable, or n
unfoldable pub variable_or : ℕ → Option Pair → ℕ
variable_or n none = n
variable_or n (some pr) = pr.variable

-- the variable of the next pair; the number of variables where no pair is left
unfoldable pub lowest_unsettled : List ℕ → List Row → ℕ
unfolding variable_or
lowest_unsettled ds rs = variable_or (length ds) (next_pair ds rs)

-- it is what its name says: up to it, and no further, all variables are settled
abbrev pub LowestIs : Type 0
LowestIs = (ds : List ℕ) (rs : List Row) (s : ℕ) → (s ≤ lowest_unsettled ds rs) ↔ ((s ≤ length ds) × Settled ds s rs)

-- each step is on it
abbrev pub OnIt : Type 0
OnIt = (ds : List ℕ) (rs : List Row) (pr : Pair) → next_pair ds rs ≡ some pr → pr.variable ≡ lowest_unsettled ds rs

-- no step lowers it. Proof idea: the step leaves the rows of lower buckets as they are, for both its rows are of its own bucket, and a
-- conclusion's lowest variable is no lower.
abbrev pub NeverFalls : Type 0
NeverFalls = (ds : List ℕ) (rs : List Row) (pr : Pair) → ValidRows ds rs → next_pair ds rs ≡ some pr
    → lowest_unsettled ds rs ≤ lowest_unsettled ds (resolve ds pr rs)

-- the rows of the buckets from s on, each in its place; the place of every other row is empty
unfoldable pub buckets_from : ℕ → List Row → List Row
buckets_from s [] = []
buckets_from s (r ∷ rs) = cond (ltb (bucket r.signs) s) no_row r ∷ buckets_from s rs

-- a hunt over the rows of the variables from s on, where s is no higher than the lowest unsettled one, finds exactly the next pair, or none
-- where none is left
abbrev pub HuntOver : Type 0
HuntOver = (ds : List ℕ) (rs : List Row) (s : ℕ) → s ≤ lowest_unsettled ds rs
    → pair_from ds (length ds - s) s (buckets_from s rs) ≡ next_pair ds rs

-- so does one among all rows, whatever rows of lower buckets there are
abbrev pub HuntFrom : Type 0
HuntFrom = (ds : List ℕ) (rs rs' : List Row) (s : ℕ) → s ≤ lowest_unsettled ds rs → buckets_from s rs' ≡ buckets_from s rs
    → pair_from ds (length ds - s) s rs' ≡ next_pair ds rs
