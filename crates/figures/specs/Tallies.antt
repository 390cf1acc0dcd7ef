-- The figures of a season's sheets (document 02, wish 1): how many have each outcome, the sum of the least costs, and the largest with the first
-- sheet that has it.
use Rattle.std.specs.Prelude.{ℕ, zero, suc, ◌+◌, max, Bool, cond, ◌&&◌, List, [], ◌∷◌, eqb}
use Rattle.figures.specs.declared.Figures.{Figures}
use Rattle.figures.specs.Counting.{column_count, planned_column, sum_of}

-- what a sheet came to: its column, and its least cost if it was planned
pub record SheetFigure : Type 0 where
  pub column : ℕ
  pub cost : ℕ

abbrev pub is_planned : SheetFigure → Bool
is_planned o = eqb o.column planned_column

-- how many sheets have a column
unfoldable pub count_in : ℕ → List SheetFigure → ℕ
count_in column [] = 0
count_in column (o ∷ os) = cond (eqb o.column column) 1 0 + count_in column os

-- the counts of k columns, from one on
unfoldable pub counts_from : ℕ → ℕ → List SheetFigure → List ℕ
counts_from column zero os = []
counts_from column (suc k) os = count_in column os ∷ counts_from (suc column) k os

-- the least costs of the sheets that were planned
unfoldable pub costs_of : List SheetFigure → List ℕ
costs_of [] = []
costs_of (o ∷ os) = cond (is_planned o) (o.cost ∷ costs_of os) (costs_of os)

-- the greatest of some numbers, 0 if there is none
unfoldable pub greatest : List ℕ → ℕ
greatest [] = 0
greatest (k ∷ ks) = max k (greatest ks)

-- the first sheet that was planned at a cost, the sheets counting from i; 0 if there is none
unfoldable pub first_at : ℕ → ℕ → List SheetFigure → ℕ
first_at cost i [] = 0
first_at cost i (o ∷ os) = cond (is_planned o && eqb o.cost cost) i (first_at cost (suc i) os)

-- sheets count from 1
abbrev pub figures_of : List SheetFigure → Figures
figures_of os =
    record {
      counts = counts_from 0 column_count os;
      sum = sum_of (costs_of os);
      largest = greatest (costs_of os);
      first = first_at (greatest (costs_of os)) 1 os;
    }
