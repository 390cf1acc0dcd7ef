-- What the figures say of the sheets, and that counting the sheets one by one gives them.
use Rattle.std.specs.Prelude.{ℕ, suc, ◌*◌, ◌≤◌, ◌<◌, ◌≡◌, true, List, [], ◌∷◌, ◌++◌, length}
use Rattle.fields.specs.Limits.{greatest_allowed}
use Rattle.fields.specs.Entries.{Each}
use Rattle.figures.specs.declared.Figures.{Figures}
use Rattle.figures.specs.Counting.{column_count, no_figures, sheets_of, counted}
use Rattle.figures.specs.Tallies.{SheetFigure, is_planned, costs_of, figures_of}

-- a sheet has one of the columns
abbrev pub InColumn : SheetFigure → Type 0
InColumn o = o.column < column_count

-- the sheets counted one by one
unfoldable pub counted_all : Figures → List SheetFigure → Figures
counted_all f [] = f
counted_all f (o ∷ os) = counted_all (counted f o.column o.cost) os

abbrev pub CountedOneByOne : Type 0
CountedOneByOne = (os : List SheetFigure) → Each InColumn os → counted_all no_figures os ≡ figures_of os

-- every sheet is counted under one outcome
abbrev pub CountsAddUp : Type 0
CountsAddUp = (os : List SheetFigure) → Each InColumn os → sheets_of (figures_of os) ≡ length os

-- a largest least cost and its sheet, which counts from 1
pub data LargestOf (os : List SheetFigure) : ℕ → ℕ → Type 0 where
  -- none was planned
  none_planned : costs_of os ≡ [] → LargestOf os 0 0
  -- the sheet behind some others was planned at this cost, every planned one before it below and none behind it above
  has_sheet : (before after : List SheetFigure) (o : SheetFigure) → os ≡ before ++ (o ∷ after) → is_planned o ≡ true
      → Each (λ k. k < o.cost) (costs_of before) → Each (λ k. k ≤ o.cost) (costs_of after) → LargestOf os o.cost (suc (length before))

abbrev pub LargestIsFirst : Type 0
LargestIsFirst = (os : List SheetFigure) → LargestOf os (figures_of os).largest (figures_of os).first

-- no sum passes what so many plans can cost
abbrev pub SumIsBounded : Type 0
SumIsBounded = (os : List SheetFigure) → Each (λ k. k ≤ greatest_allowed) (costs_of os) → (figures_of os).sum ≤ length os * greatest_allowed
