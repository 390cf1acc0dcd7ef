-- Sheets with no variables in a season, from what their value is.
use native.Mathlib.Omega.{arith}
use mathlib.Core.Path.{◌≡◌, refl, ap, ◌∙◌}
use mathlib.Core.List.{List, [], ◌∷◌, map}
use Rattle.wcsp.specs.Bound.{total}
use Rattle.fields.specs.Entries.{entries_from}
use Rattle.input.specs.Instance.{entries_of}
use Rattle.littleendian.specs.Words.{words_in}
use Rattle.text.specs.Text.{digits_in, line}
use Rattle.planning.proofs.Empty.{empty_solves, empty_bytes}
use Rattle.figures.specs.Counting.{planned_column, sum_of}
use Rattle.figures.specs.Tallies.{SheetFigure, count_in, counts_from, costs_of, greatest, first_at, figures_of}
use Rattle.figures.specs.Line.{figures_line}
use Rattle.batch.specs.Season.{Sheet, whole, sheets_behind, sheets_in, solved_sheet, column_of, figure_of_sheet, season_sheets}
use Rattle.batch.specs.Empty.{EmptyCounts, NothingCounts}

pub empty_counts : EmptyCounts
unfolding solved_sheet column_of
empty_counts bytes e l = let (ends, steps, bound) = (empty_solves bytes e).planned l in rw (ends, bound)

-- one sheet, of no bytes
one_sheet : season_sheets (0 ∷ 0 ∷ 0 ∷ 0 ∷ []) ≡ whole [] ∷ []
unfolding sheets_in sheets_behind
one_sheet = refl

counted : figure_of_sheet (whole []) ≡ record { column = planned_column; cost = 0 }
unfolding words_in entries_of entries_from total
counted = empty_counts [] empty_bytes.nothing (omega arith)

pub nothing_counts : NothingCounts
unfolding digits_in line count_in counts_from costs_of sum_of greatest first_at
nothing_counts =
    ap (λ (sheets : List Sheet). figures_line (figures_of (map figure_of_sheet sheets))) one_sheet
    ∙ ap (λ (f : SheetFigure). figures_line (figures_of (f ∷ []))) counted
