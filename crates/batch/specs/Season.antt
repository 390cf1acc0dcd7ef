-- A season (document 02, wish 1): its file's bytes as sheets, each behind its length in words, and the figures of what they come to.
use Rattle.std.specs.Prelude.{ℕ, zero, suc, ◌*◌, cond, List, [], ◌∷◌, map, length, take, drop, eqb, ltb}
use Rattle.fields.specs.Limits.{between}
use Rattle.littleendian.specs.Words.{word_at}
use Rattle.planning.specs.Values.{Ending, Solved}
use Rattle.planning.specs.Solving.{refused_solved, solved_of}
use Rattle.cutting.specs.Cutting.{longest_sheet}
use Rattle.figures.specs.declared.Figures.{Figures}
use Rattle.figures.specs.Counting.{column_count, planned_column, most_sheets}
use Rattle.figures.specs.Tallies.{SheetFigure, figures_of}
use Rattle.figures.specs.Line.{figures_line}

-- ---- the sheets

pub data Sheet : Type 0 where
  -- its length is cut off, or runs past the file
  cut_off : Sheet
  -- its length is above 16,000, and its words are passed over
  passed_over : Sheet
  -- its bytes
  whole : List ℕ → Sheet

-- behind a length of so many words: it runs past the file, which ends the season; else the sheet, and what follows its words
unfoldable pub sheets_behind : ℕ → List ℕ → (List ℕ → List Sheet) → List Sheet
sheets_behind words rest following =
    cond (ltb (length rest) (4 * words)) (cut_off ∷ [])
    (cond (ltb longest_sheet words) passed_over (whole (take (4 * words) rest)) ∷ following (drop (4 * words) rest))

-- the sheets of a file, at most so many; a length is one plain little-endian word
unfoldable pub sheets_in : ℕ → List ℕ → List Sheet
sheets_in zero file = []
sheets_in (suc k) file =
    cond (eqb (length file) 0) []
    (cond (ltb (length file) 4) (cut_off ∷ []) (sheets_behind (word_at file 0) (drop 4 file) (sheets_in k)))

-- ---- what they come to

-- what is cut off counts as 1, what is too long as 10, and all others are planned as document 01's program does
unfoldable pub solved_sheet : Sheet → Solved
solved_sheet cut_off = refused_solved 1
solved_sheet passed_over = refused_solved 10
solved_sheet (whole bytes) = solved_of bytes

-- the columns: planned, refused under 1 to 5, 10, 12, 15 (no sheet meets another number), paused, full
unfoldable pub refusal_column : ℕ → ℕ
refusal_column k = cond (between 1 k 5) k (cond (eqb k 10) 6 (cond (eqb k 12) 7 (cond (eqb k 15) 8 column_count)))

unfoldable pub column_of : Ending → ℕ
column_of Ending.Planned = planned_column
column_of (Ending.Refused k) = refusal_column k
column_of Ending.Paused = 9
column_of Ending.Full = 10

-- the cost of a planned sheet is its bound
abbrev pub figure_of : Solved → SheetFigure
figure_of s = record { column = column_of s.ending; cost = s.bound }

abbrev pub figure_of_sheet : Sheet → SheetFigure
figure_of_sheet sheet = figure_of (solved_sheet sheet)

-- ---- the figures

-- reading ends after the 10,000th sheet
abbrev pub season_sheets : List ℕ → List Sheet
season_sheets file = sheets_in most_sheets file

abbrev pub season_figures : List ℕ → Figures
season_figures file = figures_of (map figure_of_sheet (season_sheets file))

abbrev pub season_line : List ℕ → List ℕ
season_line file = figures_line (season_figures file)
