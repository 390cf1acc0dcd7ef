-- Sheets counted one by one (document 02, wish 1): each under a column, the least costs of those planned added up, and the largest of these kept with
-- its sheet.
use Rattle.std.specs.Prelude.{ℕ, ◌+◌, ◌*◌, Bool, cond, ◌&&◌, ◌||◌, List, [], ◌∷◌, get_or, set, replicate, eqb, ltb, leb}
use Rattle.fields.specs.Limits.{greatest_allowed}
use Rattle.figures.specs.declared.Figures.{Figures}

-- the columns: planned, refused under 1 to 5, 10, 12 and 15, paused, full
abbrev pub column_count : ℕ
column_count = 11

-- the column of the sheets that are planned
abbrev pub planned_column : ℕ
planned_column = 0

-- reading ends after this sheet
abbrev pub most_sheets : ℕ
most_sheets = 10000

abbrev pub no_figures : Figures
no_figures = record { counts = replicate column_count 0; sum = 0; largest = 0; first = 0 }

unfoldable pub sum_of : List ℕ → ℕ
sum_of [] = 0
sum_of (k ∷ ks) = k + sum_of ks

-- every sheet has one column, so the counts add up to the sheets so far
abbrev pub sheets_of : Figures → ℕ
sheets_of f = sum_of f.counts

-- a planned sheet leads if it is the first planned one, or its cost is above the largest so far
unfoldable pub leads : Figures → ℕ → ℕ → Bool
leads f column cost = eqb column planned_column && (eqb f.first 0 || ltb f.largest cost)

-- a sheet more, under this column and, if planned, at this cost
unfoldable pub counted : Figures → ℕ → ℕ → Figures
counted f column cost =
    record {
      counts = set f.counts column (get_or f.counts column 0 + 1);
      sum = cond (eqb column planned_column) (f.sum + cost) f.sum;
      largest = cond (leads f column cost) cost f.largest;
      first = cond (leads f column cost) (sheets_of f + 1) f.first;
    }

-- figures of fewer than 10,000 sheets, whose costs add up to no more than such sheets can have
unfoldable pub takes_sheet : Figures → Bool
takes_sheet f = ltb (sheets_of f) most_sheets && leb f.sum (sheets_of f * greatest_allowed)
