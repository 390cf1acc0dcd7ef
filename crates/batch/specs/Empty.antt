-- Document 02, a field with no stations, in a season: a length of 0 is a sheet of no words, which is planned at cost 0.
use Rattle.std.specs.Prelude.{ℕ, ◌<◌, ◌≡◌, List, [], ◌∷◌}
use Rattle.wcsp.specs.Empty.{all_costs}
use Rattle.fields.specs.Limits.{forbidden_cost}
use Rattle.input.specs.Instance.{entries_of}
use Rattle.littleendian.specs.Words.{words_in}
use Rattle.planning.specs.Empty.{EmptySheet}
use Rattle.figures.specs.Counting.{planned_column}
use Rattle.batch.specs.Season.{whole, figure_of_sheet, season_line}

-- a sheet with no variables counts as planned, at the sum of its costs
abbrev pub EmptyCounts : Type 0
EmptyCounts = (bytes : List ℕ) → EmptySheet bytes
    → let sum = all_costs (entries_of (words_in bytes)) in
    sum < forbidden_cost
    → figure_of_sheet (whole bytes) ≡ record { column = planned_column; cost = sum }

-- a season of one length, 0: the line is 1 0 0 0 0 0 0 0 0 0 0 0 0 1
abbrev pub NothingCounts : Type 0
NothingCounts = season_line (0 ∷ 0 ∷ 0 ∷ 0 ∷ [])
    ≡ 49 ∷ 32 ∷ 48 ∷ 32 ∷ 48 ∷ 32 ∷ 48 ∷ 32 ∷ 48 ∷ 32 ∷ 48 ∷ 32 ∷ 48 ∷ 32 ∷ 48 ∷ 32 ∷ 48 ∷ 32 ∷ 48 ∷ 32 ∷ 48 ∷ 32 ∷ 48 ∷ 32 ∷ 48 ∷ 32 ∷ 49 ∷ 10 ∷ []
