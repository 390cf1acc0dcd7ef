-- What the season's figures mean, and that bytes in whatever pieces lead to them.
use Rattle.std.specs.Prelude.{ℕ, ◌+◌, ◌*◌, ◌≤◌, ◌<◌, ◌≡◌, true, List, [], ◌∷◌, ◌++◌, map, length}
use Rattle.wcsp.specs.Entry.{LeastCost}
use Rattle.fields.specs.Limits.{greatest_allowed}
use Rattle.fields.specs.Entries.{Each}
use Rattle.littleendian.specs.Words.{words_in}
use Rattle.input.specs.Instance.{sizes_of, entries_of}
use Rattle.making.specs.Made.{made_words}
use Rattle.planning.specs.Theorems.{Held}
use Rattle.cutting.specs.declared.Phase.{Phase}
use Rattle.cutting.specs.Cutting.{longest_sheet, wanted_in}
use Rattle.figures.specs.Counting.{column_count, most_sheets, sum_of, sheets_of}
use Rattle.figures.specs.Tallies.{is_planned, counts_from, costs_of}
use Rattle.figures.specs.Theorems.{InColumn, LargestOf}
use Rattle.batch.specs.Season.{Sheet, whole, figure_of_sheet, season_sheets, season_figures, season_line}
use Rattle.batch.specs.declared.Season.{Season}
use Rattle.batch.specs.Feeding.{LentSeason, started_season, season_takes, fed, finished_figures, finished_line}

-- ---- bytes in pieces

-- a piece and then another lead where both together do
abbrev pub FedInPieces : Type 0
FedInPieces = (f : LentSeason) (xs ys : List ℕ) → fed f (xs ++ ys) ≡ fed (fed f xs) ys

-- a new season with a buffer, whatever lies in it
abbrev pub new_season : List ℕ → LentSeason
new_season body = record { season = started_season; body = body }

-- a file's bytes lead to the file's figures
abbrev pub FedIsSeason : Type 0
FedIsSeason = (body file : List ℕ) → 4 * longest_sheet ≤ length body → finished_figures (fed (new_season body) file).season ≡ season_figures file

-- pieces that are fed one after the other
unfoldable pub fed_pieces : LentSeason → List (List ℕ) → LentSeason
fed_pieces f [] = f
fed_pieces f (xs ∷ pieces) = fed_pieces (fed f xs) pieces

unfoldable pub joined_pieces : List (List ℕ) → List ℕ
joined_pieces [] = []
joined_pieces (xs ∷ pieces) = xs ++ joined_pieces pieces

-- however the file is cut
abbrev pub PiecesAreSeason : Type 0
PiecesAreSeason = (body : List ℕ) (pieces : List (List ℕ)) → 4 * longest_sheet ≤ length body
    → finished_figures (fed_pieces (new_season body) pieces).season ≡ season_figures (joined_pieces pieces)

-- and so is the line
abbrev pub LineIsSeason : Type 0
LineIsSeason = (body : List ℕ) (pieces : List (List ℕ)) → 4 * longest_sheet ≤ length body
    → finished_line (fed_pieces (new_season body) pieces).season ≡ season_line (joined_pieces pieces)

-- what reading comes to: a season that some bytes lead to, and the line that they have
pub record ReadAs (body : List ℕ) (s : Season) : Type 0 where
  pub bytes : List ℕ
  pub leads : (fed (new_season body) bytes).season ≡ s
  pub line : finished_line s ≡ season_line bytes

-- a season that takes bytes wants some
abbrev pub TakesAndWants : Type 0
TakesAndWants = (s : Season) (room : ℕ) → season_takes s room ≡ true → 1 ≤ wanted_in s.phase

-- fewer bytes than it wants bring no sheet to its end and leave it taking more, so a reader that asks for no more reads nothing behind the last sheet
abbrev pub NothingBehind : Type 0
NothingBehind = (f : LentSeason) (xs : List ℕ) → season_takes f.season (length f.body) ≡ true → length xs < wanted_in f.season.phase
    → ((fed f xs).season.figures ≡ f.season.figures) × (season_takes (fed f xs).season (length (fed f xs).body) ≡ true)

-- the most bytes of a sheet: four of its length, and 4,294,967,295 words
abbrev pub most_sheet_bytes : ℕ
most_sheet_bytes = 4 + 4 * 4294967295

-- after so many bytes of 10,000 sheets a season is over, so a reader may end then
abbrev pub SeasonEnds : Type 0
SeasonEnds = (body file : List ℕ) → 4 * longest_sheet ≤ length body → Each (λ b. b < 256) file → most_sheets * most_sheet_bytes ≤ length file
    → (fed (new_season body) file).season.phase ≡ Phase.Over

-- ---- the figures

-- a planned sheet has its bytes, whose words are accepted, and its cost is the least of the instance made from them
pub record PlannedAt (sheet : Sheet) (cost : ℕ) : Type 0 where
  pub bytes : List ℕ
  pub sheet_has : sheet ≡ whole bytes
  pub held : Held (words_in bytes)
  pub least : LeastCost (sizes_of (made_words (words_in bytes))) (entries_of (made_words (words_in bytes))) cost

pub record SeasonTells (file : List ℕ) : Type 0 where
  -- at most 10,000 sheets
  pub few : length (season_sheets file) ≤ most_sheets
  -- every sheet has one of the columns; each column has the number of its sheets, by definition; and the counts add up to the sheets
  pub in_columns : Each InColumn (map figure_of_sheet (season_sheets file))
  pub counts : (season_figures file).counts ≡ counts_from 0 column_count (map figure_of_sheet (season_sheets file))
  pub adds : sheets_of (season_figures file) ≡ length (season_sheets file)
  -- the sum is that of the planned sheets' costs, by definition, each the least of its own instance
  pub sums : (season_figures file).sum ≡ sum_of (costs_of (map figure_of_sheet (season_sheets file)))
  pub planned : Each (λ sheet. is_planned (figure_of_sheet sheet) ≡ true → PlannedAt sheet (figure_of_sheet sheet).cost) (season_sheets file)
  -- the largest and its sheet
  pub largest : LargestOf (map figure_of_sheet (season_sheets file)) (season_figures file).largest (season_figures file).first
  -- no sum passes 10,000 times the greatest cost of a plan without a forbidden combination
  pub bounded : (season_figures file).sum ≤ most_sheets * greatest_allowed

abbrev pub SeasonMeans : Type 0
SeasonMeans = (file : List ℕ) → SeasonTells file
