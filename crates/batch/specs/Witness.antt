-- That what the statements on bytes ask for can be had: a buffer for the longest sheet, in which a new season takes bytes and wants some, and a file as
-- long as the longest season.
use Rattle.std.specs.Prelude.{ℕ, ◌*◌, ◌≤◌, ◌<◌, ◌≡◌, true, List, length}
use Rattle.fields.specs.Entries.{Each}
use Rattle.cutting.specs.Cutting.{longest_sheet, wanted_in}
use Rattle.figures.specs.Counting.{most_sheets}
use Rattle.batch.specs.Feeding.{started_season, season_takes}
use Rattle.batch.specs.Theorems.{most_sheet_bytes}

pub record SeasonWitnesses : Type 0 where
  pub body : List ℕ
  pub room : 4 * longest_sheet ≤ length body
  pub takes : season_takes started_season (length body) ≡ true
  pub wants : 1 ≤ wanted_in started_season.phase
  pub file : List ℕ
  pub bytes : Each (λ b. b < 256) file
  pub long : most_sheets * most_sheet_bytes ≤ length file
