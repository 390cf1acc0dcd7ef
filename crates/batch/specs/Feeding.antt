-- A season's bytes as they come: the phase and the figures that they lead to, with a buffer for one sheet.
use Rattle.std.specs.Prelude.{ℕ, zero, suc, Bool, true, false, cond, ◌&&◌, List, [], ◌∷◌, length, take, ltb}
use Rattle.planning.specs.Values.{Solved}
use Rattle.planning.specs.Solving.{refused_solved, solved_of}
use Rattle.cutting.specs.declared.Phase.{Phase}
use Rattle.cutting.specs.declared.Found.{Found}
use Rattle.cutting.specs.Cutting.{byte_cut, takes_byte}
use Rattle.figures.specs.declared.Figures.{Figures}
use Rattle.figures.specs.Counting.{most_sheets, no_figures, sheets_of, counted, takes_sheet}
use Rattle.figures.specs.Line.{figures_line}
use Rattle.batch.specs.declared.Season.{Season}
use Rattle.batch.specs.Season.{figure_of}

-- a season and the buffer that is lent to it
pub record LentSeason : Type 0 where
  pub season : Season
  pub body : List ℕ

abbrev pub started_season : Season
started_season = record { phase = Phase.Length 0; figures = no_figures }

-- a sheet counted
abbrev pub counted_sheet : Figures → Solved → Figures
counted_sheet f solved = counted f (figure_of solved).column (figure_of solved).cost

-- behind a sheet: the next one's length, or the end after the 10,000th
abbrev pub behind_sheet : Figures → Season
behind_sheet f = record { phase = cond (ltb (sheets_of f) most_sheets) (Phase.Length 0) Phase.Over; figures = f }

-- with what came to its end counted: a sheet's bytes stand in front of the buffer
unfoldable pub after_found : Figures → Phase → List ℕ → Found → Season
after_found f phase body Found.Nothing = record { phase = phase; figures = f }
after_found f phase body Found.Length = record { phase = phase; figures = f }
after_found f phase body (Found.Sheet end) = behind_sheet (counted_sheet f (solved_of (take end body)))
after_found f phase body Found.PassedOver = behind_sheet (counted_sheet f (refused_solved 10))

-- whether a byte is taken: a season that is over takes none, nor does one whose phase or figures are out of range, or whose buffer is too short
abbrev pub season_takes : Season → ℕ → Bool
season_takes s room = takes_byte s.phase room && takes_sheet s.figures

-- one byte
abbrev pub byte_taken : Season → List ℕ → ℕ → LentSeason
byte_taken s body b =
    let c = byte_cut s.phase body b in
    record { season = after_found s.figures c.phase c.body c.found; body = c.body }

unfoldable pub fed_byte : LentSeason → ℕ → LentSeason
fed_byte f b = cond (season_takes f.season (length f.body)) (byte_taken f.season f.body b) f

-- bytes, one after the other
unfoldable pub fed : LentSeason → List ℕ → LentSeason
fed f [] = f
fed f (b ∷ bs) = fed (fed_byte f b) bs

-- ---- the end of the file

-- a length or a sheet has begun and is cut off
unfoldable pub is_cut : Phase → Bool
is_cut (Phase.Length zero) = false
is_cut (Phase.Length (suc at)) = true
is_cut (Phase.Body at end) = true
is_cut (Phase.Passing left) = true
is_cut Phase.Over = false

-- what is cut off counts as 1
unfoldable pub finished_figures : Season → Figures
finished_figures s = cond (is_cut s.phase && takes_sheet s.figures) (counted_sheet s.figures (refused_solved 1)) s.figures

abbrev pub finished_line : Season → List ℕ
finished_line s = figures_line (finished_figures s)
