-- `after` plans a sheet's own bytes, which stand in front of the buffer.
use mathlib.Core.Path.{sym}
use lib.Seq.{length-take-le}
use Rattle.batch.proofs.Answers.{sheet_end}
use Rattle.batch.proofs.Season.after.Goals as goal

pub slice_bounds-behind_sheet-end : goal.slice_bounds-behind_sheet-end
slice_bounds-behind_sheet-end c =
    sym (length-take-le _ _ (sheet_end _ _ _ c.in-Sheet.is c.requires.found_in_bounds))
