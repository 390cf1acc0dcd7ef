-- The readout call (document 01: the panel's number): whole metres from a position to the assignment's value at a variable.
use Rattle.std.specs.Prelude.{ℕ, ◌&&◌, cond, List, length, get_or, eqb, ltb}
use Rattle.fields.specs.Answers.{Answer}
use Rattle.fields.specs.Answers.{refused, good}
use Rattle.fields.specs.Assignment.{is_assignment}
use Rattle.sheet.specs.Sheet.{easting_kind, northing_kind, is_easting, is_northing, offset_of, sheet_fault, sheet_sizes}
use Rattle.sheet.specs.Calls.{position_in, travel}

-- 1 to 5 for the sheet; 8 for a variable (document 01: station) that it lacks, a position out of range, or bytes that are no
-- assignment; else the metres
unfoldable pub readout_call : List ℕ → List ℕ → ℕ → ℕ → ℕ → Answer
readout_call sheet plan v easting northing =
    let f = sheet_fault sheet in
    let sizes = sheet_sizes sheet in
    cond (eqb f 0)
    (cond (ltb v (length sizes) && is_easting easting && is_northing northing && is_assignment sizes plan)
    (good (travel (record { easting = offset_of easting_kind easting; northing = offset_of northing_kind northing }) (position_in sheet v (get_or plan v 0))))
    (refused 8))
    (refused f)
