-- `place_at` answers the position at its index: both offsets are those of the words there.
use Rattle.sheet.proofs.Walking.{point_is}
use Rattle.sheet.proofs.points.place_at.Goals as goal

pub returns : goal.returns
returns c =
    let a = c.args in (
      point_is a.sheet.now a.at _ _ c.offset-east.ensures.0 c.offset-north.ensures.0,
      record { easting = c.offset-east.ensures.1; northing = c.offset-north.ensures.1 },
    )
