-- `metres_to` answers the metres to the position that `position` answers, whose coordinates lie within the range.
use native.Mathlib.Omega.{arith}
use Rattle.sheet.proofs.Placed.{value_within, travel_is}
use Rattle.readout.proofs.metres_to.Goals as goal

pub between-requires : goal.between-requires
between-requires c =
    let w = value_within _ _ _ _ c.position-place.ensures c.requires.sheet_value in
    (omega arith, omega arith, w.0, w.1)

pub returns : goal.returns
returns c = travel_is _ _ _ _ c.position-place.ensures _ _ _ c.between.ensures.0
