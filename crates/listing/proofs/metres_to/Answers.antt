-- `metres_to` answers 0 for the first variable, else the metres between the positions of the two values.
use native.Mathlib.Omega.{arith}
use Rattle.sheet.proofs.Placed.{value_within}
use Rattle.listing.proofs.Metres.{asked, first_metres, next-metres}
use Rattle.listing.proofs.metres_to.Goals as goal

pub returns-then-v-eq0 : goal.returns-then-v-eq0
returns-then-v-eq0 c = first_metres _ _ _ c.if-v-eq0.true

pub position-start-requires : goal.position-start-requires
position-start-requires c =
    let parts = asked _ _ c.requires.holds_plan _ _ (omega arith) c.from.ensures in
    record { sheet_value = parts.0; variable_in_bounds = parts.1 }

pub position-stop-requires : goal.position-stop-requires
position-stop-requires c =
    let parts = asked _ _ c.requires.holds_plan _ _ (omega arith) c.from-2.ensures in
    record { sheet_value = parts.0; variable_in_bounds = parts.1 }

pub between-requires : goal.between-requires
between-requires c =
    let p = c.requires.holds_plan in
    let x = value_within _ _ _ _ c.position-start.ensures p.fine in
    let y = value_within _ _ _ _ c.position-stop.ensures p.fine in
    (x.0, x.1, y.0, y.1)

pub returns : goal.returns
returns c =
    next-metres _ _ _ _ _ _ _ _ c.if-v-eq0.false c.from.ensures c.from-2.ensures
    c.position-start.ensures c.position-stop.ensures c.between.ensures.0
