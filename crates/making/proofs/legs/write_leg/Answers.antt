-- `write_leg` leaves a leg's three words from its index on.
use native.Mathlib.Omega.{arith}
use lib.ListN.{length-set}
use Rattle.making.proofs.Writing.{leg_stored}
use Rattle.making.proofs.legs.write_leg.Goals as goal

pub bounds-target-at-2 : goal.bounds-target-at-2
bounds-target-at-2 c = simp length-set (omega arith)

pub bounds-target-at-3 : goal.bounds-target-at-3
bounds-target-at-3 c = simp length-set (omega arith)

pub returns : goal.returns
returns c =
    let a = c.args in
    leg_stored a.target.now a.at _ _ _ _ _ _ _ c.binding-first.ensures c.binding-second.ensures c.cost-third.ensures
