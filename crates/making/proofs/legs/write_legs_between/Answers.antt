-- `write_legs_between` writes the legs between two variables: each turn stores those of the next value, and the rest is still to come.
use Rattle.std.proofs.Common.{◌≡◌, ◌∙◌, drop, arith}
use Rattle.sheet.proofs.Located.{points_length}
use Rattle.making.proofs.Writing.{between_next, between_ends}
use Rattle.making.proofs.legs.write_legs_between.Goals as goal

pub loop-a-preserved : goal.loop-a-preserved
loop-a-preserved c =
    let a = c.args in
    let l = c.loop-a in
    let call = c.write_legs_to-o in (
      omega arith,
      call.auto.target ∙ l.invariant.1,
      between_next a.sheet.now a.variable _ a.these.at a.these.size a.next.size (points_length a.next.size (drop a.next.at a.sheet.now))
          _ l.target _ l.o _ l.a l.invariant.2 c.loop-a-test.true _ c.place_at-start.ensures.0 call.ensures.value call.ensures.target_after,
    )

pub returns-clause-target_after : goal.returns-clause-target_after
returns-clause-target_after c =
    let a = c.args in
    let l = c.loop-a in
    let e : l.a ≡ a.these.size = omega arith in
    between_ends a.sheet.now a.variable _ a.these.at a.these.size a.next.size (points_length a.next.size (drop a.next.at a.sheet.now))
    _ l.target l.o (rw e at l.invariant.2)
