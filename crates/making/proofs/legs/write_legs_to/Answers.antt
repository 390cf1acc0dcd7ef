-- `write_legs_to` writes the legs from one position: each turn stores the next leg's words, and the rest is still to come.
use Rattle.std.proofs.Common.{◌≡◌, ◌∙◌, ◌+◌, ◌*◌, ap, arith}
use Rattle.sheet.specs.Calls.{travel}
use Rattle.sheet.specs.Places.{point_of}
use Rattle.making.proofs.Writing.{to_next, to_ends}
use Rattle.making.proofs.legs.write_legs_to.Goals as goal

pub loop-b-preserved : goal.loop-b-preserved
loop-b-preserved c =
    let a = c.args in
    let l = c.loop-b in
    let e : a.at + 3 * l.b + 3 ≡ a.at + 3 * (l.b + 1) = omega arith in (
      c.write_leg.auto.target ∙ l.invariant.0,
      rw e at (to_next a.sheet.now _ _ _ a.next.at a.next.size _ l.target _ (a.at + 3 * l.b) l.b l.invariant.1 c.loop-b-test.true _
          (c.between-metres.ensures.0 ∙ ap (λ q. travel (point_of a.start) q) c.place_at-stop.ensures.0)
          c.write_leg.ensures),
    )

pub returns-clause-target_after : goal.returns-clause-target_after
returns-clause-target_after c =
    let a = c.args in
    let l = c.loop-b in
    let e : l.b ≡ a.next.size = omega arith in
    to_ends a.sheet.now _ _ _ a.next.at a.next.size _ l.target (a.at + 3 * a.next.size) (rw e at l.invariant.1)
