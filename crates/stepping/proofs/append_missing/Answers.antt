-- `append_missing` meets its contract. The loop's invariant is `Appending`: the rows of the missing clauses passed stand behind the others.
use Prim.Native.Nat.{◌<◌}
use native.Mathlib.Omega.{arith}
use Rattle.stepping.proofs.Writes.{appending_start, appending_laid, appending_room, appending_next, appending_skip, appending_end}
use Rattle.stepping.proofs.append_missing.Goals as goal
use Rattle.stepping.proofs.append_missing.Goals.{else-places-m, then-places-m}

pub loop-m-init : goal.loop-m-init
loop-m-init c =
    let g = c.args in
    appending_start g.t.now g.base g.count g.old g.buffer.now g.places.now g.kept g.moved c.requires.0

pub clause_at-requires : goal.clause_at-requires
clause_at-requires c = (omega arith, c.requires.3)

pub append-requires : goal.append-requires
append-requires c =
    let g = c.args in (
      appending_laid g.t.now g.base g.count g.old g.buffer.now g.places.now g.kept g.moved _ _ _ c.loop-m.invariant,
      appending_room g.t.now g.base g.count g.old g.buffer.now g.places.now g.kept g.moved _ _ _ c.loop-m.invariant
          (omega arith) c.if-places-m.true c.requires.4,
      c.clause_at.ensures.packed,
      omega arith,
    )

pub overflow_add-now : goal.overflow_add-now
overflow_add-now c =
    let g = c.args in
    let i = c.loop-m.invariant in
    omega (
      arith,
      i.left.long,
      appending_room g.t.now g.base g.count g.old g.buffer.now g.places.now g.kept g.moved _ _ _ i (omega arith) c.if-places-m.true c.requires.4,
    )

pub loop-m-preserved : goal.loop-m-preserved
loop-m-preserved c =
    let g = c.args in
    let inside : c.loop-m.m < g.kept = omega arith in
    elim c.if-places-m.branch [
      | then-places-m w ↦ appending_next g.t.now g.base g.count g.old g.buffer.now g.places.now g.kept g.moved _ _ _ c.loop-m.invariant
          inside c.requires.1 w.if-places-m.true _ w.clause_at.ensures _ w.append.ensures _ w.t-is _ w.now-is
      | else-places-m w ↦ appending_skip g.t.now g.base g.count g.old g.buffer.now g.places.now g.kept g.moved _ _ _ c.loop-m.invariant
          inside w.if-places-m.false _ w.t-is _ w.now-is
    ]

pub shape_of-t : goal.shape_of-t
shape_of-t c = c.loop-m.invariant.left.long

pub returns : goal.returns
returns c =
    let g = c.args in
    appending_end g.t.now g.base g.count g.old g.buffer.now g.places.now g.kept g.moved _ _ _ c.loop-m.invariant (omega arith)
