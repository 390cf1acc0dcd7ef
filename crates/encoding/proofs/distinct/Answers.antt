-- `distinct` goes through the words: the count is the number of rows of those passed.
use native.Mathlib.Omega.{arith}
use mathlib.Core.Path.{refl}
use Rattle.encoding.proofs.Looking.{counted_start, counted_next, counted_end, proper_read}
use Rattle.encoding.proofs.distinct.Goals as goal

pub loop-i-init : goal.loop-i-init
loop-i-init c = counted_start _ _ _ _ c.empty-pending.ensures

pub fresh-count-requires : goal.fresh-count-requires
fresh-count-requires c =
    let p = c.requires in
    (c.loop-i.invariant.«open».from, omega arith, p.0, c.loop-i.invariant.«open».holds.packed, p.1)

pub overflow_add-count : goal.overflow_add-count
overflow_add-count c = omega (arith, c.fresh-count.ensures.1, c.loop-i.invariant.few)

pub signs_after-pending-requires : goal.signs_after-pending-requires
signs_after-pending-requires c =
    let p = c.requires in (
      c.loop-i.invariant.«open».holds.packed,
      p.0,
      proper_read p.1 _ c.loop-i.invariant.«open».from c.loop-i-test.true _ refl,
    )

pub loop-i-preserved : goal.loop-i-preserved
loop-i-preserved c =
    counted_next _ _ _ _ _ _ c.loop-i.invariant c.loop-i-test.true _ refl _ c.fresh-count.ensures _ c.signs_after-pending.ensures

pub returns : goal.returns
returns c = counted_end _ _ _ _ _ _ c.loop-i.invariant (omega arith)
