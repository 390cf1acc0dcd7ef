-- `positive` counts over the words: the number so far and that of the words to come make up the whole.
use native.Mathlib.Omega.{arith}
use mathlib.Core.Path.{refl}
use Rattle.encoding.proofs.Looking.{positive_more, positive_same, positive_end}
use Rattle.encoding.proofs.positive.Goals as goal
use Rattle.encoding.proofs.positive.Goals.{else-cost_of-ne0, then-cost_of-ne0}

pub loop-i-preserved : goal.loop-i-preserved
loop-i-preserved c =
    let ws = c.args.instance.now in
    elim c.if-cost_of-ne0.branch [ then-cost_of-ne0 w ↦ (positive_more ws _ _ c.loop-i.i c.loop-i.invariant.0 _ _ c.loop-i-test.true refl c.cost_of.ensures _ w.if-cost_of-ne0.true w.n-is, omega arith) | else-cost_of-ne0 w ↦ (positive_same ws _ _ c.loop-i.i c.loop-i.invariant.0 _ _ c.loop-i-test.true refl c.cost_of.ensures _ w.if-cost_of-ne0.false w.n-is, omega arith) ]

pub returns : goal.returns
returns c = positive_end c.args.instance.now _ _ c.loop-i.i c.loop-i.invariant.0 (omega arith)
