-- `count_legs` answers the number of legs: those counted and those still to come make up the whole.
use Rattle.std.proofs.Common.{arith}
use Rattle.sheet.proofs.Counting.{product_small, legs_more, legs_end}
use Rattle.sheet.proofs.stations.count_legs.Goals as goal

pub loop-i-preserved : goal.loop-i-preserved
loop-i-preserved c =
    let h = product_small c.from.result c.from-in-loop-i.result (omega arith) (omega arith) in (
      omega arith,
      omega arith,
      rw (c.from.ensures, c.from-in-loop-i.ensures) (legs_more c.args.sizes.now c.loop-i.i c.loop-i.legs c.loop-i.invariant.2 c.loop-i.auto.i c.loop-i-test.true),
    )

pub returns : goal.returns
returns c = (
  legs_end c.args.sizes.now c.loop-i.i c.loop-i.legs c.loop-i.invariant.2 c.loop-i-test.false,
  omega arith,
)
