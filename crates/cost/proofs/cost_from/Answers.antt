-- `cost_from` sums over the words: the sum and what the words still to come add make up the whole, which fits.
use native.Mathlib.Omega.{arith}
use Rattle.cost.proofs.Costing.{cost_fits, cost_again, cost_end}
use Rattle.cost.proofs.cost_from.Goals as goal

pub overflow_add-sum : goal.overflow_add-sum
overflow_add-sum c =
    let h =
    cost_fits _ _ c.args.words.now c.loop-i.i _ _ c.loop-i.invariant _ c.loop-i-test.true c.cost_in-sum.ensures in
    record { fits = omega arith }

pub loop-i-preserved : goal.loop-i-preserved
loop-i-preserved c =
    cost_again _ _ c.args.words.now c.loop-i.i _ _ c.loop-i.invariant _ c.loop-i-test.true c.cost_in-sum.ensures _ c.matched_after-matched.ensures

pub returns : goal.returns
returns c = cost_end _ _ c.args.words.now c.loop-i.i _ _ c.loop-i.invariant c.loop-i-test.false
