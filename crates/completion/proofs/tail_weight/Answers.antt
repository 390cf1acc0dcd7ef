-- `tail_weight` meets its contract: the sum so far and the rows from i on give the whole, and a sum above the greatest weight ends the loop.
use native.Mathlib.Omega.{arith}
use Rattle.completion.proofs.Summing.{no_row_lem, turned, summing, all_summed}
use Rattle.completion.proofs.tail_weight.Goals as goal

pub loop-i-init : goal.loop-i-init
loop-i-init c = let g = c.args in summing g.t.now g.base g.count g.k g.values 0 0 (no_row_lem g.t.now g.base g.count g.k g.values)

pub overflow_add-sum : goal.overflow_add-sum
overflow_add-sum c = omega (arith, c.loop-i.invariant.so_far.low, c.weight_of-sum.ensures.1)

pub loop-i-preserved : goal.loop-i-preserved
loop-i-preserved c =
    let g = c.args in
    summing g.t.now g.base g.count g.k g.values _ _ (turned g.t.now g.base g.count g.k g.values c.loop-i.i c.loop-i.sum c.loop-i.invariant.so_far (omega arith) _ c.clause_of-x.ensures.0
    _ c.lowest.ensures.0 _ (λ b d. grind arith) (λ b d. grind arith) (λ b d. grind arith) (λ b. grind arith))

pub returns : goal.returns
returns c =
    let l = c.loop-i in
    let g = c.args in
    all_summed g.t.now g.base g.count g.k g.values l.i l.sum l.invariant.so_far (omega arith)
