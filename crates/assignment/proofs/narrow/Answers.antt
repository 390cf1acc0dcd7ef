-- `narrow` meets its contract: the rows passed have left the sign that the loop holds, so the rows from i on give the rest.
use native.Mathlib.Omega.{arith}
use mathlib.Core.Path.{refl}
use Rattle.assignment.proofs.Narrowing.{turned, all_met}
use Rattle.assignment.proofs.narrow.Goals as goal

pub loop-i-init : goal.loop-i-init
loop-i-init c = λ q h. refl

pub loop-i-preserved : goal.loop-i-preserved
loop-i-preserved c =
    let g = c.args in
    turned g.t.now g.base g.count g.k g.chosen g.full c.loop-i.i c.loop-i.sign c.loop-i.invariant (omega arith) _ c.clause_of-x.ensures.0
    _ c.lowest.ensures.0 _ (λ m d. grind arith) (λ m. grind arith) (λ d. grind arith)

pub returns : goal.returns
returns c =
    let g = c.args in
    all_met g.t.now g.base g.count g.k g.chosen g.full c.loop-i.i c.loop-i.sign c.loop-i.invariant (omega arith)
