-- `pair_in` meets its contract: no row before i is the first of a pair, and the hunt for row i's second row starts past those that do not go with it.
use native.Mathlib.Omega.{arith}
use Rattle.hunt.proofs.Pairing.{tried_start, paired, turned, nothing}
use Rattle.hunt.proofs.pair_in.Goals as goal

pub loop-i-init : goal.loop-i-init
loop-i-init c =
    let g = c.args in
    tried_start g.t.now g.base g.count g.v g.skip g.from g.fulls

pub returns-in-Some : goal.returns-in-Some
returns-in-Some c =
    let g = c.args in
    paired g.t.now g.base g.count g.v g.skip g.from g.fulls c.loop-i.i c.loop-i.least (omega arith) c.loop-i.invariant
    _ c.clause_of-x.ensures.0 _ c.lowest.ensures.0 c.if-lowest-v.true
    _ (grind arith) _ c.seek-found.ensures _ c.in-Some.is

pub loop-i-preserved : goal.loop-i-preserved
loop-i-preserved c =
    let g = c.args in
    turned g.t.now g.base g.count g.v g.skip g.from g.fulls c.loop-i.i c.loop-i.least (omega arith) c.loop-i.invariant (omega arith) _ c.sign_at-sign.ensures
    (λ p l ds f r k m. grind arith) (λ p l ds f r k m. grind arith)

pub returns : goal.returns
returns c =
    let g = c.args in
    nothing g.t.now g.base g.count g.v g.skip g.from g.fulls c.loop-i.i c.loop-i.least c.loop-i.invariant
    (omega arith)
