-- `hunt` meets its contract: the buckets that it has passed over have no pair, and only in the first of them can rows be passed over.
use native.Mathlib.Omega.{arith}
use Rattle.hunt.proofs.Climbing.{start, is_next, no_pair_lem, nothing_left}
use Rattle.hunt.proofs.hunt.Goals as goal

pub loop-s-init : goal.loop-s-init
loop-s-init c =
    let g = c.args in
    start g.t.now g.base g.count g.v g.skip g.from g.fulls

pub returns-in-Some : goal.returns-in-Some
returns-in-Some c =
    let g = c.args in
    is_next g.t.now g.base g.count g.v g.skip g.from g.fulls c.loop-s.s c.loop-s.first c.loop-s.second
    (omega arith) c.loop-s.invariant _ c.pair_in-found.ensures _ c.in-Some.is

pub loop-s-preserved : goal.loop-s-preserved
loop-s-preserved c =
    let g = c.args in
    no_pair_lem g.t.now g.base g.count g.v g.skip g.from g.fulls c.loop-s.s c.loop-s.first c.loop-s.second
    (omega arith) c.loop-s.invariant _ c.pair_in-found.ensures c.in_default.is

pub returns : goal.returns
returns c =
    let g = c.args in
    nothing_left g.t.now g.base g.count g.v g.skip g.from g.fulls _ _ _ c.loop-s.invariant (omega arith)
