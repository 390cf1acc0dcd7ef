-- `passes` meets its contract: behind the last row there is no weight, and before it the weight is that of the raw row.
use native.Mathlib.Omega.{arith}
use Rattle.stepping.proofs.Places.{passes_not, passes_is}
use Rattle.stepping.proofs.passes.Goals as goal

pub returns-then-k-count : goal.returns-then-k-count
returns-then-k-count c = let g = c.args in passes_not g.t.now g.base g.count g.k g.moved c.if-k-count.true c.requires.2

pub returns : goal.returns
returns c =
    let g = c.args in
    passes_is g.t.now g.base g.count g.k g.moved _ (omega arith) c.weight_of.ensures.0
