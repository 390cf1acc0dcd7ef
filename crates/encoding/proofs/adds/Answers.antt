-- `adds` answers by the word's cost, then by the signs.
use Rattle.encoding.proofs.Looking.{adds_none, adds_same}
use Rattle.encoding.proofs.adds.Goals as goal

pub returns-then-cost_of-eq0 : goal.returns-then-cost_of-eq0
returns-then-cost_of-eq0 c = adds_none _ _ _ c.cost_of.ensures c.if-cost_of-eq0.true

pub returns : goal.returns
returns c = adds_same _ _ _ c.cost_of.ensures _ c.if-cost_of-eq0.false c.equals.ensures
