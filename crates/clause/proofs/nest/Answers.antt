-- `nest` meets its contract: the meet is one of the two signs.
use Rattle.clause.proofs.Clashing.{nested_left, nested_right}
use Rattle.clause.proofs.nest.Goals as goal

pub returns-then-met-s : goal.returns-then-met-s
returns-then-met-s c = let g = c.args in nested_left g.s g.t c.if-met-s.true

pub returns : goal.returns
returns c = let g = c.args in nested_right g.s g.t c.if-met-s.false
