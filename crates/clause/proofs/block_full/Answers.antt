-- `block_full` meets its contract: the three bytes are compared one after the other.
use native.Mathlib.Omega.{arith}
use Rattle.clause.proofs.Blocks.{equal_low, equal_middle, equal_high}
use Rattle.clause.proofs.block_full.Goals as goal

pub returns-then-x-full : goal.returns-then-x-full
returns-then-x-full c = let g = c.args in equal_low g.x g.full (omega arith)

pub returns-then-x-full-2 : goal.returns-then-x-full-2
returns-then-x-full-2 c = let g = c.args in equal_middle g.x g.full (omega arith)

pub returns : goal.returns
returns c =
    let g = c.args in
    equal_high g.x g.full c.if-x-full.false c.if-x-full-2.false
