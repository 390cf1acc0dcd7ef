-- `block_below` meets its contract: the three bytes are compared one after the other.
use native.Mathlib.Omega.{arith}
use Rattle.table.proofs.RowTests.{not_low, not_middle, as_high}
use Rattle.table.proofs.block_below.Goals as goal

pub returns-then-full-x : goal.returns-then-full-x
returns-then-full-x c = let g = c.args in not_low g.x g.full (omega arith)

pub returns-then-full-x-2 : goal.returns-then-full-x-2
returns-then-full-x-2 c = let g = c.args in not_middle g.x g.full (omega arith) (omega arith)

pub returns : goal.returns
returns c = let g = c.args in as_high g.x g.full (omega arith) (omega arith)
