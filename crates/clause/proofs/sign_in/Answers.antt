-- `sign_in` meets its contract: at each place the block shows its own byte.
use native.Mathlib.Omega.{arith}
use Rattle.clause.proofs.Blocks.{read_low, read_middle, read_high}
use Rattle.clause.proofs.sign_in.Goals as goal

pub returns-in-0 : goal.returns-in-0
returns-in-0 c = let g = c.args in read_low g.block g.k (omega arith)

pub returns-in-1 : goal.returns-in-1
returns-in-1 c = let g = c.args in read_middle g.block g.k (omega arith)

pub returns-in-2-to-4294967295 : goal.returns-in-2-to-4294967295
returns-in-2-to-4294967295 c = let g = c.args in read_high g.block g.k (omega arith) (omega arith)
