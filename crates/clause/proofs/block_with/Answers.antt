-- `block_with` meets its contract: at each place the block keeps the two other bytes.
use native.Mathlib.Omega.{arith}
use Rattle.clause.proofs.Blocks.{with_low, with_middle, with_high}
use Rattle.clause.proofs.block_with.Goals as goal

pub returns-in-0 : goal.returns-in-0
returns-in-0 c =
    let g = c.args in
    with_low g.block g.k g.sign (omega arith) (omega arith) (omega arith)

pub returns-in-1 : goal.returns-in-1
returns-in-1 c =
    let g = c.args in
    with_middle g.block g.k g.sign (omega arith) (omega arith) (omega arith)

pub returns-in-2-to-4294967295 : goal.returns-in-2-to-4294967295
returns-in-2-to-4294967295 c =
    let g = c.args in
    with_high g.block g.k g.sign (omega arith) (omega arith) (omega arith)
