-- `first_in` meets its contract: the lowest 8, 16 or 24 bits are 0 as long as no sign is present in them.
use native.Mathlib.Omega.{arith}
use Rattle.clause.proofs.Blocks.{first_low, first_middle, first_high, first_none}
use Rattle.clause.proofs.first_in.Goals as goal

pub returns-then-block-ne0 : goal.returns-then-block-ne0
returns-then-block-ne0 c = let g = c.args in (first_low g.block c.if-block-ne0.true, omega arith)

pub returns-then-block-ne0-2 : goal.returns-then-block-ne0-2
returns-then-block-ne0-2 c =
    let g = c.args in
    (first_middle g.block (omega arith) c.if-block-ne0-2.true, omega arith)

pub returns-then-block-ne0-3 : goal.returns-then-block-ne0-3
returns-then-block-ne0-3 c =
    let g = c.args in
    (first_high g.block (omega arith) c.if-block-ne0-3.true, omega arith)

pub returns : goal.returns
returns c = let g = c.args in (first_none g.block (omega arith), omega arith)
