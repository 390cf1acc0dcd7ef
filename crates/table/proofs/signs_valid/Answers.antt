-- `signs_valid` meets its contract: the first block with a sign that is not below the full one decides, or the last block's test.
use Rattle.table.proofs.RowTests.{not_a, not_b, not_c, as_d}
use Rattle.table.proofs.signs_valid.Goals as goal

pub returns-then-not-block_below : goal.returns-then-not-block_below
returns-then-not-block_below c =
    let g = c.args in
    not_a g.x g.fulls _ c.block_below.ensures c.if-not-block_below.true

pub returns-then-not-block_below-2 : goal.returns-then-not-block_below-2
returns-then-not-block_below-2 c =
    let g = c.args in
    not_b g.x g.fulls _ c.block_below-2.ensures c.if-not-block_below-2.true

pub returns-then-not-block_below-3 : goal.returns-then-not-block_below-3
returns-then-not-block_below-3 c =
    let g = c.args in
    not_c g.x g.fulls _ c.block_below-3.ensures c.if-not-block_below-3.true

pub returns : goal.returns
returns c =
    let g = c.args in
    as_d g.x g.fulls _ _ _ _
    c.block_below.ensures c.if-not-block_below.false
    c.block_below-2.ensures c.if-not-block_below-2.false
    c.block_below-3.ensures c.if-not-block_below-3.false
    c.block_below-4.ensures
