-- `Clause::is_tautology` meets its contract: the first block with a full sign decides, or the last block's test.
use Rattle.clause.proofs.Resolving.{full_a, full_b, full_c, full_d}
use Rattle.clause.proofs.Clause.is_tautology.Goals as goal

pub returns-then-block_full : goal.returns-then-block_full
returns-then-block_full c =
    let g = c.args in
    full_a g.self g.fulls _ c.block_full.ensures c.if-block_full.true

pub returns-then-block_full-2 : goal.returns-then-block_full-2
returns-then-block_full-2 c =
    let g = c.args in
    full_b g.self g.fulls _ c.block_full-2.ensures c.if-block_full-2.true

pub returns-then-block_full-3 : goal.returns-then-block_full-3
returns-then-block_full-3 c =
    let g = c.args in
    full_c g.self g.fulls _ c.block_full-3.ensures c.if-block_full-3.true

pub returns : goal.returns
returns c =
    let g = c.args in
    full_d g.self g.fulls _ _ _ _
    c.block_full.ensures c.if-block_full.false
    c.block_full-2.ensures c.if-block_full-2.false
    c.block_full-3.ensures c.if-block_full-3.false
    c.block_full-4.ensures
