-- `Clause::lowest` meets its contract: the blocks before the first one that is not 0 have no sign.
use native.Mathlib.Omega.{arith}
use Rattle.clause.proofs.Signs12.{lowest_a, lowest_b, lowest_c, lowest_d}
use Rattle.clause.proofs.Clause.lowest.Goals as goal

pub returns-then-self-ne0 : goal.returns-then-self-ne0
returns-then-self-ne0 c =
    let g = c.args in
    lowest_a g.self _ c.first_in.ensures c.if-self-ne0.true

pub returns-then-self-ne0-2 : goal.returns-then-self-ne0-2
returns-then-self-ne0-2 c =
    let g = c.args in
    lowest_b g.self _ c.first_in-then-self-ne0-2.ensures (omega arith) c.if-self-ne0-2.true

pub returns-then-self-ne0-3 : goal.returns-then-self-ne0-3
returns-then-self-ne0-3 c =
    let g = c.args in
    lowest_c g.self _ c.first_in-then-self-ne0-3.ensures (omega arith) (omega arith) c.if-self-ne0-3.true

pub returns : goal.returns
returns c =
    let g = c.args in
    lowest_d g.self _ c.first_in-2.ensures (omega arith) (omega arith) (omega arith)
