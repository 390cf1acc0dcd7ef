-- `signs_there` meets its contract: the kinds and indices of the four words, one after the other.
use native.Mathlib.Omega.{arith}
use Rattle.table.proofs.RowTests.{other_a, other_b, other_c, as_fourth}
use Rattle.table.proofs.signs_there.Goals as goal

pub returns-then-t-at-ne80 : goal.returns-then-t-at-ne80
returns-then-t-at-ne80 c = let g = c.args in other_a g.t.now g.at c.if-t-at-ne80.true

pub returns-then-t-at-ne81 : goal.returns-then-t-at-ne81
returns-then-t-at-ne81 c = let g = c.args in other_b g.t.now g.at (omega arith) c.if-t-at-ne81.true

pub returns-then-t-at-ne82 : goal.returns-then-t-at-ne82
returns-then-t-at-ne82 c = let g = c.args in other_c g.t.now g.at (omega arith) (omega arith) c.if-t-at-ne82.true

pub returns : goal.returns
returns c =
    let g = c.args in
    as_fourth g.t.now g.at (omega arith) (omega arith) (omega arith)
