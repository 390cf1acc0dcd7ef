-- `Clause::equals` meets its contract: equal signs make equal blocks, so the first block that differs decides.
use native.Mathlib.Omega.{arith}
use Rattle.clause.proofs.Signs12.{other_a, other_b, other_c, other_d}
use Rattle.clause.proofs.Clause.equals.Goals as goal

pub returns-then-self-other : goal.returns-then-self-other
returns-then-self-other c = let g = c.args in other_a g.self g.other c.if-self-other.true

pub returns-then-self-other-2 : goal.returns-then-self-other-2
returns-then-self-other-2 c =
    let g = c.args in
    other_b g.self g.other c.if-self-other-2.true

pub returns-then-self-other-3 : goal.returns-then-self-other-3
returns-then-self-other-3 c =
    let g = c.args in
    other_c g.self g.other c.if-self-other-3.true

pub returns : goal.returns
returns c =
    let g = c.args in
    other_d g.self g.other (omega arith) (omega arith) (omega arith)
