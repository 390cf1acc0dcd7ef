-- `weight_there` meets its contract: the kinds of the two words behind the sign words, then whether their payloads are both 0.
use native.Mathlib.Omega.{arith}
use Rattle.rows.proofs.RowWords.{low_other, high_other, both_0, not_both_0}
use Rattle.rows.proofs.weight_there.Goals as goal

pub returns-then-kind-ne6 : goal.returns-then-kind-ne6
returns-then-kind-ne6 c =
    let g = c.args in
    low_other g.t.now g.at (λ e. omega arith)

pub returns-then-kind-ne12 : goal.returns-then-kind-ne12
returns-then-kind-ne12 c =
    let g = c.args in
    high_other g.t.now g.at (omega arith) (λ e. omega arith)

pub returns-then-payload-eq0 : goal.returns-then-payload-eq0
returns-then-payload-eq0 c =
    let g = c.args in
    both_0 g.t.now g.at (omega arith) (omega arith) (omega arith) (omega arith)

pub returns : goal.returns
returns c =
    let g = c.args in
    not_both_0 g.t.now g.at (omega arith) (omega arith) (omega arith)
