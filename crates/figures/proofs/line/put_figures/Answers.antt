-- `put_figures` meets its contract: the counts, a space behind each, then the line of the other three numbers.
use native.Mathlib.Omega.{arith}
use Rattle.figures.proofs.Spaces.{line_put, three_put}
use Rattle.figures.proofs.line.put_figures.Goals as goal

pub returns : goal.returns
returns c =
    let a = c.args in
    let f = a.figures in
    (line_put f.counts f.sum f.largest f.first a.out.now 0 _ _ _ _ c.put_counts-head.ensures.0 (three_put _ _ f.sum f.largest f.first _ _ _ _ _ (omega arith) (omega arith) (omega arith) c.put_three.ensures.0), omega arith)
