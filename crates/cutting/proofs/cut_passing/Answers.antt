-- `cut_passing` passes over all of the bytes or as many as are left to pass over.
use Rattle.cutting.proofs.Pieces.{passed_on, passed_over}
use Rattle.cutting.proofs.cut_passing.Goals as goal

pub returns-then-n-left : goal.returns-then-n-left
returns-then-n-left c = λ body. passed_on _ _ body _ c.requires.1 c.min-n.ensures c.if-n-left.true

pub returns : goal.returns
returns c = λ body. passed_over _ _ body _ c.requires.1 c.min-n.ensures c.requires.0 c.if-n-left.false
