-- `word_at` meets its contract: each test leaves one place.
use native.Mathlib.Omega.{arith}
use Rattle.rows.proofs.RowWords.{word_first, word_second, word_third, word_fourth}
use Rattle.rows.proofs.word_at.Goals as goal

pub returns-then-k-eq0 : goal.returns-then-k-eq0
returns-then-k-eq0 c = let g = c.args in word_first g.a g.b g.c g.d g.k (omega arith)

pub returns-then-k-eq1 : goal.returns-then-k-eq1
returns-then-k-eq1 c = let g = c.args in word_second g.a g.b g.c g.d g.k (omega arith)

pub returns-then-k-eq2 : goal.returns-then-k-eq2
returns-then-k-eq2 c = let g = c.args in word_third g.a g.b g.c g.d g.k (omega arith)

pub returns : goal.returns
returns c = let g = c.args in word_fourth g.a g.b g.c g.d g.k (omega arith)
