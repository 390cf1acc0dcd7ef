-- `too_wide` meets its contract: the loop keeps that no row before k weighs more.
use Rattle.conversion.proofs.Weights.{Light}
use Rattle.conversion.proofs.rewriting.too_wide.Given as goal

abbrev pub invariant-loop-k : goal.invariant-loop-k
invariant-loop-k g l = Light g.S.RowForm.form l.most l.t l.base l.k
