-- `write_rows` meets its contract: the loop keeps that the target has the first k rows of the source.
use Rattle.conversion.proofs.RowsRewritten.{Rewritten}
use Rattle.conversion.proofs.rewriting.write_rows.Given as goal

abbrev pub invariant-loop-k : goal.invariant-loop-k
invariant-loop-k g l = Rewritten g.S.RowForm.form g.T.RowForm.form l.source l.base l.initial.target l.k l.target
