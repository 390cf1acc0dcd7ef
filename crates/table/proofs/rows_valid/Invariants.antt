-- `rows_valid` meets its contract. The loop keeps, for all sizes with these full signs, that the rows before k are valid and differ in their signs.
use Rattle.table.proofs.FormTests.{TestedFor}
use Rattle.table.proofs.rows_valid.Given as goal

abbrev pub invariant-loop-k : goal.invariant-loop-k
invariant-loop-k g l = TestedFor g.F.RowForm.form l.fulls l.t l.base l.k
