-- `append_in` meets its contract: what the row writer leaves of the part lent to it, put back, is one more raw row in the table.
use native.Mathlib.Omega.{arith}
use Rattle.storing.proofs.FormTables.{row_lent_wide}
use Rattle.storing.proofs.append_in.Goals as goal

pub returns : goal.returns
returns g c =
    let a = c.args in
    row_lent_wide g.F.RowForm.form.rows g.met.F.RowForm.laws.form _ a.t.now a.base a.count _ c.write.new.part
    c.requires.0 c.requires.1 c.write.ensures (grind (arith, g.met.F.RowForm.width_ok))
