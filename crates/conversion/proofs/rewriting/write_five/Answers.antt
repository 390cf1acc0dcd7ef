-- `write_five` meets its contract: what is asked of it is what the rewriting of any two forms asks.
use native.Mathlib.Omega.{arith}
use Rattle.table.specs.Raws.{standard_form}
use Rattle.table.specs.SixLaws.{table_laws}
use Rattle.table.specs.Five.{five_form}
use Rattle.table.proofs.FiveLaws.{five_row_laws}
use Rattle.conversion.proofs.RowsRewritten.{rewritten_end}
use Rattle.conversion.proofs.rewriting.write_five.Goals as goal

pub returns : goal.returns
returns c =
    let a = c.args in
    rewritten_end standard_form five_form table_laws five_row_laws a.source.now a.base a.target.now _ _ c.write_rows.ensures a.count (omega arith)
