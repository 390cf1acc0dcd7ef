-- `write_six` meets its contract: no weight of a five-word row is above the limit of six words.
use native.Mathlib.Omega.{arith}
use Rattle.rows.proofs.Flat.{row_laws}
use Rattle.table.specs.Raws.{standard_form}
use Rattle.table.specs.Five.{five_form}
use Rattle.table.proofs.FiveLaws.{five_laws}
use Rattle.conversion.proofs.Weights.{five_in_six}
use Rattle.conversion.proofs.RowsRewritten.{rewritten_end}
use Rattle.conversion.proofs.rewriting.write_six.Goals as goal

pub write_rows-requires : goal.write_rows-requires
write_rows-requires c = (omega arith, omega arith, c.requires.2, five_in_six _ _)

pub returns : goal.returns
returns c =
    let a = c.args in
    rewritten_end five_form standard_form five_laws row_laws a.source.now a.base a.target.now _ _ c.write_rows.ensures a.count (omega arith)
