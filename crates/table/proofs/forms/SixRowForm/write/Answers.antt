-- The words written are those of the row of this clause and weight.
use native.Mathlib.Omega.{arith}
use Rattle.table.proofs.FormWords.{six_written}
use Rattle.table.proofs.forms.SixRowForm.write.Goals as goal

pub returns : goal.returns
returns c =
    six_written c.args.part.now _ c.args.x c.args.weight _ _ c.requires.0 c.write_signs.ensures (omega (arith, c.weight.ensures)) (omega (arith, c.high.ensures))
