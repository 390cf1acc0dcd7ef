-- The words written are those of the row of this clause and weight.
use Rattle.table.proofs.FormWords.{five_written}
use Rattle.table.proofs.forms.FiveRowForm.write.Goals as goal

pub returns : goal.returns
returns c =
    five_written c.args.part.now _ c.args.x c.args.weight _ c.requires.0 c.write_signs.ensures c.weight.ensures
