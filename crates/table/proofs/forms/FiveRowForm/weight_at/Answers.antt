-- The payload of the weight's word is the weight that the row there says.
use Rattle.table.specs.Five.{five_at, five_row_of}
use Rattle.table.proofs.forms.FiveRowForm.weight_at.Goals as goal

pub returns : goal.returns
unfolding five_at five_row_of
returns c = c.payload.ensures.0
