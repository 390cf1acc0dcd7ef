-- A sheet that is not planned does not lead.
use Rattle.figures.proofs.Counting.{leads-not}
use Rattle.figures.proofs.Figures.is_leading.Goals as goal

pub returns-else-column-eq-PLANNED : goal.returns-else-column-eq-PLANNED
returns-else-column-eq-PLANNED c = leads-not _ _ _ c.if-column-eq-PLANNED.false
