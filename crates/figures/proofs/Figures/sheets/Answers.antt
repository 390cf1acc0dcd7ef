-- The counts add up to the sheets.
use Rattle.std.proofs.Common.{◌∙◌}
use Rattle.figures.proofs.Counting.{sum_of_sum}
use Rattle.figures.proofs.Figures.sheets.Goals as goal

pub returns : goal.returns
returns c = c.total.ensures ∙ sum_of_sum c.args.self.now.counts
