-- `behind_sheet` counts what the bytes come to: every ending of a sheet has a column, and no least cost is too great.
use Rattle.batch.proofs.Columns.{bytes_countable}
use Rattle.batch.proofs.Season.behind_sheet.Goals as goal

pub behind-requires-clause-figures_value : goal.behind-requires-clause-figures_value
behind-requires-clause-figures_value c =
    (c.requires, (bytes_countable c.args.bytes.now _ _ c.solve-solved.ensures.returned c.column.ensures).0)

pub behind-requires-clause-cost_le_greatest_allowed :
    goal.behind-requires-clause-cost_le_greatest_allowed
behind-requires-clause-cost_le_greatest_allowed c =
    (bytes_countable c.args.bytes.now _ _ c.solve-solved.ensures.returned c.column.ensures).1
