-- `room` answers the capacity in six-word rows.
use native.Mathlib.Omega.{arith}
use Rattle.table.specs.Layout.{capacity_in}
use Rattle.table.proofs.room.Goals as goal

pub returns : goal.returns
unfolding capacity_in
returns c = c.rows_in.ensures

pub rows_in-requires : goal.rows_in-requires
rows_in-requires c = (c.requires, omega arith)
