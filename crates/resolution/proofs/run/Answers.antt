-- `run` meets its contract: an invalid table stays as it is, and a valid one is run for as many steps as the limit and the slice allow.
use native.Mathlib.Omega.{arith}
use mathlib.Core.Path.{◌≡◌}
use mathlib.Core.Bool.{true}
use Rattle.table.specs.Valid.{valid_table}
use Rattle.table.specs.Check.{shape_of}
use Rattle.table.proofs.Tested.{table_valid, table_invalid}
use Rattle.resolution.proofs.Going.{ran_invalid, ran_valid}
use Rattle.resolution.proofs.run.Goals as goal
use Rattle.resolution.proofs.run.Goals.{In-Some}

-- the table was found valid
valid : (k : In-Some)
    → (valid_table k.args.t.now ≡ true) × (k.in-Some.shape ≡ shape_of k.args.t.now)
valid k = table_valid k.args.t.now _ k.check-checked.ensures.returned k.in-Some.shape k.in-Some.is

pub returns-in_default : goal.returns-in_default
returns-in_default c =
    record { returned = ran_invalid c.args.t.now c.args.limit c.args.slice.now (table_invalid _ _ c.check-checked.ensures.returned c.in_default.is) }

pub run_valid-requires : goal.run_valid-requires
run_valid-requires c =
    let v = valid (goal.at.run_valid-requires c).In-Some in
    (v.0, v.1, omega (arith, c.min-most.ensures))

pub returns : goal.returns
returns c =
    record { returned = ran_valid c.args.t.now c.args.limit c.args.slice.now (valid (goal.at.returns c).In-Some).0 _ c.min-most.ensures _ _ _ c.run_valid.ensures.0 }
