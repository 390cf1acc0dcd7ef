-- `used` meets its contract, by either way of its test.
use native.Mathlib.Omega.{arith}
use Rattle.stepping.proofs.Places.{used_one, used_none}
use Rattle.stepping.proofs.used.Goals as goal

pub returns-then-weight-moved : goal.returns-then-weight-moved
returns-then-weight-moved c = (used_one _ _ c.if-weight-moved.true, omega arith)

pub returns : goal.returns
returns c = (used_none _ _ c.if-weight-moved.false, omega arith)
