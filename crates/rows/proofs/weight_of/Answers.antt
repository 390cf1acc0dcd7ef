-- `weight_of` meets its contract: it answers the payloads of the low and the high word as one number.
use native.Mathlib.Omega.{arith}
use Rattle.rows.specs.Raw.{raw_at, weight_in}
use Rattle.rows.proofs.weight_of.Goals as goal

pub returns : goal.returns
unfolding raw_at weight_in
returns c = (omega arith, omega arith)
