-- `wrapped` answers the payload of its offset: one law for each side of zero.
use native.Mathlib.Omega.{arith}
use Rattle.words.proofs.Coordinates.{payload_up, payload_down}
use Rattle.words.proofs.wrapped.Goals as goal

pub returns-then-offset-ge1000000 : goal.returns-then-offset-ge1000000
returns-then-offset-ge1000000 c = (payload_up _ (omega arith), omega arith)

pub returns : goal.returns
returns c = (payload_down _ (omega arith), omega arith)
