-- `place` answers the coordinate of its payload: one law for each of the three ranges.
use native.Mathlib.Omega.{arith}
use Rattle.words.proofs.Coordinates.{at_up, outside}
use Rattle.words.proofs.place.Goals as goal

pub returns-then-p-le1000000 : goal.returns-then-p-le1000000
returns-then-p-le1000000 c = at_up _ (omega arith)

pub returns : goal.returns
returns c = outside _ (omega arith) (omega arith)
