-- `write_weight` meets its contract: the words stored are the weight's low and high one, and the sign words before them stay.
use native.Mathlib.Omega.{arith}
use lib.ListN.{length-set}
use Rattle.storing.proofs.Stores.{weight_stored}
use Rattle.storing.proofs.write_weight.Goals as goal

pub bounds-t-at-2 : goal.bounds-t-at-2
bounds-t-at-2 c = simp length-set (omega arith)

pub returns : goal.returns
returns c =
    let g = c.args in
    weight_stored g.t.now g.at g.weight _ _ (omega arith) (omega (arith, c.weight.ensures)) (omega (arith, c.high.ensures))
