-- `lessen` meets its contract: a row that the moved weight uses up is removed, any other is given what is left.
use native.Mathlib.Omega.{arith}
use Rattle.stepping.proofs.Places.{weight_read}
use Rattle.stepping.proofs.Writes.{laid_room, taken_all, taken_some}
use Rattle.stepping.proofs.lessen.Goals as goal

pub weight_of-weight-requires : goal.weight_of-weight-requires
weight_of-weight-requires c = omega (arith, laid_room _ _ _ c.requires.0)

pub remove-requires : goal.remove-requires
remove-requires c =
    (c.requires.0, laid_room _ _ _ c.requires.0, omega arith)

pub returns-then-weight-moved : goal.returns-then-weight-moved
returns-then-weight-moved c =
    let g = c.args in
    taken_all g.t.now g.base g.count g.k g.moved _ (omega arith) c.weight_of-weight.ensures.0 c.if-weight-moved.true _ c.remove.ensures

pub overflow_sub-weight : goal.overflow_sub-weight
overflow_sub-weight c =
    let g = c.args in
    omega (arith, weight_read g.t.now g.base g.count g.k _ (omega arith) c.weight_of-weight.ensures.0)

pub reweigh-requires : goal.reweigh-requires
reweigh-requires c =
    (c.requires.0, laid_room _ _ _ c.requires.0, omega arith, omega (arith, c.weight_of-weight.ensures.1))

pub returns : goal.returns
returns c =
    let g = c.args in
    taken_some g.t.now g.base g.count g.k g.moved _ (omega arith) c.weight_of-weight.ensures.0 c.if-weight-moved.false _ c.reweigh.ensures
