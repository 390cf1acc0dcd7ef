-- `remove` meets its contract: the loop keeps `Closing`, and clearing the last place ends it. The measure is the number of rows left to move.
use native.Mathlib.Omega.{arith}
use mathlib.Core.Path.{◌∙◌}
use Rattle.storing.proofs.Closing.{closing_start, closing_next, closing_end}
use Rattle.storing.proofs.remove.Goals as goal

pub loop-j-init : goal.loop-j-init
loop-j-init c =
    closing_start c.args.t.now c.args.base c.args.count c.args.k c.requires.0 (omega arith)

pub loop-j-preserved : goal.loop-j-preserved
loop-j-preserved c =
    let g = c.args in
    closing_next g.t.now g.base g.count g.k c.loop-j.t c.loop-j.j c.loop-j.at c.loop-j.invariant _ (omega arith) c.move_down.ensures

pub shape_of-t : goal.shape_of-t
shape_of-t c = c.clear.auto.t ∙ c.loop-j.invariant.left.long

pub returns : goal.returns
returns c =
    let g = c.args in
    closing_end g.t.now g.base g.count g.k c.loop-j.t c.loop-j.j c.loop-j.at c.loop-j.invariant _ (omega arith) c.clear.ensures
