-- `clear` meets its contract: the loop keeps that the first i words from `at` on are zeros and the rest is as it was. The measure is the number of words left.
use native.Mathlib.Omega.{arith}
use mathlib.Core.Path.{refl}
use lib.ListN.{replicate, length-set}
use lib.Seq.{paste-zero}
use Rattle.rows.specs.Raw.{row_width}
use Rattle.storing.proofs.Stores.{copy_next, copy_end, zero-at}
use Rattle.storing.proofs.clear.Goals as goal

pub loop-i-init : goal.loop-i-init
loop-i-init c = let g = c.args in (omega arith, refl, paste-zero g.t.now g.at (replicate row_width 0))

pub loop-i-preserved : goal.loop-i-preserved
loop-i-preserved c =
    let g = c.args in (
      omega arith,
      simp length-set c.loop-i.invariant.1,
      copy_next g.t.now g.at row_width (replicate row_width 0) refl (omega arith) c.loop-i.t c.loop-i.i 0 c.loop-i.invariant.2 (omega arith) (zero-at row_width c.loop-i.i (omega arith)),
    )

pub returns : goal.returns
returns c =
    let g = c.args in
    copy_end g.t.now g.at row_width (replicate row_width 0) refl (omega arith) c.loop-i.t c.loop-i.i c.loop-i.invariant.2 (omega arith)

pub shape_of-t : goal.shape_of-t
shape_of-t c = c.loop-i.invariant.1
