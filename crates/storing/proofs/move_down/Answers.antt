-- `move_down` meets its contract: the loop keeps that the first i words from `at` on are those of the row behind and the rest is as it was, so each word
-- is read above every place stored so far. The measure is the number of words left.
use Prim.Native.Nat.{◌+◌}
use native.Mathlib.Omega.{arith}
use mathlib.Core.Path.{refl, ◌∙◌}
use lib.ListN.{length-set}
use lib.Seq.{paste-zero}
use Rattle.rows.specs.Raw.{row_width}
use Rattle.storing.proofs.Stores.{copy_next, copy_end, copy_read, behind_long, behind_at}
use Rattle.storing.proofs.move_down.Invariants.{behind}
use Rattle.storing.proofs.move_down.Goals as goal

pub loop-i-init : goal.loop-i-init
loop-i-init c = let g = c.args in (omega arith, refl, paste-zero g.t.now g.at (behind g.t.now g.at))

pub loop-i-preserved : goal.loop-i-preserved
loop-i-preserved c =
    let g = c.args in
    let t = g.t.now in
    let i = c.loop-i.i in
    let long = behind_long t (g.at + row_width) row_width (omega arith) in (
      omega arith,
      simp length-set c.loop-i.invariant.1,
      copy_next t g.at row_width (behind t g.at) long (omega arith) c.loop-i.t i _ c.loop-i.invariant.2 (omega arith)
          (copy_read t g.at row_width i (behind t g.at) c.loop-i.t c.loop-i.invariant.2 (omega arith) (omega arith)
          ∙ behind_at t (g.at + row_width) row_width i (omega arith)),
    )

pub returns : goal.returns
returns c =
    let g = c.args in
    let t = g.t.now in
    let long = behind_long t (g.at + row_width) row_width (omega arith) in
    copy_end t g.at row_width (behind t g.at) long (omega arith) c.loop-i.t c.loop-i.i c.loop-i.invariant.2 (omega arith)

pub shape_of-t : goal.shape_of-t
shape_of-t c = c.loop-i.invariant.1
