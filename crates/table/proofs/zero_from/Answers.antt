-- `zero_from` writes zeros one after another: up to i the slice is its old front and zeros.
use native.Mathlib.Omega.{arith}
use lib.ListN.{length-set}
use Rattle.table.proofs.Clearing.{zeroed_start, zeroed_next, zeroed_end}
use Rattle.table.proofs.zero_from.Goals as goal

pub loop-place-init : goal.loop-place-init
loop-place-init c = zeroed_start _ _ (omega arith)

pub loop-place-smaller : goal.loop-place-smaller
loop-place-smaller c = simp length-set (omega arith)

pub loop-place-preserved : goal.loop-place-preserved
loop-place-preserved c = zeroed_next _ _ _ _ c.loop-place.invariant (omega arith)

pub returns : goal.returns
returns c = zeroed_end _ _ _ _ c.loop-place.invariant (omega arith)

pub shape_of-t : goal.shape_of-t
shape_of-t c = c.loop-place.invariant.long
