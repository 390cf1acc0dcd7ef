-- `start` meets its contract: the loop keeps that the first i words are the source's and the others the target's own.
use native.Mathlib.Omega.{arith}
use Rattle.conversion.proofs.Starting.{copied_next}
use Rattle.conversion.proofs.rewriting.start.Goals as goal

pub loop-i-preserved : goal.loop-i-preserved
loop-i-preserved c = copied_next c.args.source.now c.args.target.now c.loop-i.target c.loop-i.i c.loop-i.invariant (omega arith) (omega arith)
