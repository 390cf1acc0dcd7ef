-- `put_counts` puts a count and a space each turn: those of the counts passed stand behind what the buffer held, 21 bytes for each at most.
use native.Mathlib.Omega.{arith}
use lib.Seq.{take_all}
use Rattle.figures.proofs.Spaces.{none_put, count_put}
use Rattle.figures.proofs.line.put_counts.Goals as goal

pub loop-count-init : goal.loop-count-init
loop-count-init c = (none_put _ _, omega arith)

pub loop-count-preserved : goal.loop-count-preserved
loop-count-preserved c =
    let l = c.loop-count in
    let a = c.args in (
      count_put a.counts.now _ _ l.count-index _ _ _ _ _ _ (omega arith) l.invariant.0 (rw c.from.ensures at c.put_number-digits.ensures.0) c.put-end.ensures,
      omega arith,
    )

pub returns : goal.returns
returns c =
    let l = c.loop-count in
    let e = take_all l.count-index c.args.counts.now (omega arith) in
    (rw e at l.invariant.0, omega arith)
