-- `put_stopped` meets its contract: the first word, the steps, the word, the bound and the line end, each put behind the last.
use native.Mathlib.Omega.{arith}
use mathlib.Core.Path.{ap}
use Rattle.text.specs.Text.{line, stopped_line}
use Rattle.text.proofs.Digits.{put_digits}
use Rattle.text.proofs.Putting.{put_put, put_behind, put_same}
use Rattle.text.proofs.put_stopped.Goals as goal
use Rattle.text.proofs.put_stopped.Goals.{in-Paused, in-Full}

pub returns : goal.returns
unfolding line
returns c =
    elim c.match-stop.branch [
      | in-Paused w ↦ (put_same _ _ _ _ _ _ (ap (λ s. stopped_line s c.args.steps c.args.bound) w.in-Paused.is) (put_behind _ _ _ _ _ _ _ _ _ _ w.out-is w.head-is w.put-head.ensures (put_put _ _ _ _ _ _ _ _ (put_digits _ _ c.args.steps _ _ _ (omega arith) c.put_number-counted.ensures.0) (put_put _ _ _ _ _ _ _ _ c.put-word.ensures (put_put _ _ _ _ _ _ _ _ (put_digits _ _ c.args.bound _ _ _ (omega arith) c.put_number-end.ensures.0) c.put.ensures)))), omega arith)
      | in-Full w ↦ (put_same _ _ _ _ _ _ (ap (λ s. stopped_line s c.args.steps c.args.bound) w.in-Full.is) (put_behind _ _ _ _ _ _ _ _ _ _ w.out-is w.head-is w.put-head-in-Full.ensures (put_put _ _ _ _ _ _ _ _ (put_digits _ _ c.args.steps _ _ _ (omega arith) c.put_number-counted.ensures.0) (put_put _ _ _ _ _ _ _ _ c.put-word.ensures (put_put _ _ _ _ _ _ _ _ (put_digits _ _ c.args.bound _ _ _ (omega arith) c.put_number-end.ensures.0) c.put.ensures)))), omega arith)
    ]
