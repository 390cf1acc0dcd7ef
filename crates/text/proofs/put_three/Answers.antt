-- `put_three` meets its contract: three numbers with a space between two, and the line end, each put behind the last.
use native.Mathlib.Omega.{arith}
use Rattle.text.specs.Text.{line}
use Rattle.text.proofs.Digits.{put_digits}
use Rattle.text.proofs.Putting.{put_put}
use Rattle.text.proofs.put_three.Goals as goal

pub returns : goal.returns
unfolding line
returns c =
    (put_put _ _ _ _ _ _ _ _ (put_digits _ _ c.args.a _ _ _ (omega arith) c.put_number-one.ensures.0) (put_put _ _ _ _ _ _ _ _ c.put-first.ensures (put_put _ _ _ _ _ _ _ _ (put_digits _ _ c.args.b _ _ _ (omega arith) c.put_number-two.ensures.0) (put_put _ _ _ _ _ _ _ _ c.put-second.ensures (put_put _ _ _ _ _ _ _ _ (put_digits _ _ c.args.c _ _ _ (omega arith) c.put_number-three.ensures.0) c.put.ensures)))), omega arith)
