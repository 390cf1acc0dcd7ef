-- `put_refused` meets its contract: the word, the number and the line end, each put behind the last.
use native.Mathlib.Omega.{arith}
use Rattle.text.specs.Text.{line}
use Rattle.text.proofs.Digits.{put_digits}
use Rattle.text.proofs.Putting.{put_put}
use Rattle.text.proofs.put_refused.Goals as goal

pub returns : goal.returns
unfolding line
returns c =
    (put_put _ _ _ _ _ _ _ _ c.put-head.ensures (put_put _ _ _ _ _ _ _ _ (put_digits _ _ c.args.number _ _ _ (omega arith) c.put_number-end.ensures.0) c.put.ensures), omega arith)
