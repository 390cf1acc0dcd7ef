-- `copy_words` copies word by word: what is still to be copied are the words from the present index on.
use native.Mathlib.Omega.{arith}
use mathlib.Core.Path.{refl}
use lib.ListN.{length-set}
use Rattle.making.proofs.Writing.{copy_next, copy_ends}
use Rattle.making.proofs.copy_words.Goals as goal

pub loop-i-preserved : goal.loop-i-preserved
loop-i-preserved c =
    let l = c.loop-i in
    (simp length-set l.invariant.0, copy_next _ l.target c.args.words.now c.args.at l.i l.invariant.1 c.loop-i-test.true)

pub returns : goal.returns
returns c = let l = c.loop-i in copy_ends _ l.target c.args.words.now _ l.i l.invariant.1 (omega arith)
