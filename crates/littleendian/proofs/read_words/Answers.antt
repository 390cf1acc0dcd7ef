-- `read_words` stores a word each turn: those stored and those of the bytes left are the words of all bytes.
use Prim.Native.Nat.{◌/◌}
use native.Mathlib.Omega.{arith}
use mathlib.Core.Path.{◌≡◌, refl}
use lib.ListN.{length}
use Rattle.littleendian.proofs.Words.{word_stored, words_stored, rest_kept}
use Rattle.littleendian.proofs.read_words.Goals as goal

pub loop-i-preserved : goal.loop-i-preserved
loop-i-preserved c =
    let l = c.loop-i in
    let w = c.word_at.result in (
      word_stored c.args.bytes.now l.words l.i l.invariant.0 w c.word_at.ensures (omega arith) (omega arith),
      rest_kept l.words c.args.words.now l.i w l.invariant.1,
    )

pub returns : goal.returns
returns c =
    let l = c.loop-i in
    let a = c.args in
    let e : l.i ≡ length a.bytes.now / 4 = omega arith in
    (rw (← e) (words_stored a.bytes.now l.words l.i l.invariant.0 (omega arith)), refl, rw (← e) l.invariant.1)
