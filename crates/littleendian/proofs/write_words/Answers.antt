-- `write_words` stores a word's bytes each turn: with those of the words left they are the bytes of all words.
use native.Mathlib.Omega.{arith}
use Rattle.littleendian.proofs.Writing.{word_written, words_written}
use Rattle.littleendian.proofs.write_words.Goals as goal

pub loop-i-preserved : goal.loop-i-preserved
loop-i-preserved c =
    let w = c.write_word in
    let a = c.args in
    word_written a.words.now a.bytes.now c.loop-i.bytes c.loop-i.i c.loop-i.invariant w.new.bytes (omega arith) w.ensures

pub returns : goal.returns
returns c =
    let l = c.loop-i in
    words_written c.args.words.now c.args.bytes.now l.bytes l.i l.invariant (omega arith) c.requires
