-- `read_words` stores a word each turn: those stored and those of the bytes left are the words of all bytes.
use Prim.Native.Nat.{◌*◌}
use mathlib.Core.Path.{◌≡◌}
use mathlib.Core.List.{◌++◌}
use lib.ListN.{take, drop}
use Rattle.littleendian.specs.Words.{words_in}
use Rattle.littleendian.proofs.read_words.Given as goal

abbrev pub invariant-loop-i : goal.invariant-loop-i
invariant-loop-i l =
    (take l.i l.words ++ words_in (drop (4 * l.i) l.bytes) ≡ words_in l.bytes) × (drop l.i l.words ≡ drop l.i l.initial.words)
