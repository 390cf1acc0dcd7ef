-- `write_words` stores a word's bytes each turn: with those of the words left they are the bytes of all words.
use Prim.Native.Nat.{◌*◌}
use mathlib.Core.Path.{◌≡◌}
use lib.ListN.{drop}
use lib.Seq.{sets}
use Rattle.littleendian.specs.Words.{bytes_of}
use Rattle.littleendian.proofs.write_words.Given as goal

abbrev pub invariant-loop-i : goal.invariant-loop-i
invariant-loop-i l = sets l.bytes (4 * l.i) (bytes_of (drop l.i l.words)) ≡ sets l.initial.bytes 0 (bytes_of l.words)
