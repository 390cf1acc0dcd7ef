-- `copy_words` copies word by word: what is still to be copied are the words from the present index on.
use Prim.Native.Nat.{◌+◌}
use mathlib.Core.Path.{◌≡◌}
use lib.ListN.{length, drop}
use lib.Seq.{sets}
use Rattle.making.proofs.copy_words.Given as goal

abbrev pub invariant-loop-i : goal.invariant-loop-i
invariant-loop-i l =
    (length l.target ≡ length l.initial.target)
    × (sets l.initial.target l.at l.words ≡ sets l.target (l.at + l.i) (drop l.i l.words))
