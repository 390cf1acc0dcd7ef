-- `write_front` writes the head, then the size words one after another: what is still to come are the sizes from the present one on.
use Rattle.std.proofs.Common.{◌≡◌, ◌+◌, length, drop, map}
use Rattle.std.proofs.lemmas.List.Edits.{sets}
use Rattle.words.specs.Layout.{size_word}
use Rattle.fields.proofs.write_front.Given as goal

abbrev pub invariant-loop-i : goal.invariant-loop-i
invariant-loop-i l =
    (length l.target ≡ length l.initial.target)
    × (sets l.initial.target 1 (map size_word l.sizes) ≡ sets l.target (l.i + 1) (map size_word (drop l.i l.sizes)))
