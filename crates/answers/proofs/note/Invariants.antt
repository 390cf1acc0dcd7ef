-- The loop of `answers::note`: the fields so far are noted.
use Rattle.std.proofs.Common.{◌≡◌, take}
use Rattle.answers.specs.Noted.{noted}
use Rattle.answers.proofs.note.Given as goal

abbrev pub invariant-loop-i : goal.invariant-loop-i
invariant-loop-i l = l.answer ≡ noted l.initial.answer (take l.i l.fields)
