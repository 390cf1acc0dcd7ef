-- `drive` meets its contract. The loop's invariant: the words from `w` on do to what the slices hold what all the words do to the encoding.
use mathlib.Core.Path.{◌≡◌}
use lib.ListN.{length}
use Rattle.calls.proofs.Driving.{Going}
use Rattle.calls.proofs.drive.Given as goal

abbrev pub invariant-loop-w : goal.invariant-loop-w
invariant-loop-w l =
    (length l.t ≡ length l.initial.t) × (length l.out ≡ length l.initial.out) × (length l.target ≡ length l.initial.target)
    × Going l.initial.t l.initial.out l.initial.target l.calls l.t l.out l.made l.target l.w-index
