-- `write_legs_to` writes the legs from one position: each turn stores the next leg's words, and the rest is still to come.
use Prim.Native.Nat.{◌+◌, ◌*◌, ◌-◌}
use mathlib.Core.Path.{◌≡◌}
use lib.ListN.{length, drop}
use lib.Seq.{sets}
use Rattle.sheet.specs.Sheet.{points_from}
use Rattle.making.specs.Made.{all_leg_words, legs_to}
use Rattle.sheet.specs.Places.{point_of}
use Rattle.making.proofs.legs.write_legs_to.Given as goal

abbrev pub invariant-loop-b : goal.invariant-loop-b
invariant-loop-b l =
    (length l.target ≡ length l.initial.target)
    × (sets l.initial.target l.at (all_leg_words (legs_to l.variable l.value (point_of l.start) 0 (points_from l.next.size (drop l.next.at l.sheet))))
    ≡ sets l.target (l.at + 3 * l.b) (all_leg_words (legs_to l.variable l.value (point_of l.start) l.b (points_from (l.next.size - l.b) (drop (l.next.at + 2 * l.b) l.sheet)))))
