-- `write_legs_between` writes the legs between two variables: each turn stores those of the next value, and the rest is still to come.
use Prim.Native.Nat.{◌+◌, ◌*◌, ◌-◌}
use mathlib.Core.Path.{◌≡◌}
use lib.ListN.{length, drop}
use lib.Seq.{sets}
use Rattle.sheet.specs.Sheet.{points_from}
use Rattle.making.specs.Made.{all_leg_words, legs_between}
use Rattle.making.proofs.legs.write_legs_between.Given as goal

abbrev pub invariant-loop-a : goal.invariant-loop-a
invariant-loop-a l =
    (l.o ≡ l.at + 3 * (l.a * l.next.size)) × (length l.target ≡ length l.initial.target)
    × (sets l.initial.target l.at (all_leg_words (legs_between l.variable 0 (points_from l.these.size (drop l.these.at l.sheet)) (points_from l.next.size (drop l.next.at l.sheet))))
    ≡ sets l.target l.o (all_leg_words (legs_between l.variable l.a (points_from (l.these.size - l.a) (drop (l.these.at + 2 * l.a) l.sheet)) (points_from l.next.size (drop l.next.at l.sheet)))))
