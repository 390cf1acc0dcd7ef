-- `write_legs` walks over the stations: each turn writes the legs between one and the next, and the rest is still to come.
use Prim.Native.Nat.{◌+◌, ◌*◌, ◌-◌}
use mathlib.Core.Path.{◌≡◌}
use lib.ListN.{length}
use lib.Seq.{sets}
use Rattle.sheet.specs.Sheet.{leg_count, positions_of, sheet_sizes}
use Rattle.making.specs.Made.{all_leg_words, legs_from}
use Rattle.making.proofs.Writing.{legs_ahead, Left}
use Rattle.making.proofs.legs.write_legs.Given as goal

abbrev pub invariant-loop-i : goal.invariant-loop-i
invariant-loop-i l =
    Left l.sheet l.n l.i l.from l.o (l.at + 3 * leg_count (sheet_sizes l.sheet)) × (length l.target ≡ length l.initial.target)
    × (sets l.initial.target l.at (all_leg_words (legs_from 0 (positions_of l.sheet))) ≡ sets l.target l.o (all_leg_words (legs_ahead l.sheet l.i (l.n - l.i) l.from)))
