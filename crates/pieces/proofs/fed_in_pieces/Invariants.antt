-- `fed_in_pieces` feeds every byte once, so its line is that of all bytes.
use Prim.Native.Nat.{◌-◌, ◌≤◌}
use mathlib.Core.Path.{◌≡◌}
use lib.ListN.{length, drop}
use Rattle.batch.specs.Feeding.{started_season, fed}
use Rattle.pieces.proofs.fed_in_pieces.Given as goal

abbrev pub invariant-loop-at : goal.invariant-loop-at
invariant-loop-at l =
    (fed (record { season = started_season; body = l.initial.body }) l.bytes ≡ fed (record { season = l.season; body = l.body }) (drop l.at l.bytes))
    × (length l.body ≡ length l.initial.body) × (l.at ≤ length l.bytes)

abbrev pub decreases-loop-at : goal.decreases-loop-at
decreases-loop-at l = length l.bytes - l.at
