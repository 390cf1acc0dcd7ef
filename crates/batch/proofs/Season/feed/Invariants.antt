-- `feed` leads where its bytes do, each turn with those up to the first that brings something to its end.
use Prim.Native.Nat.{◌≤◌, ◌-◌}
use mathlib.Core.Path.{◌≡◌}
use lib.ListN.{length, drop}
use Rattle.batch.specs.Feeding.{fed}
use Rattle.batch.proofs.Season.feed.Given as goal

abbrev pub invariant-loop-at : goal.invariant-loop-at
invariant-loop-at l =
    (fed (record { season = l.initial.season; body = l.initial.body }) l.bytes ≡ fed (record { season = l.season; body = l.body }) (drop l.at l.bytes))
    × (length l.body ≡ length l.initial.body) × (l.at ≤ length l.bytes)

abbrev pub decreases-loop-at : goal.decreases-loop-at
decreases-loop-at l = length l.bytes - l.at
