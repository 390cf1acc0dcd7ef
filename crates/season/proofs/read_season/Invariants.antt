-- `read_season` feeds what it reads, so that the season is what the bytes read lead to; every turn reads at least one of those that a season can have.
use Prim.Native.Nat.{◌-◌}
use mathlib.Core.Path.{◌≡◌}
use lib.ListN.{length}
use Rattle.batch.specs.Theorems.{ReadAs}
use Rattle.batch.proofs.Meaning.{LedBy}
use Rattle.season.proofs.read_season.Given as goal

abbrev pub invariant-loop-done : goal.invariant-loop-done
invariant-loop-done l =
    LedBy l.initial.body (record { season = l.season; body = l.body }) × ReadAs l.initial.body l.season × (length l.body ≡ length l.initial.body) × (length l.piece ≡ length l.initial.piece) × (l.most ≡ 171798691840000)

abbrev pub decreases-loop-done : goal.decreases-loop-done
decreases-loop-done l = l.most - l.done
