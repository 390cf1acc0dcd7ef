-- `zero_from` writes zeros one after another: up to i the slice is its old front and zeros.
use Prim.Native.Nat.{◌-◌}
use lib.ListN.{length}
use Rattle.table.proofs.Clearing.{Zeroed}
use Rattle.table.proofs.zero_from.Given as goal

abbrev pub invariant-loop-place : goal.invariant-loop-place
invariant-loop-place l = Zeroed l.initial.t l.at l.t l.place

abbrev pub decreases-loop-place : goal.decreases-loop-place
decreases-loop-place l = length l.t - l.place
