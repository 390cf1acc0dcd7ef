-- The legs counted and those still to come make up the whole.
use Rattle.std.proofs.Common.{◌≡◌, ◌+◌, ◌-◌, ◌*◌, ◌≤◌, drop}
use Rattle.sheet.specs.Sheet.{leg_count}
use Rattle.sheet.proofs.stations.count_legs.Given as goal

abbrev pub invariant-loop-i : goal.invariant-loop-i
invariant-loop-i l = (l.i ≤ 12) × (l.legs ≤ 65025 * l.i) × (l.legs + leg_count (drop (l.i - 1) l.sizes) ≡ leg_count l.sizes)
