-- `put_counts` puts a count and a space each turn: those of the counts passed stand behind what the buffer held, 21 bytes for each at most.
use Prim.Native.Nat.{◌+◌, ◌*◌, ◌≤◌}
use lib.ListN.{take}
use Rattle.text.specs.Putting.{Put}
use Rattle.figures.specs.Line.{spaced}
use Rattle.figures.proofs.line.put_counts.Given as goal

abbrev pub invariant-loop-count : goal.invariant-loop-count
invariant-loop-count l = Put l.initial.out l.at (spaced (take l.count-index l.counts)) l.out l.end × (l.end ≤ l.at + 21 * l.count-index)
