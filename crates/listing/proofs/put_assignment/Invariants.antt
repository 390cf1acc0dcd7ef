-- `put_assignment` puts a line each turn: those of the variables passed stand behind what the buffer held.
use Prim.Native.Nat.{◌+◌, ◌*◌, ◌≤◌}
use Rattle.text.specs.Putting.{Put}
use Rattle.listing.specs.Listed.{variable_lines}
use Rattle.listing.proofs.put_assignment.Given as goal

abbrev pub invariant-loop-v : goal.invariant-loop-v
invariant-loop-v l = Put l.initial.out l.at (variable_lines l.sheet l.plan 0 l.v) l.out l.end × (l.end ≤ l.at + 64 * l.v)
