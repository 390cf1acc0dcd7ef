-- `encode_entries` goes through the words: the table carries the rows of those passed.
use Prim.Native.Nat.{◌-◌}
use lib.ListN.{length}
use Rattle.clause.specs.Packed.{signs_of}
use Rattle.encoding.proofs.Writing.{Written}
use Rattle.encoding.proofs.encode_entries.Given as goal

abbrev pub invariant-loop-i : goal.invariant-loop-i
invariant-loop-i l = Written (signs_of l.fulls) l.at l.instance l.initial.t l.base l.pending l.count l.t l.i
