-- `seen` goes through the words: up to word i no entry of cost above 0 has the clause.
use Prim.Native.Nat.{◌-◌, ◌≤◌}
use Rattle.clause.specs.Packed.{signs_of}
use Rattle.encoding.proofs.Looking.{Unseen}
use Rattle.encoding.proofs.seen.Given as goal

abbrev pub invariant-loop-i : goal.invariant-loop-i
invariant-loop-i l = Unseen (signs_of l.fulls) l.at l.instance (signs_of l.clause) l.pending l.i × (l.i ≤ l.end)
