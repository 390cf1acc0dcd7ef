-- `conclusions::keep` meets its contract: a tautology leaves the buffer as it is, any other clause is stored behind the k before it.
use Prim.Native.Nat.{◌*◌}
use native.Mathlib.Omega.{arith}
use Rattle.conclusions.proofs.Filling.{keep_none, keep_one, packed-stored}
use Rattle.conclusions.proofs.keep.Goals as goal

pub returns-then-is_tautology : goal.returns-then-is_tautology
returns-then-is_tautology c =
    let g = c.args in
    (keep_none g.buffer.now g.k g.x g.fulls _ c.is_tautology.ensures c.if-is_tautology.true, omega arith, c.requires.3)

pub returns : goal.returns
returns c =
    let g = c.args in (
      keep_one g.buffer.now g.k g.x g.fulls _ c.is_tautology.ensures c.if-is_tautology.false (omega arith) c.requires.3,
      omega arith,
      packed-stored g.buffer.now (4 * g.k) g.x c.requires.1 c.requires.3,
    )
