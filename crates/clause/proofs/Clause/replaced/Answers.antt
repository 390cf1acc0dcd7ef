-- `Clause::replaced` meets its contract: variable v is at place v % 3 of its block, and the other blocks stay.
use Prim.Native.Nat.{◌%◌}
use native.Mathlib.Omega.{arith}
use Rattle.clause.proofs.Signs12.{replaced_a, replaced_b, replaced_c, replaced_d}
use Rattle.clause.proofs.Clause.replaced.Goals as goal

pub returns-in-0-to-2 : goal.returns-in-0-to-2
returns-in-0-to-2 c =
    let g = c.args in
    replaced_a g.self g.v (g.v % 3) g.sign _ c.requires.0
    c.block_with.ensures (omega arith) (omega arith)

pub returns-in-3-to-5 : goal.returns-in-3-to-5
returns-in-3-to-5 c =
    let g = c.args in
    replaced_b g.self g.v (g.v % 3) g.sign _ c.requires.0
    c.block_with-in-3-to-5.ensures (omega arith) (omega arith)

pub returns-in-6-to-8 : goal.returns-in-6-to-8
returns-in-6-to-8 c =
    let g = c.args in
    replaced_c g.self g.v (g.v % 3) g.sign _ c.requires.0
    c.block_with-in-6-to-8.ensures (omega arith) (omega arith)

pub returns-in-9-to-4294967295 : goal.returns-in-9-to-4294967295
returns-in-9-to-4294967295 c =
    let g = c.args in
    replaced_d g.self g.v (g.v % 3) g.sign _ c.requires.0
    c.block_with-in-9-to-4294967295.ensures (omega arith)
