-- `Clause::sign` meets its contract: variable v is at place v % 3 of its block.
use Prim.Native.Nat.{◌%◌}
use native.Mathlib.Omega.{arith}
use Rattle.clause.proofs.Signs12.{sign_a, sign_b, sign_c, sign_d}
use Rattle.clause.proofs.Clause.sign.Goals as goal

pub returns-in-0-to-2 : goal.returns-in-0-to-2
returns-in-0-to-2 c =
    let g = c.args in
    sign_a g.self g.v (g.v % 3) _ c.sign_in.ensures (omega arith) (omega arith)

pub returns-in-3-to-5 : goal.returns-in-3-to-5
returns-in-3-to-5 c =
    let g = c.args in
    sign_b g.self g.v (g.v % 3) _ c.sign_in-in-3-to-5.ensures (omega arith) (omega arith)

pub returns-in-6-to-8 : goal.returns-in-6-to-8
returns-in-6-to-8 c =
    let g = c.args in
    sign_c g.self g.v (g.v % 3) _ c.sign_in-in-6-to-8.ensures (omega arith) (omega arith)

pub returns-in-9-to-4294967295 : goal.returns-in-9-to-4294967295
returns-in-9-to-4294967295 c =
    let g = c.args in
    sign_d g.self g.v (g.v % 3) _ c.sign_in-in-9-to-4294967295.ensures (omega arith)
