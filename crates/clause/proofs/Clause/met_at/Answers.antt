-- `Clause::met_at` meets its contract: the meet is put into the union.
use native.Mathlib.Omega.{arith}
use Rattle.clause.proofs.Resolving.{met_holds, met_small}
use Rattle.clause.proofs.Clause.met_at.Goals as goal

pub replaced-requires : goal.replaced-requires
replaced-requires c =
    (c.union.ensures.packed, omega arith, met_small c.sign.result c.sign-2.result c.sign.ensures.1)

pub returns : goal.returns
returns c =
    let g = c.args in
    met_holds g.self g.other _ _ g.v c.sign.result c.sign-2.result c.union.ensures
    c.sign.ensures.0 c.sign-2.ensures.0 c.replaced.ensures
