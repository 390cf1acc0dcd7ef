-- `Clause::clashes` meets its contract: a full sign of the union with nothing at v is a clash.
use Rattle.clause.proofs.Resolving.{clashes_over}
use Rattle.clause.proofs.Clause.clashes.Goals as goal

pub returns : goal.returns
returns c =
    let g = c.args in
    clashes_over g.self g.other g.fulls _ _ g.v _
    c.union.ensures c.replaced.ensures c.is_tautology.ensures
