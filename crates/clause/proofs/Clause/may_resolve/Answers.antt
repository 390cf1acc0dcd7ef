-- `Clause::may_resolve` meets its contract: the signs at v are not nested, and the clauses do not clash elsewhere.
use Rattle.clause.proofs.Resolving.{refused, allowed}
use Rattle.clause.proofs.Clause.may_resolve.Goals as goal

pub returns-then-nest : goal.returns-then-nest
returns-then-nest c =
    let g = c.args in
    refused g.self g.other g.fulls g.v _ _ _ c.sign.ensures.0 c.sign-2.ensures.0
    c.nest.ensures c.if-nest.true

pub returns : goal.returns
returns c =
    let g = c.args in
    allowed g.self g.other g.fulls g.v _ _ _ c.sign.ensures.0 c.sign-2.ensures.0
    c.nest.ensures c.if-nest.false _ c.clashes.ensures
