-- `Clause::complemented` meets its contract: what is put in is the full sign less the sign read.
use Rattle.clause.proofs.Resolving.{complemented_holds}
use Rattle.clause.proofs.Clause.complemented.Goals as goal

pub returns : goal.returns
returns c =
    let g = c.args in
    complemented_holds g.self _ g.v _ g.full c.replaced-self.ensures c.sign.ensures.0
