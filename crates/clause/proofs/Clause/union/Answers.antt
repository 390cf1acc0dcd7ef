-- `Clause::union` meets its contract: the four blocks are joined bit by bit.
use Rattle.clause.proofs.Signs12.{union_holds}
use Rattle.clause.proofs.Clause.union.Goals as goal

pub returns : goal.returns
returns c =
    union_holds c.args.self c.args.other c.requires.0 c.requires.1
