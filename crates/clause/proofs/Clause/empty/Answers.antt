-- `Clause::empty` meets its contract: every byte of 0 is 0.
use Rattle.clause.proofs.Signs12.{empty_holds}
use Rattle.clause.proofs.Clause.empty.Goals as goal

pub returns : goal.returns
returns c = empty_holds
