-- `conclusions::clause_at` meets its contract: the four blocks from 4m on are those of clause m.
use native.Mathlib.Omega.{arith}
use Rattle.conclusions.proofs.Filling.{read_holds}
use Rattle.conclusions.proofs.clause_at.Goals as goal

pub returns : goal.returns
returns c =
    read_holds c.args.buffer.now c.args.m (omega arith) c.requires.1
