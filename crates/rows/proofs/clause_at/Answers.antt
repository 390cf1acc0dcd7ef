-- `clause_at` meets its contract: its blocks are the low 24 bits of the words read, so the clause is packed.
use native.Mathlib.Omega.{arith}
use mathlib.Core.Path.{refl}
use Rattle.rows.specs.Raw.{raw_at}
use Rattle.rows.proofs.clause_at.Goals as goal

pub returns : goal.returns
unfolding raw_at
returns c = (refl, record { a = omega arith; b = omega arith; c = omega arith; d = omega arith })
