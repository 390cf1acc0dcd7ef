-- `check_length` meets its contract: each `return` is the first of the tests that applies.
use native.Mathlib.Omega.{arith}
use Rattle.verifying.proofs.Verdicts.{over, uneven, even}
use Rattle.verifying.proofs.check_length.Goals as goal

pub returns-then-most-bytes : goal.returns-then-most-bytes
returns-then-most-bytes c = over _ _ c.args.bytes.now (omega arith)

pub returns-then-bytes-ne0 : goal.returns-then-bytes-ne0
returns-then-bytes-ne0 c = uneven _ _ c.args.bytes.now (omega arith) (λ z. omega (arith, z, c.if-bytes-ne0.true))

pub returns : goal.returns
returns c = even _ _ c.args.bytes.now (omega arith) (omega arith)
