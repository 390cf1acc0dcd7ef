-- `head_in` reads a word by its kind and payload.
use native.Mathlib.Omega.{arith}
use Rattle.table.specs.WordKinds.{head_other, head_high, head_read}
use Rattle.table.proofs.head_in.Goals as goal

pub returns-then-kind-ne1 : goal.returns-then-kind-ne1
returns-then-kind-ne1 c = head_other _ _ c.kind.ensures.0 (omega arith)

pub returns-then-n-gt-MAX_VARIABLES : goal.returns-then-n-gt-MAX_VARIABLES
returns-then-n-gt-MAX_VARIABLES c = head_high _ _ c.kind.ensures.0 _ c.payload-n.ensures.0 (omega arith) (omega arith)

pub returns : goal.returns
returns c = head_read _ _ c.kind.ensures.0 _ c.payload-n.ensures.0 (omega arith) (omega arith)
