-- `size_in` reads a word by its kind and payload.
use native.Mathlib.Omega.{arith}
use Rattle.table.specs.WordKinds.{size_other, size_high, size_read}
use Rattle.table.proofs.size_in.Goals as goal

pub returns-then-kind-ne2 : goal.returns-then-kind-ne2
returns-then-kind-ne2 c = (size_other _ _ c.kind.ensures.0 (omega arith), omega arith)

pub returns-then-d-gt-MAX_VALUES : goal.returns-then-d-gt-MAX_VALUES
returns-then-d-gt-MAX_VALUES c = (size_high _ _ c.kind.ensures.0 _ c.payload-d.ensures.0 (omega arith) (omega arith), omega arith)

pub returns : goal.returns
returns c = (size_read _ _ c.kind.ensures.0 _ c.payload-d.ensures.0 (omega arith) (omega arith), omega arith)
