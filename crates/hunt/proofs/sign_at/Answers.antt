-- `sign_at` meets its contract: it reads the word that has the sign, and shifts to its byte.
use Prim.Native.Nat.{◌+◌, ◌*◌}
use native.Mathlib.Omega.{arith}
use Rattle.rows.specs.Raw.{row_width}
use Rattle.hunt.proofs.OneSign.{one_sign}
use Rattle.hunt.proofs.sign_at.Goals as goal

pub returns : goal.returns
returns c = let g = c.args in one_sign g.t.now (g.base + row_width * g.k) g.v (omega arith)
