-- `reweigh` meets its contract: the weight is written behind the sign words of row k.
use native.Mathlib.Omega.{arith}
use Rattle.storing.proofs.Stores.{row_reweighed}
use Rattle.storing.proofs.reweigh.Goals as goal

pub returns : goal.returns
returns c =
    let g = c.args in
    row_reweighed g.t.now _ g.base g.count g.k g.weight c.requires.0 (omega arith) c.write_weight.ensures
