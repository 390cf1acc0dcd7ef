-- `conclusions::conclude` meets its contract: each group is added behind those before it.
use native.Mathlib.Omega.{arith}
use Rattle.conclusions.proofs.Concluding.{conclusions_filled}
use Rattle.conclusions.proofs.conclude.Goals as goal

pub returns : goal.returns
returns c =
    let g = c.args in (
      conclusions_filled g.x g.y g.fulls _ _ g.v c.met_at.ensures c.union.ensures
          g.buffer.now _ _ _ _ _ _ _ _
          c.keep-met.ensures.0 c.keep-joined.ensures.0 c.exclude-third.ensures.0 c.exclude.ensures.0,
      omega (arith, c.keep-met.ensures.1, c.keep-joined.ensures.1, c.exclude-third.ensures.1),
      c.exclude.ensures.2,
    )
