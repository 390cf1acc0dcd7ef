-- `judge` meets its contract: the plan's cost and the empty row's weight are what the claim is held to.
use native.Mathlib.Omega.{arith}
use mathlib.Core.Path.{refl}
use Rattle.cost.specs.Calls.{cost_call}
use Rattle.checker.proofs.Judging.{claim_true}
use Rattle.checker.proofs.judge.Goals as goal

pub returns : goal.returns
returns c =
    let g = c.args in
    claim_true g.instance.now g.plan.now c.requires.0 (cost_call g.instance.now g.plan.now) refl g.claimed _ (grind arith) _ c.empty_weight.ensures
    (grind arith) (grind arith)
