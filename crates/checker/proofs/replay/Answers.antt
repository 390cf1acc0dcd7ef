-- `replay` meets its contract: each way out of the loop is one of the replay's endings.
use native.Mathlib.Omega.{arith}
use mathlib.Core.Path.{refl, ap}
use Rattle.stepping.specs.Advance.{advanced_of}
use Rattle.checker.proofs.Going.{shaped, gives_end, gives_unnamed, may_step, gives_refused, going_on}
use Rattle.checker.proofs.replay.Goals as goal

pub returns-in_default : goal.returns-in_default
returns-in_default c = gives_unnamed c.loop-steps.invariant.0 (omega arith) c.named_pair.ensures c.in_default.is

pub advance-requires : goal.advance-requires
advance-requires c =
    let i = c.loop-steps.invariant in
    (i.0.valid, shaped i.0 c.loop-steps.shape refl i.1 i.2, may_step i.0 (omega arith) c.named_pair.ensures c.in-Some.is)

pub returns-in-Err : goal.returns-in-Err
returns-in-Err c =
    gives_refused c.loop-steps.invariant.0 (omega arith) c.named_pair.ensures c.in-Some.is c.advance.ensures (ap advanced_of c.in-Err.is)

pub loop-steps-preserved : goal.loop-steps-preserved
loop-steps-preserved c =
    let i = c.loop-steps.invariant in
    (going_on i.0 (omega arith) c.named_pair.ensures c.in-Some.is c.advance.ensures (ap advanced_of c.in-Ok.is), i.1, i.2)

pub returns : goal.returns
returns c = gives_end c.loop-steps.invariant.0 (omega arith)
