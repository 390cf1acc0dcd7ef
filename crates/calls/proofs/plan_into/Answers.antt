-- `plan_into` meets its contract: the front of the target that the call word lends, put back as the plan call left it.
use Rattle.calls.proofs.Leaving.{plan_made}
use Rattle.calls.proofs.plan_into.Goals as goal

pub returns : goal.returns
returns c = plan_made c.args.t.now c.args.target.now c.args.room _ c.min-end.ensures _ c.plan.new.target c.plan.ensures.returned
