-- `put_plan` puts the head and then the lines of the assignment.
use native.Mathlib.Omega.{arith}
use Rattle.text.proofs.Putting.{put_put}
use Rattle.printing.proofs.Texts.{plan_put}
use Rattle.printing.proofs.put_plan.Goals as goal

pub put_assignment-requires : goal.put_assignment-requires
put_assignment-requires c =
    let p = c.requires in
    record { holds_plan = p.holds_plan; at_in_bounds = omega (arith, p.in_bounds) }

pub returns : goal.returns
returns c =
    let a = c.args in
    let first = c.put_head-head.ensures in
    let rest = c.put_assignment.ensures in
    (plan_put a.out.now a.sheet.now a.plan.now a.steps a.cost _ _ _ _ (omega arith) (omega arith) (put_put a.out.now _ _ _ _ _ _ _ first.0 rest.0), omega arith)
