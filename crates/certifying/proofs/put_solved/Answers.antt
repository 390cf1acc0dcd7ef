-- `put_solved` puts the certificate of a plan, whose parts have the lengths that the certificate needs.
use mathlib.Core.Path.{ap}
use Rattle.planning.specs.Values.{ending_as, solved_as}
use Rattle.certifying.proofs.Planned.{parts, planned_put}
use Rattle.certifying.proofs.put_solved.Goals as goal

pub shared_ref_as_front-put_certificate : goal.shared_ref_as_front-put_certificate
shared_ref_as_front-put_certificate c =
    (parts c.args.bytes.now (solved_as c.args.solved) c.args.steps.now _ c.variables_in-n.ensures (c.requires.certifiable (ap ending_as c.in-Planned.is))).2

pub put_certificate-requires-clause-claimable : goal.put_certificate-requires-clause-claimable
put_certificate-requires-clause-claimable c =
    (parts c.args.bytes.now (solved_as c.args.solved) c.args.steps.now _ c.variables_in-n.ensures (c.requires.certifiable (ap ending_as c.in-Planned.is))).4

pub returns-in-Planned : goal.returns-in-Planned
returns-in-Planned c =
    let p = c.put_certificate.ensures in
    let many = (parts c.args.bytes.now (solved_as c.args.solved) c.args.steps.now _ c.variables_in-n.ensures (c.requires.certifiable (ap ending_as c.in-Planned.is))).0 in
    (planned_put c.args.bytes.now (solved_as c.args.solved) c.args.steps.now _ _ _ (ap ending_as c.in-Planned.is) many p.0, p.1)
