-- `read_plan` copies the values of the words that bind the variables: the claim says that they are there.
use native.Mathlib.Omega.{arith}
use mathlib.Core.Path.{◌∙◌}
use Rattle.certificate.proofs.Claims.{front_of, plan_read}
use Rattle.certificate.proofs.read_plan.Goals as goal

pub bounds-certificate-0 : goal.bounds-certificate-0
bounds-certificate-0 c = let long = (front_of _ c.requires.0).long in omega arith

pub slice_bounds-copy_values-end : goal.slice_bounds-copy_values-end
slice_bounds-copy_values-end c =
    let long = (front_of _ c.requires.0).long in
    let is = c.payload-n.ensures.0 in
    omega arith

pub returns : goal.returns
returns c =
    let v = c.copy_values in
    let f = front_of c.args.certificate.now c.requires.0 in
    v.ensures ∙ plan_read c.args.certificate.now c.payload-n.result c.payload-n.ensures.0 c.args.plan.now f.long
