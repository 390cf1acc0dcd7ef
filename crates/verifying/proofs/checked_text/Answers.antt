-- `checked_text` puts 7 where there is no claim, else the text of what the check of the claim comes to.
use Prim.Native.Nat.{ℕ}
use native.Mathlib.Omega.{arith}
use mathlib.Core.Path.{◌≡◌, sym, ap, ◌∙◌}
use Rattle.text.specs.Text.{refused_line}
use lib.Seq.{length-take-le}
use Rattle.certificate.specs.declared.Claim.{Claim}
use Rattle.certificate.specs.Claim.{claim_of}
use Rattle.verifying.proofs.Stages.{unclaimed_put, few, claim_long, plan_asks, outcome_put, accepted_holds}
use Rattle.verifying.proofs.checked_text.Goals as goal
use Rattle.verifying.proofs.checked_text.Goals.{After-plan-1}

pub returns-in_default : goal.returns-in_default
returns-in_default c =
    let a = c.args in
    let p = c.refused_text.ensures ∙ ap refused_line c.number.ensures in
    unclaimed_put a.sheet.now a.instance.now a.certificate.now _ (sym c.in_default.is ∙ c.read_claim.ensures) p

-- the claim that was read
module _ (c : After-plan-1) where
  claimed : Claim.Stated c.in-Stated.n c.in-Stated.cost ≡ claim_of c.args.certificate.now
  claimed = sym c.in-Stated.is ∙ c.read_claim.ensures

pub read_plan-requires : goal.read_plan-requires
read_plan-requires c = plan_asks _ _ _ (claimed c)

pub overflow_add-n : goal.overflow_add-n
overflow_add-n c = omega (arith, few _ _ _ (claimed (goal.at.overflow_add-n c).After-plan-1))

pub offset_bounds-certificate-n : goal.offset_bounds-certificate-n
offset_bounds-certificate-n c = omega (arith, few _ _ _ (claimed (goal.at.offset_bounds-certificate-n c).After-plan-1))

pub slice_bounds-check-count : goal.slice_bounds-check-count
slice_bounds-check-count c = omega (arith, claim_long _ _ _ (claimed (goal.at.slice_bounds-check-count c).After-plan-1))

pub slice_bounds-check-start : goal.slice_bounds-check-start
slice_bounds-check-start c = omega (arith, claim_long _ _ _ (claimed (goal.at.slice_bounds-check-start c).After-plan-1))

pub slice_bounds-plan-end : goal.slice_bounds-plan-end
slice_bounds-plan-end c = omega (arith, few _ _ _ (claimed (goal.at.slice_bounds-plan-end c).After-plan-1), c.read_plan.auto.plan)

pub slice_bounds-check-end-2 : goal.slice_bounds-check-end-2
slice_bounds-check-end-2 c = omega (arith, length-take-le {A = ℕ}, few _ _ _ (claimed (goal.at.slice_bounds-check-end-2 c).After-plan-1), c.read_plan.auto.plan)

pub slice_bounds-plan-end-2 : goal.slice_bounds-plan-end-2
slice_bounds-plan-end-2 c = omega (arith, few _ _ _ (claimed (goal.at.slice_bounds-plan-end-2 c).After-plan-1), c.read_plan.auto.plan)

pub slice_bounds-outcome_text-end : goal.slice_bounds-outcome_text-end
slice_bounds-outcome_text-end c = omega (arith, length-take-le {A = ℕ}, few _ _ _ (claimed (goal.at.slice_bounds-outcome_text-end c).After-plan-1), c.read_plan.auto.plan)

pub outcome_text-requires : goal.outcome_text-requires
outcome_text-requires c z =
    accepted_holds c.args.certificate.now _ _ (claimed (goal.at.outcome_text-requires c).After-plan-1) _ _ c.read_plan.ensures c.args.instance.now _ _ c.check-checked.ensures.returned c.args.sheet.now c.requires.0 c.requires.1 z

pub returns : goal.returns
returns c =
    let a = c.args in
    outcome_put a.certificate.now _ _ (claimed (goal.at.returns c).After-plan-1) _ _ c.read_plan.ensures a.instance.now _ _ c.check-checked.ensures.returned a.sheet.now _ c.outcome_text.ensures
