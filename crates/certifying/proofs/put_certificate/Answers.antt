-- `put_certificate` puts the bytes of the claim, and then those of the steps.
use native.Mathlib.Omega.{arith}
use Rattle.certifying.proofs.Writing.{claim_long, certificate_put, certificate_within}
use Rattle.certifying.proofs.put_certificate.Goals as goal
use Rattle.certifying.proofs.put_certificate.Goals.{After-claim-3-1}

pub slice_bounds-write_words-end : goal.slice_bounds-write_words-end
slice_bounds-write_words-end c =
    claim_long c.args.plan.now _ _ _ c.requires.claimable.few c.write_claim-k.ensures.0 c.write_claim-k.ensures.1

pub write_words-requires : goal.write_words-requires
write_words-requires c =
    omega (arith, slice_bounds-write_words-end (goal.at.write_words-requires c).After-claim-3-1, c.write_claim-k.ensures.1, c.requires.steps_in_bounds)

pub returns : goal.returns
returns c =
    let k = c.write_claim-k.ensures in
    let second = c.write_words-2.ensures in (
      certificate_put c.args.plan.now _ _ _ c.requires.claimable.few k.0 k.1 c.args.steps.now c.args.out.now _ _ _ c.write_words.ensures second,
      certificate_within c.args.plan.now _ _ _ c.requires.claimable.few k.0 k.1 c.args.steps.now c.args.out.now _ _ _ c.write_words.ensures second,
    )
