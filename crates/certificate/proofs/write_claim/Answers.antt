-- `write_claim` stores the head, the bindings and the cost's two words: together they are the claim's words.
use Prim.Native.Nat.{◌+◌}
use native.Mathlib.Omega.{arith}
use mathlib.Core.Path.{refl, ◌∙◌}
use lib.ListN.{length, set, length-set}
use Rattle.certificate.proofs.Bindings.{claim_stored}
use Rattle.certificate.proofs.write_claim.Goals as goal

pub write_bindings-requires : goal.write_bindings-requires
write_bindings-requires c =
    let g = c.requires.claimable in
    record { plan_in_bounds = simp length-set (omega (arith, c.requires.plan_in_bounds)); claimable = record { few = g.few; values = g.values; small = omega arith } }

pub bounds-target-n : goal.bounds-target-n
bounds-target-n c =
    omega (arith, c.write_bindings.auto.target, length-set c.args.target.now 0 c.word.result, c.requires.plan_in_bounds)

pub bounds-target-n-2 : goal.bounds-target-n-2
bounds-target-n-2 c =
    let n = length c.args.plan.now in
    omega (
      arith,
      length-set c.write_bindings.new.target (n + 1) c.word-2.result,
      c.write_bindings.auto.target,
      length-set c.args.target.now 0 c.word.result,
      c.requires.plan_in_bounds,
    )

pub shape_of-target : goal.shape_of-target
shape_of-target c =
    let n = length c.args.plan.now in
    let t = c.write_bindings.new.target in
    length-set (set t (n + 1) c.word-2.result) (n + 2) c.word-3.result
    ∙ length-set t (n + 1) c.word-2.result
    ∙ c.write_bindings.auto.target
    ∙ length-set c.args.target.now 0 c.word.result

pub returns : goal.returns
returns c =
    let a = c.args in (
      claim_stored a.target.now a.plan.now c.write_bindings.new.target a.cost c.word.result c.word-2.result c.word-3.result
          c.word.ensures c.write_bindings.ensures (omega (arith, c.word-2.ensures)) (omega (arith, c.word-3.ensures, c.requires.claimable.small)),
      refl,
    )
