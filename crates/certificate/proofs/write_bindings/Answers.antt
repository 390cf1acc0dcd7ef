-- `write_bindings` stores a binding word each turn: with those of the values left they are the words of the whole plan.
use native.Mathlib.Nat.{add-zero}
use native.Mathlib.Omega.{arith}
use Rattle.certificate.proofs.Bindings.{binding_stored, bindings_stored, each_at}
use Rattle.certificate.proofs.write_bindings.Goals as goal

pub binding-requires : goal.binding-requires
binding-requires c =
    let few = c.requires.claimable.few in
    let low = each_at c.requires.claimable.values c.loop-v.v c.loop-v-test.true in
    (omega arith, omega (arith, low))

pub loop-v-preserved : goal.loop-v-preserved
loop-v-preserved c =
    let a = c.args in
    binding_stored a.target.now c.loop-v.target a.plan.now a.at c.loop-v.v c.loop-v.invariant c.binding.result
    (omega (arith, c.binding.ensures)) (omega arith)

pub loop-v-init : goal.loop-v-init
loop-v-init c = rw (add-zero c.args.at)

pub returns : goal.returns
returns c =
    let l = c.loop-v in
    let a = c.args in
    bindings_stored a.target.now l.target a.plan.now a.at l.v l.invariant (omega arith)
