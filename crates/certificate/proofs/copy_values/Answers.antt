-- `copy_values` stores a value each turn: with those of the words left they are the values of all words.
use native.Mathlib.Omega.{arith}
use Rattle.certificate.proofs.Bindings.{value_stored, values_stored}
use Rattle.certificate.proofs.copy_values.Goals as goal

pub loop-v-preserved : goal.loop-v-preserved
loop-v-preserved c =
    let p = c.payload in
    let a = c.args in
    value_stored a.bindings.now a.plan.now c.loop-v.plan c.loop-v.v c.loop-v.invariant p.result p.ensures.0 (omega arith)

pub returns : goal.returns
returns c =
    let l = c.loop-v in
    values_stored c.args.bindings.now c.args.plan.now l.plan l.v l.invariant (omega arith) c.requires
