-- `binds_in_order` tests word by word: the answer is that of the words still to come.
use native.Mathlib.Omega.{arith}
use mathlib.Core.Path.{sym, ◌∙◌}
use Rattle.certificate.proofs.Bindings.{binding_high, binding_other, binding_good, binding_end}
use Rattle.certificate.proofs.binds_in_order.Goals as goal

pub returns-then-value-ge8 : goal.returns-then-value-ge8
returns-then-value-ge8 c =
    binding_high c.args.bindings.now c.loop-v.v c.payload-value.result c.payload-value.ensures.0 c.loop-v-test.true c.if-value-ge8.true
    ∙ sym c.loop-v.invariant

pub returns-then-bindings-v : goal.returns-then-bindings-v
returns-then-bindings-v c =
    binding_other c.args.bindings.now c.loop-v.v c.payload-value.result c.payload-value.ensures.0 c.loop-v-test.true
    c.binding.result (omega (arith, c.binding.ensures)) c.if-bindings-v.true
    ∙ sym c.loop-v.invariant

pub loop-v-preserved : goal.loop-v-preserved
loop-v-preserved c =
    c.loop-v.invariant
    ∙ binding_good c.args.bindings.now c.loop-v.v c.payload-value.result c.payload-value.ensures.0 c.loop-v-test.true
    c.binding.result (omega (arith, c.binding.ensures)) c.if-value-ge8.false c.if-bindings-v.false

pub returns : goal.returns
returns c = binding_end c.args.bindings.now c.loop-v.v c.loop-v-test.false ∙ sym c.loop-v.invariant
