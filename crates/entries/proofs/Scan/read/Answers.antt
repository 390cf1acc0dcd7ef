-- `read`: a binding's variable has 20 bits.
use Rattle.std.proofs.Common.{arith, sym, ◌∙◌}
use Rattle.words.proofs.Inverse.{binding_inverse}
use Rattle.entries.proofs.Scan.read.Goals as goal

pub overflow_add-self : goal.overflow_add-self
overflow_add-self c = omega (arith, binding_inverse c.args.word _ _ (sym c.from.ensures ∙ c.in-Binding.is))
