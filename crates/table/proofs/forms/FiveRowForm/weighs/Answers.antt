-- The kind of the word behind the sign words, then whether its payload is 0.
use native.Mathlib.Omega.{arith}
use Rattle.table.proofs.FormWords.{kind_other, as_payload}
use Rattle.table.proofs.forms.FiveRowForm.weighs.Goals as goal

pub returns-then-kind-eq6 : goal.returns-then-kind-eq6
returns-then-kind-eq6 c = as_payload c.args.t.now c.args.at _ (omega arith) c.payload.ensures.0

pub returns-else-kind-eq6 : goal.returns-else-kind-eq6
returns-else-kind-eq6 c = kind_other c.args.t.now c.args.at _ c.kind.ensures.0 c.if-kind-eq6.false
