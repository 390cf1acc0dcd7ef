-- The weight that is read of one row from this place on is the one that the row there says.
use native.Mathlib.Omega.{arith}
use mathlib.Core.Path.{ap, ◌≡◌, ◌∙◌}
use Prim.Native.Nat.{◌+◌}
use Rattle.rows.specs.Raw.{raw_at, weight_in}
use Rattle.table.specs.Raws.{row_of}
use Rattle.table.proofs.forms.SixRowForm.weight_at.Goals as goal

pub returns : goal.returns
unfolding row_of
returns c =
    let here : c.args.at + 0 ≡ c.args.at = omega arith in
    c.weight_of.ensures.0 ∙ ap (λ i. weight_in (raw_at c.args.t.now i)) here
