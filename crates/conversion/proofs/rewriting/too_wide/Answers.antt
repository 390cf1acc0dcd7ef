-- `too_wide` meets its contract: the loop keeps that no row before k weighs more.
use Prim.Native.Nat.{◌*◌}
use native.Mathlib.Omega.{arith}
use mathlib.Core.Path.{ap, ◌∙◌}
use borrow.Author.Count.{below_more}
use Rattle.std.proofs.lemmas.Bool.Decides.{nat_tests}
use Rattle.conversion.proofs.Weights.{heavy_there, light_there, none-heavy}
use Rattle.conversion.proofs.rewriting.too_wide.Goals as goal

pub returns-then-above : goal.returns-then-above
returns-then-above g c =
    let a = c.args in
    heavy_there g.S.RowForm.form g.met.S.RowForm.laws a.most a.t.now a.base a.count c.loop-k.k _ _ c.weight_at.ensures
    (omega (arith, ap (λ w. w * c.loop-k.k) (c.WIDTH.ensures ∙ g.met.S.RowForm.width_ok))) (omega arith) (grind (arith, nat_tests))

pub loop-k-preserved : goal.loop-k-preserved
loop-k-preserved g c =
    let a = c.args in
    below_more _ c.loop-k.k c.loop-k.invariant
    (light_there g.S.RowForm.form a.most a.t.now a.base c.loop-k.k _ _ c.weight_at.ensures
    (omega (arith, ap (λ w. w * c.loop-k.k) (c.WIDTH.ensures ∙ g.met.S.RowForm.width_ok))) (grind (arith, nat_tests)))

pub returns : goal.returns
returns g c =
    none-heavy g.S.RowForm.form g.met.S.RowForm.laws c.args.most c.args.t.now c.args.base c.args.count c.loop-k.k (omega arith) c.loop-k.invariant
