-- `write_rows` meets its contract: the loop keeps that the target has the first k rows of the source.
use Prim.Native.Nat.{◌*◌}
use native.Mathlib.Omega.{arith}
use mathlib.Core.Path.{ap, ◌∙◌}
use Rattle.conversion.proofs.Weights.{light_read}
use Rattle.conversion.proofs.RowsRewritten.{row_read, rewritten_start, rewritten_laid, rewritten_room, rewritten_next, rewritten_end}
use Rattle.conversion.proofs.rewriting.write_rows.Goals as goal

pub loop-k-init : goal.loop-k-init
loop-k-init g c =
    let a = c.args in
    rewritten_start g.S.RowForm.form g.T.RowForm.form g.met.S.RowForm.laws g.met.T.RowForm.laws.form a.source.now a.base a.target.now c.requires.2

pub append_in-requires : goal.append_in-requires
append_in-requires g c =
    let f = g.S.RowForm.form in
    let h = g.T.RowForm.form in
    let a = c.args in (
      rewritten_laid f h g.met.S.RowForm.laws g.met.T.RowForm.laws.form a.source.now a.base a.target.now c.loop-k.k c.loop-k.target c.loop-k.invariant _ (omega arith),
      rewritten_room f h g.met.S.RowForm.laws g.met.T.RowForm.laws.form a.source.now a.base a.target.now c.loop-k.k c.loop-k.target c.loop-k.invariant a.count _ (omega arith) c.requires.1
          (omega arith),
      c.clause_at-x.ensures.1,
      light_read f g.met.S.RowForm.laws h.limit a.source.now a.base a.count c.requires.3 c.loop-k.k (omega arith) _ _ c.weight_at.ensures (omega (arith, ap (λ w. w * c.loop-k.k) (c.WIDTH.ensures ∙ g.met.S.RowForm.width_ok))),
    )

pub loop-k-preserved : goal.loop-k-preserved
loop-k-preserved g c =
    let f = g.S.RowForm.form in
    let h = g.T.RowForm.form in
    let a = c.args in
    rewritten_next f h g.met.S.RowForm.laws g.met.T.RowForm.laws.form a.source.now a.base a.target.now c.loop-k.k c.loop-k.target c.loop-k.invariant _ _ _
    c.append_in.ensures (omega arith)
    (ap h.raw_of
    (row_read f g.met.S.RowForm.sign_laws a.source.now _ _ _ _ _ c.clause_at-x.ensures.0 c.weight_at.ensures
    (omega (arith, ap (λ w. w * c.loop-k.k) (c.WIDTH.ensures ∙ g.met.S.RowForm.width_ok))) (omega (arith, ap (λ w. w * c.loop-k.k) (c.WIDTH.ensures ∙ g.met.S.RowForm.width_ok)))))

pub returns : goal.returns
returns g c =
    let a = c.args in
    rewritten_end g.S.RowForm.form g.T.RowForm.form g.met.S.RowForm.laws g.met.T.RowForm.laws.form a.source.now a.base a.target.now c.loop-k.k c.loop-k.target c.loop-k.invariant a.count (omega arith)
