-- `rows_valid` meets its contract. The loop keeps, for all sizes with these full signs, that the rows before k are valid and differ in their signs.
use Prim.Native.Nat.{◌+◌, ◌*◌}
use native.Mathlib.Omega.{arith}
use mathlib.Core.Path.{sym, ap, ◌∙◌}
use Rattle.table.proofs.FormTests.{none_tested, row_fails, all_pass}
use Rattle.table.proofs.RowsTests.{seen_fails, unseen_more}
use Rattle.table.proofs.rows_valid.Goals as goal

pub loop-k-init : goal.loop-k-init
loop-k-init g c = λ ds h. none_tested g.F.RowForm.form ds _ _

pub returns-then-not-row_valid : goal.returns-then-not-row_valid
returns-then-not-row_valid g c =
    let a = c.args in
    row_fails g.F.RowForm.form g.met.F.RowForm.laws a.t.now a.base _ c.loop-k.k a.count a.fulls _
    (ap (λ w. a.base + w * c.loop-k.k) (c.WIDTH.ensures ∙ g.met.F.RowForm.width_ok)) c.row_valid.ensures
    (omega arith) c.if-not-row_valid.true

pub returns-then-is_some : goal.returns-then-is_some
returns-then-is_some g c =
    let a = c.args in
    seen_fails g.F.RowForm.form g.met.F.RowForm.laws g.met.F.RowForm.sign_laws a.t.now a.base _ c.loop-k.k a.count a.fulls _
    (ap (λ w. a.base + w * c.loop-k.k) (c.WIDTH.ensures ∙ g.met.F.RowForm.width_ok)) c.row_valid.ensures
    _ _ c.clause_at.ensures.0
    _ _ c.find_spaced-earlier.ensures (omega (arith, g.met.F.RowForm.width_ok)) (omega arith)
    c.loop-k.invariant (omega arith) (sym c.is_some.ensures ∙ c.if-is_some.true)

pub loop-k-preserved : goal.loop-k-preserved
loop-k-preserved g c =
    let a = c.args in
    unseen_more g.F.RowForm.form g.met.F.RowForm.laws g.met.F.RowForm.sign_laws a.t.now a.base _ c.loop-k.k a.count a.fulls _
    (ap (λ w. a.base + w * c.loop-k.k) (c.WIDTH.ensures ∙ g.met.F.RowForm.width_ok)) c.row_valid.ensures
    _ _ c.clause_at.ensures.0
    _ _ c.find_spaced-earlier.ensures (omega (arith, g.met.F.RowForm.width_ok)) (omega arith)
    c.loop-k.invariant c.if-not-row_valid.false (sym c.is_some.ensures ∙ c.if-is_some.false)

pub returns : goal.returns
returns g c =
    all_pass g.F.RowForm.form g.met.F.RowForm.laws c.args.t.now c.args.base c.loop-k.k c.args.count c.args.fulls (omega arith) c.loop-k.invariant
