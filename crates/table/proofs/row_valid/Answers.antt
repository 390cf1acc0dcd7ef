-- `row_valid` meets its contract: the sign words first, then the weight, then the signs.
use native.Mathlib.Omega.{arith}
use Rattle.table.proofs.FormTests.{signs_front}
use Rattle.table.proofs.RowTests.{wrong_signs, wrong_weight, as_signs}
use Rattle.table.proofs.row_valid.Goals as goal

pub signs_there-requires : goal.signs_there-requires
signs_there-requires g c = omega (arith, g.met.F.RowForm.sign_laws.wide)

pub clause_at-requires : goal.clause_at-requires
clause_at-requires g c = omega (arith, g.met.F.RowForm.sign_laws.wide)

pub returns-then-not-signs_there : goal.returns-then-not-signs_there
returns-then-not-signs_there g c =
    let f = g.F.RowForm.form in
    let a = c.args in
    λ ds h. wrong_signs f a.t.now a.at (signs_front f g.met.F.RowForm.laws g.met.F.RowForm.sign_laws a.t.now a.at) _ c.signs_there.ensures c.if-not-signs_there.true ds

pub returns-then-not-weighs : goal.returns-then-not-weighs
returns-then-not-weighs g c =
    let f = g.F.RowForm.form in
    let a = c.args in
    λ ds h. wrong_weight f a.t.now a.at (signs_front f g.met.F.RowForm.laws g.met.F.RowForm.sign_laws a.t.now a.at) _ c.weighs.ensures c.if-not-weighs.true ds

pub returns : goal.returns
returns g c =
    let f = g.F.RowForm.form in
    let a = c.args in
    as_signs f a.t.now a.at (signs_front f g.met.F.RowForm.laws g.met.F.RowForm.sign_laws a.t.now a.at) _ _ _ a.fulls _ c.signs_there.ensures c.if-not-signs_there.false
    c.weighs.ensures c.if-not-weighs.false c.clause_at.ensures.0 c.signs_valid.ensures
