-- `readout` answers what its definition says: each test in turn, and the metres behind them all.
use Rattle.std.proofs.Common.{◌≡◌, ◌∙◌, ap, sym, Err, rules}
use Rattle.fields.specs.declared.refusals.Refusal.TheVariants.{Input}
use Rattle.fields.specs.Answers.{answer_of}
use Rattle.readout.proofs.Answers.{sheet_refused, no_variable, no_east, no_north, no_assignment, value_inside, asked, metres_read}
use Rattle.readout.proofs.readout.Goals as goal

pub returns-in_err-read : goal.returns-in_err-read
returns-in_err-read c =
    let a = c.args in
    let is : c.from_residual.result ≡ Err (Input c.in_err-read.field-0.0) = search rules in
    record { returned = ap answer_of is ∙ sheet_refused a.sheet.now a.plan.now a.variable a.easting a.northing _ c.in_err-read.ensures.fault }

pub returns-then-sizes-variable : goal.returns-then-sizes-variable
returns-then-sizes-variable c =
    let a = c.args in
    let r = c.in_ok-read.ensures in
    record { returned = no_variable a.sheet.now a.plan.now a.variable a.easting a.northing (sym r.fault) _ (c.deref-sizes.ensures.0 ∙ r.accepted.0) c.if-sizes-variable.true }

pub returns-in_default : goal.returns-in_default
returns-in_default c =
    let a = c.args in
    let r = c.in_ok-read.ensures in record {
      returned = no_east a.sheet.now a.plan.now a.variable a.easting a.northing (sym r.fault) _ (c.deref-sizes.ensures.0 ∙ r.accepted.0) c.if-sizes-variable.false
          _ c.coordinate.ensures c.in_default.is;
    }

pub returns-in_default-coordinate : goal.returns-in_default-coordinate
returns-in_default-coordinate c =
    let a = c.args in
    let r = c.in_ok-read.ensures in record {
      returned = no_north a.sheet.now a.plan.now a.variable a.easting a.northing (sym r.fault) _ (c.deref-sizes.ensures.0 ∙ r.accepted.0) c.if-sizes-variable.false
          _ c.coordinate.ensures _ c.in-Some.is _ c.coordinate-2.ensures c.in_default-coordinate.is;
    }

pub returns-then-not-is_assignment : goal.returns-then-not-is_assignment
returns-then-not-is_assignment c =
    let a = c.args in
    let r = c.in_ok-read.ensures in record {
      returned = no_assignment a.sheet.now a.plan.now a.variable a.easting a.northing (sym r.fault) _ (c.deref-sizes.ensures.0 ∙ r.accepted.0) c.if-sizes-variable.false
          _ c.coordinate.ensures _ c.in-Some.is _ c.coordinate-2.ensures _ c.in-Some-coordinate.is _ c.is_assignment.ensures c.if-not-is_assignment.true;
    }

pub bounds-plan-variable : goal.bounds-plan-variable
bounds-plan-variable c =
    let a = c.args in
    let r = c.in_ok-read.ensures in
    value_inside a.sheet.now a.plan.now a.variable a.easting a.northing (sym r.fault) _ (c.deref-sizes.ensures.0 ∙ r.accepted.0) c.if-sizes-variable.false
    _ c.coordinate.ensures _ c.in-Some.is _ c.coordinate-2.ensures _ c.in-Some-coordinate.is _ c.is_assignment.ensures c.if-not-is_assignment.false

pub metres_to-requires-clause-variable_in_bounds : goal.metres_to-requires-clause-variable_in_bounds
metres_to-requires-clause-variable_in_bounds c =
    let a = c.args in
    let r = c.in_ok-read.ensures in
    (asked a.sheet.now a.plan.now a.variable a.easting a.northing (sym r.fault) _ (c.deref-sizes.ensures.0 ∙ r.accepted.0) c.if-sizes-variable.false
    _ c.coordinate.ensures _ c.in-Some.is _ c.coordinate-2.ensures _ c.in-Some-coordinate.is _ c.is_assignment.ensures c.if-not-is_assignment.false).1.0

pub metres_to-requires-clause-east_le_max_offset : goal.metres_to-requires-clause-east_le_max_offset
metres_to-requires-clause-east_le_max_offset c =
    let a = c.args in
    let r = c.in_ok-read.ensures in
    (asked a.sheet.now a.plan.now a.variable a.easting a.northing (sym r.fault) _ (c.deref-sizes.ensures.0 ∙ r.accepted.0) c.if-sizes-variable.false
    _ c.coordinate.ensures _ c.in-Some.is _ c.coordinate-2.ensures _ c.in-Some-coordinate.is _ c.is_assignment.ensures c.if-not-is_assignment.false).1.1

pub returns : goal.returns
returns c =
    let a = c.args in
    let r = c.in_ok-read.ensures in record {
      returned = metres_read a.sheet.now a.plan.now a.variable a.easting a.northing (sym r.fault) _ (c.deref-sizes.ensures.0 ∙ r.accepted.0) c.if-sizes-variable.false
          _ c.coordinate.ensures _ c.in-Some.is _ c.coordinate-2.ensures _ c.in-Some-coordinate.is _ c.is_assignment.ensures c.if-not-is_assignment.false _ c.metres_to.ensures;
    }
