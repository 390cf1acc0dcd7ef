-- `make` answers what its definition says: the sheet's fault, 10 where the reckoned length does not fit, else the instance.
use Rattle.std.proofs.Common.{◌≡◌, ◌∙◌, ap, refl, sym, Err, arith, rules}
use Rattle.fields.specs.declared.refusals.Refusal.TheVariants.{Input}
use Rattle.fields.specs.Answers.{answer_of}
use Rattle.making.proofs.Making.{long_is, refused_make, short_make, good_make}
use Rattle.making.proofs.make.Goals as goal

pub returns-in_err-read-clause-returned : goal.returns-in_err-read-clause-returned
returns-in_err-read-clause-returned c =
    let is : c.from_residual.result ≡ Err (Input c.in_err-read.field-0.0) = search rules in
    refused_make c.args.sheet.now c.args.target.now _ _ c.in_err-read.ensures.fault (ap answer_of is)

pub returns-then-target-long-clause-returned : goal.returns-then-target-long-clause-returned
returns-then-target-long-clause-returned c =
    let a = c.args in
    let r = c.in_ok-read.ensures in
    let e =
    long_is a.sheet.now _ _ _ (sym r.fault) (omega arith) (c.deref-sizes.ensures.0 ∙ r.accepted.0) r.accepted.1 c.count_legs.ensures.0 in
    short_make a.sheet.now a.target.now _ _ (sym r.fault) e c.if-target-long.true refl

pub write_instance-requires-clause-sizes_value : goal.write_instance-requires-clause-sizes_value
write_instance-requires-clause-sizes_value c =
    let a = c.args in
    let r = c.in_ok-read.ensures in
    let e =
    long_is a.sheet.now _ _ _ (sym r.fault) (omega arith) (c.deref-sizes.ensures.0 ∙ r.accepted.0) r.accepted.1 c.count_legs.ensures.0 in
    (c.deref-sizes.ensures.0 ∙ r.accepted.0, r.accepted.1, omega (arith, e, c.if-target-long.false))

pub returns-clause-returned : goal.returns-clause-returned
returns-clause-returned c =
    let a = c.args in
    let r = c.in_ok-read.ensures in
    let e =
    long_is a.sheet.now _ _ _ (sym r.fault) (omega arith) (c.deref-sizes.ensures.0 ∙ r.accepted.0) r.accepted.1 c.count_legs.ensures.0 in
    good_make a.sheet.now a.target.now _ _ _ (sym r.fault) e c.if-target-long.false c.write_instance.ensures refl
