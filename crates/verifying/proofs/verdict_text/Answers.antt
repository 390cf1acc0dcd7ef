-- `verdict_text` has the line of the refusal that ends it, or the text of the certificate's check against the instance made.
use mathlib.Core.Path.{refl, sym, ap, ◌∙◌}
use mathlib.Core.List.{[]}
use lib.ListN.{replicate}
use Rattle.fields.specs.Numbers.{refusal_in}
use Rattle.making.proofs.MakeTests.{MadeIn, refusal_some}
use Rattle.verifying.proofs.Verdicts.{no_longer, refusal_counts}
use Rattle.verifying.proofs.Stages.{unmade_put, stands, long_put, made_put}
use Rattle.text.specs.Text.{refused_line}
use Rattle.verifying.proofs.verdict_text.Goals as goal

pub returns-in-Err : goal.returns-in-Err
returns-in-Err c =
    let a = c.args in
    unmade_put a.sheet.now a.certificate.now _ _ _ (rw c.in-Err.is at c.make.ensures.returned) (refusal_some _) (c.refused_text.ensures ∙ ap refused_line c.number.ensures)

pub returns-in-Err-check_length : goal.returns-in-Err-check_length
returns-in-Err-check_length c =
    let a = c.args in
    let e = c.number-in-Err-check_length.ensures ∙ sym (ap refusal_in c.in-Err-check_length.is) ∙ c.check_length.ensures in
    long_put a.sheet.now a.certificate.now _ _ _ (rw c.in-Ok.is at c.make.ensures.returned) refl _ e
    (λ z. refusal_counts c.in-Err-check_length.refusal (sym c.number-in-Err-check_length.ensures ∙ z)) c.refused_text-in-Err-check_length.ensures

pub certificate_text-requires : goal.certificate_text-requires
certificate_text-requires c =
    let a = c.args in
    let m : MadeIn a.sheet.now (replicate 16000 0) c.in-Ok.long c.make.new.target
    = stands a.sheet.now a.certificate.now [] _ _ (rw c.in-Ok.is at c.make.ensures.returned) refl in
    (m.fine, m.made, no_longer 200015 7 a.certificate.now (sym c.check_length.ensures ∙ ap refusal_in c.in_default.is))

pub returns : goal.returns
returns c =
    let a = c.args in
    made_put a.sheet.now a.certificate.now _ _ _ (rw c.in-Ok.is at c.make.ensures.returned) refl 0 (sym (ap refusal_in c.in_default.is) ∙ c.check_length.ensures) refl
    c.certificate_text.ensures
