-- `verify_text` has the line of a length that is none of a sheet, or the text of the words that it has read.
use native.Mathlib.Omega.{arith}
use mathlib.Core.Path.{refl, sym, ap, ◌∙◌}
use lib.Seq.{length-take-le}
use Rattle.fields.specs.Numbers.{refusal_in}
use Rattle.verifying.proofs.Verdicts.{no_longer, refusal_counts}
use Rattle.verifying.proofs.Stages.{unread_put, sheet_put}
use Rattle.verifying.proofs.verify_text.Goals as goal

pub returns-in-Err : goal.returns-in-Err
returns-in-Err c =
    let a = c.args in
    let e = c.number.ensures ∙ sym (ap refusal_in c.in-Err.is) ∙ c.check_length.ensures in
    record { returned = unread_put a.sheet.now a.certificate.now _ _ e (λ z. refusal_counts c.in-Err.refusal (sym c.number.ensures ∙ z)) c.refused_text.ensures }

pub read_words-n-requires : goal.read_words-n-requires
read_words-n-requires c =
    omega (arith, no_longer 16000 1 c.args.sheet.now (sym c.check_length.ensures ∙ ap refusal_in c.in_default.is))

pub slice_bounds-words-end : goal.slice_bounds-words-end
slice_bounds-words-end c =
    omega (arith, c.read_words-n.auto.words, no_longer 16000 1 c.args.sheet.now (sym c.check_length.ensures ∙ ap refusal_in c.in_default.is))

pub slice_bounds-verdict_text-end : goal.slice_bounds-verdict_text-end
slice_bounds-verdict_text-end c =
    sym (length-take-le _ _ (omega (arith, c.read_words-n.auto.words, no_longer 16000 1 c.args.sheet.now (sym c.check_length.ensures ∙ ap refusal_in c.in_default.is))))

pub returns : goal.returns
returns c =
    let a = c.args in
    record { returned = sheet_put a.sheet.now a.certificate.now _ 0 (sym (ap refusal_in c.in_default.is) ∙ c.check_length.ensures) refl _ c.read_words-n.ensures.0 c.verdict_text.ensures }
