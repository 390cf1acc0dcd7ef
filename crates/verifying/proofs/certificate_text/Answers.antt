-- `certificate_text` puts the text of the words that it has read.
use native.Mathlib.Omega.{arith}
use mathlib.Core.Path.{sym}
use lib.Seq.{length-take-le}
use Rattle.verifying.proofs.Stages.{read_put}
use Rattle.verifying.proofs.certificate_text.Goals as goal

pub slice_bounds-checked_text-end : goal.slice_bounds-checked_text-end
slice_bounds-checked_text-end c = sym (length-take-le _ _ (omega (arith, c.read_words-k.auto.words)))

pub returns : goal.returns
returns c =
    let a = c.args in
    let p = c.checked_text.ensures in
    read_put a.sheet.now a.instance.now a.certificate.now _ _ c.read_words-k.ensures.0 p
