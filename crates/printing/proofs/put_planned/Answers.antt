-- `put_planned` puts the text of the words that it reads.
use native.Mathlib.Omega.{arith}
use mathlib.Core.Path.{sym}
use lib.Seq.{length-take-le}
use Rattle.printing.proofs.Texts.{words_put}
use Rattle.printing.proofs.put_planned.Goals as goal

pub slice_bounds-put_plan-end : goal.slice_bounds-put_plan-end
slice_bounds-put_plan-end c = sym (length-take-le _ _ (omega (arith, c.read_words-n.auto.words)))

pub put_plan-requires : goal.put_plan-requires
put_plan-requires c =
    let p = c.requires in
    record { holds_plan = rw c.read_words-n.ensures.0 p.holds_plan; in_bounds = p.bytes_len_bound.1 }

pub returns : goal.returns
returns c =
    let a = c.args in
    let p = c.put_plan.ensures in
    (words_put a.out.now a.bytes.now _ _ _ _ _ _ c.read_words-n.ensures.0 p.0, p.1)
