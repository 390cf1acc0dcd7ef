-- `verify_input` verifies the two parts of its input, however much of them there is.
use native.Mathlib.Omega.{arith}
use mathlib.Core.Path.{sym, ◌∙◌}
use lib.Seq.{length-take-le}
use Rattle.verifying.proofs.Stages.{no_length, cut_sheet, both_whole}
use Rattle.verifying.proofs.verify_input.Goals as goal

pub returns-then-bytes-lt4 : goal.returns-then-bytes-lt4
returns-then-bytes-lt4 c =
    record {
      returned = let b = c.args.bytes.now in
          c.verify_text.ensures.returned ∙ no_length b (omega arith);
    }

pub returns-then-rest-said : goal.returns-then-rest-said
returns-then-rest-said c =
    record {
      returned = let b = c.args.bytes.now in
          c.verify_text-then-rest-said.ensures.returned ∙ cut_sheet b _ c.word_at-said.ensures c.if-rest-said.true;
    }

pub slice_bounds-verify_text-end-2 : goal.slice_bounds-verify_text-end-2
slice_bounds-verify_text-end-2 c = sym (length-take-le _ _ (omega (arith, c.if-rest-said.false)))

pub returns : goal.returns
returns c =
    record {
      returned = let b = c.args.bytes.now in
          c.verify_text-2.ensures.returned ∙ both_whole b _ c.word_at-said.ensures;
    }
