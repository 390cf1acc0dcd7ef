-- `read_sizes`: a size moves from what is left to what was read.
use Rattle.std.proofs.Common.{drop, arith, ap, sym, ◌∙◌}
use Rattle.std.proofs.lemmas.List.{drop-drop}
use Rattle.std.proofs.lemmas.Grind.{common_steps}
use Rattle.reader.specs.Left.{words_left}
use Rattle.input.proofs.Heads.{sizes_step, good_step}
use Rattle.input.proofs.front.read_sizes.Goals as goal

pub loop-preserved : goal.loop-preserved
loop-preserved c =
    let left = c.in_ok-read_size.ensures.left in
    let step = sizes_step c.loop.sizes.items c.args.n c.loop.counter _ (words_left c.loop.reader) c.loop-test.true (sym c.in_ok-read_size.ensures.size) in (
      grind (arith, common_steps),
      left ∙ ap (drop 1) c.loop.invariant.1 ∙ drop-drop 1 c.loop.counter _,
      rw (c.push.ensures.items, left) (sym step.0 ∙ c.loop.invariant.2),
      rw (c.push.ensures.items, left) (sym step.1 ∙ c.loop.invariant.3),
      rw left (sym (good_step c.args.n c.loop.counter _ (words_left c.loop.reader) c.loop-test.true (sym c.in_ok-read_size.ensures.size)) ∙ c.loop.invariant.4),
      λ within. c.in_ok-read_size.ensures.within (c.loop.invariant.5 within),
    )
