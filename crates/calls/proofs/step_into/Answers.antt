-- `step_into` meets its contract: with no place left nothing is done; else the step call is made, and a step's word goes behind the others.
use mathlib.Core.Path.{ap, ◌∙◌}
use Rattle.std.specs.Prelude.{Ok}
use Rattle.resolution.specs.Answers.{step_answer_of}
use Rattle.calls.specs.Calls.{words_of_step}
use Rattle.calls.proofs.Leaving.{step-full, step-none, step_made}
use Rattle.calls.proofs.step_into.Goals as goal

pub returns-then-made-out : goal.returns-then-made-out
returns-then-made-out c =
    step-full c.args.t.now c.args.out.now c.args.made c.requires c.if-made-out.true

pub returns-in-Err : goal.returns-in-Err
unfolding words_of_step
returns-in-Err c =
    step-none c.args.t.now c.args.out.now c.args.made c.requires c.if-made-out.false _ _
    c.step.ensures.returned (ap (λ r. words_of_step (step_answer_of r)) c.in-Err.is)

pub returns-in-Ok-None : goal.returns-in-Ok-None
unfolding words_of_step
returns-in-Ok-None c =
    step-none c.args.t.now c.args.out.now c.args.made c.requires c.if-made-out.false _ _
    c.step.ensures.returned (ap (λ r. words_of_step (step_answer_of r)) (c.in-Ok-None.is ∙ ap Ok c.in-Ok-None.field-0-is))

pub returns-in-Ok-Some : goal.returns-in-Ok-Some
returns-in-Ok-Some c =
    step_made c.args.t.now c.args.out.now c.args.made c.requires c.if-made-out.false _ _
    c.step.ensures.returned _ (ap step_answer_of (c.in-Ok-Some.is ∙ ap Ok c.in-Ok-Some.field-0-is))
