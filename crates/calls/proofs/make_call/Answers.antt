-- `make_call` meets its contract: by what the word asks for a step call, a run, a plan call or nothing.
use Rattle.calls.proofs.Asking.{step_word_lem, run_word, plan_word, no_call}
use Rattle.calls.proofs.make_call.Goals as goal

pub returns-in-Step : goal.returns-in-Step
returns-in-Step c =
    step_word_lem c.args.t.now c.args.out.now c.args.made c.args.target.now c.requires c.args.w _ c.from.ensures _ _ _ c.in-Step.is c.step_into.ensures

pub returns-in-Run : goal.returns-in-Run
returns-in-Run c =
    run_word c.args.t.now c.args.out.now c.args.made c.args.target.now c.requires c.args.w _ c.from.ensures _ _ _ _ _ c.in-Run.is c.run_into.ensures

pub returns-in-Plan : goal.returns-in-Plan
returns-in-Plan c =
    plan_word c.args.t.now c.args.out.now c.args.made c.args.target.now c.requires c.args.w _ c.from.ensures _ c.in-Plan.is _ c.plan_into.ensures

pub returns-in-Nothing : goal.returns-in-Nothing
returns-in-Nothing c =
    no_call c.args.t.now c.args.out.now c.args.made c.args.target.now c.requires c.args.w _ c.from.ensures c.in-Nothing.is
