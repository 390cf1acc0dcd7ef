-- `run_into` meets its contract: the free words that the call word lends, put back as the run left them, hold its step words in front.
use native.Mathlib.Omega.{arith}
use Rattle.resolution.specs.Outcomes.{run_answer_of}
use Rattle.calls.proofs.Leaving.{run_room, run_made}
use Rattle.calls.proofs.run_into.Goals as goal

pub overflow_add-result : goal.overflow_add-result
overflow_add-result c =
    let h =
    run_room c.args.t.now c.args.out.now c.args.made c.requires c.args.limit c.args.room _ c.min.ensures
    (run_answer_of c.run-ran.result) c.run-ran.new.t c.run-ran.new.slice c.run-ran.ensures.returned c.out-1.given.0 in
    omega (arith, h)

pub returns : goal.returns
returns c =
    run_made c.args.t.now c.args.out.now c.args.made c.requires c.args.limit c.args.room _ c.min.ensures
    (run_answer_of c.run-ran.result) c.run-ran.new.t c.run-ran.new.slice c.run-ran.ensures.returned c.out-1.given.0
