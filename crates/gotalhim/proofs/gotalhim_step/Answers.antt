-- `gotalhim::gotalhim_step`: the answer's number, with its two fields noted, by cases on the answer.
use mathlib.Core.Path.{ap, ◌∙◌}
use Rattle.std.specs.Prelude.{Ok}
use Rattle.resolution.specs.Answers.{step_answer_of}
use Rattle.resolution.specs.Numbers.{step_number, step_fields}
use Rattle.gotalhim.proofs.Telling.{step_told}
use Rattle.gotalhim.proofs.gotalhim_step.Goals as goal

pub returns-in-Err : goal.returns-in-Err
unfolding step_number step_fields
returns-in-Err c =
    record { returned = rw c.number.ensures (step_told _ _ _ _ _ _ c.step.ensures.returned (ap step_answer_of c.in-Err.is) c.note.ensures) }

pub returns-in-Ok-None : goal.returns-in-Ok-None
unfolding step_number step_fields
returns-in-Ok-None c =
    record {
      returned = step_told _ _ _ _ _ _ c.step.ensures.returned (ap step_answer_of (c.in-Ok-None.is ∙ ap Ok c.in-Ok-None.field-0-is)) c.note-in-Ok-None.ensures;
    }

pub returns-in-Ok-Some : goal.returns-in-Ok-Some
unfolding step_number step_fields
returns-in-Ok-Some c =
    record {
      returned = step_told _ _ _ _ _ _ c.step.ensures.returned (ap step_answer_of (c.in-Ok-Some.is ∙ ap Ok c.in-Ok-Some.field-0-is)) c.note-in-Ok-Some.ensures;
    }
