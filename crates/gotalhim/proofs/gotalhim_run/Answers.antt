-- `gotalhim::gotalhim_run`: the outcome's number, with the answer's three fields noted.
use mathlib.Core.List.{[], ◌∷◌}
use Rattle.resolution.specs.Outcomes.{run_answer_of}
use Rattle.resolution.specs.Calls.{RunReturned}
use Rattle.resolution.specs.Numbers.{run_number, run_fields}
use Rattle.gotalhim.proofs.Telling.{told, run_fields_lem}
use Rattle.gotalhim.proofs.gotalhim_run.Goals as goal

pub returns : goal.returns
returns c =
    record {
      returned = let called = c.run-ran.ensures.returned in
          told (λ (r : RunReturned). run_number r.answer) (λ r. r.table ∷ (r.slice ∷ [])) (λ r. run_fields r.answer) _ _ _ _ _ _ called
          c.outcome_number.ensures (run_fields_lem (run_answer_of c.run-ran.result) _ c.outcome_field.ensures) c.note.ensures;
    }
