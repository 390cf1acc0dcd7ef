-- `gotalhim::gotalhim_check`: the number of a refusal, 0 for an accepted claim, with the steps noted.
use mathlib.Core.Path.{sym, ap, ◌∙◌}
use mathlib.Core.List.{[], ◌∷◌}
use Rattle.checker.specs.Answer.{CheckAnswer, checked_as}
use Rattle.checker.specs.Calls.{CheckReturned}
use Rattle.gotalhim.proofs.Telling.{told}
use Rattle.gotalhim.proofs.gotalhim_check.Goals as goal

pub returns-in-Ok : goal.returns-in-Ok
returns-in-Ok c =
    record {
      returned = let e = sym (ap checked_as c.in-Ok.is) in
          told (λ (k : CheckReturned). k.answer.number) (λ k. k.table ∷ []) (λ k. k.answer.steps ∷ []) _ _ _ _ _ _
          c.check.ensures.returned (ap (λ (x : CheckAnswer). x.number) e) (ap (λ (x : CheckAnswer). x.steps ∷ []) e) c.note.ensures;
    }

pub returns-in-Err : goal.returns-in-Err
returns-in-Err c =
    record {
      returned = let e = sym (ap checked_as c.in-Err.is) in
          told (λ (k : CheckReturned). k.answer.number) (λ k. k.table ∷ []) (λ k. k.answer.steps ∷ []) _ _ _ _ _ _
          c.check.ensures.returned (c.number.ensures ∙ ap (λ (x : CheckAnswer). x.number) e) (ap (λ (x : CheckAnswer). x.steps ∷ []) e) c.note-in-Err.ensures;
    }
