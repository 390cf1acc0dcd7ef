-- `gotalhim::gotalhim_drive`: the answer's number, with its steps noted, and what the driver upholds where that number is 0.
use mathlib.Core.Path.{refl}
use mathlib.Core.List.{[], ◌∷◌}
use Rattle.calls.specs.Driver.{DriveReturned}
use Rattle.gotalhim.proofs.Telling.{told, drive_upholds}
use Rattle.gotalhim.proofs.gotalhim_drive.Goals as goal

pub returns-in-Ok : goal.returns-in-Ok
returns-in-Ok c =
    let called = rw c.in-Ok.is at c.drive.ensures.driven in record {
      returned = told (λ (d : DriveReturned). d.answer.number) (λ d. d.table ∷ (d.out ∷ (d.target ∷ []))) (λ d. d.answer.steps ∷ []) _ _ _ _ _ _
          called.0 refl refl c.note.ensures;
      upheld = drive_upholds _ _ _ _ _ _ called;
    }

pub returns-in-Err : goal.returns-in-Err
returns-in-Err c =
    let called = rw c.in-Err.is at c.drive.ensures.driven in record {
      returned = told (λ (d : DriveReturned). d.answer.number) (λ d. d.table ∷ (d.out ∷ (d.target ∷ []))) (λ d. d.answer.steps ∷ []) _ _ _ _ _ _
          called.0 c.number.ensures refl c.note-in-Err.ensures;
      upheld = rw (← c.number.ensures) at (drive_upholds _ _ _ _ _ _ called);
    }
