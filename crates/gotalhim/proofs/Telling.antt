-- What an export gives back is its definition's, by what the call that it makes returned and by what was noted of it.
use Prim.Native.Nat.{ℕ}
use mathlib.Core.Path.{◌≡◌, sym, ap}
use mathlib.Core.List.{List, [], ◌∷◌}
use Rattle.resolution.specs.Answers.{StepAnswer}
use Rattle.resolution.specs.Outcomes.{RunAnswer}
use Rattle.resolution.specs.Calls.{StepReturned, step_call}
use Rattle.resolution.specs.Numbers.{step_number, step_fields, outcome_field, run_fields}
use Rattle.calls.specs.Driver.{DriveReturned, Drives}
use Rattle.answers.specs.Noted.{noted}
use Rattle.gotalhim.specs.Exports.{Exported, step_export, DriveUpholds}

-- number, slices and fields of whatever a call returns: `r` is what it returned, `call` its definition
pub told : {R : Type 0} (number : R → ℕ) (slices : R → List (List ℕ)) (fields : R → List ℕ) (r call : R) (k : ℕ) (vs xs ys : List ℕ)
    → r ≡ call → k ≡ number r → vs ≡ fields r → ys ≡ noted xs vs
    → ◌≡◌ {A = Exported} (record { number = k; slices = slices r; answer = ys })
    (record { number = number call; slices = slices call; answer = noted xs (fields call) })
told number slices fields r call k vs xs ys e n f h = rw (n, h, f, e)

-- `found` is the answer as a match found it
pub step_told : (t t' xs ys : List ℕ) (answer found : StepAnswer)
    → ◌≡◌ {A = StepReturned} (record { answer = answer; table = t' }) (step_call t) → answer ≡ found → ys ≡ noted xs (step_fields found)
    → ◌≡◌ {A = Exported} (record { number = step_number found; slices = t' ∷ []; answer = ys }) (step_export t xs)
step_told t t' xs ys answer found e f h =
    told (λ (s : StepReturned). step_number s.answer) (λ s. s.table ∷ []) (λ s. step_fields s.answer) _ _ _ _ _ _ e
    (ap step_number (sym f)) (ap step_fields (sym f)) h

pub run_fields_lem : (ran : RunAnswer) (field : ℕ) → field ≡ outcome_field ran.outcome → field ∷ (ran.steps ∷ (ran.bound ∷ [])) ≡ run_fields ran
run_fields_lem ran field e = ap (λ (o : ℕ). o ∷ (ran.steps ∷ (ran.bound ∷ []))) e

-- the driver's promise counts the steps by its answer
pub drive_upholds : (inst t calls out target : List ℕ) (r : DriveReturned) → Drives inst t calls out target r
    → DriveUpholds inst t calls out target r.answer.number r.table r.out
drive_upholds inst t calls out target r (e, u) = λ good. let s = ap (λ (d : DriveReturned). d.answer.steps) e in rw s at (u good)
