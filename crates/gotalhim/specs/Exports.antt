-- What each exported call gives back, by the definition of the call that it makes. The plan call, which has no answer slice, gives back `plan_call` itself.
use Rattle.std.specs.Prelude.{ℕ, ◌≡◌, List, [], ◌∷◌, take}
use Rattle.cost.specs.Calls.{cost_call}
use Rattle.making.specs.Calls.{make_call}
use Rattle.encoding.specs.Calls.{encode_call}
use Rattle.resolution.specs.Calls.{step_call, run_call}
use Rattle.resolution.specs.Numbers.{step_number, step_fields, run_number, run_fields}
use Rattle.completion.specs.Calls.{complete_call}
use Rattle.conversion.specs.Calls.{to_six_call, to_five_call}
use Rattle.readout.specs.Calls.{readout_call}
use Rattle.checker.specs.Calls.{check_call}
use Rattle.calls.specs.Demand.{UpheldFrom}
use Rattle.calls.specs.Driver.{drive_all}
use Rattle.answers.specs.Noted.{noted}

-- the number that is returned, 0 for success; the lent slices that the call may write to, as they are left, in the order of the
-- parameters; and the answer slice, the last parameter, with the fields behind the number noted in front
pub record Exported : Type 0 where
  pub number : ℕ
  pub slices : List (List ℕ)
  pub answer : List ℕ

-- make: the target, and the words written
abbrev pub make_export : List ℕ → List ℕ → List ℕ → Exported
make_export sheet target answer =
    let c = make_call sheet target in
    record { number = c.answer.number; slices = c.target ∷ []; answer = noted answer (c.answer.value ∷ []) }

-- encode: the table, and its rows
abbrev pub encode_export : List ℕ → List ℕ → List ℕ → Exported
encode_export instance table answer =
    let c = encode_call instance table in
    record { number = c.answer.number; slices = c.table ∷ []; answer = noted answer (c.answer.value ∷ []) }

-- step: the table; 1 if no pair is left, else 0, and the step word
abbrev pub step_export : List ℕ → List ℕ → Exported
step_export table answer =
    let c = step_call table in
    record { number = step_number c.answer; slices = c.table ∷ []; answer = noted answer (step_fields c.answer) }

-- run: the table and the derivation; the outcome, the steps made and the bound
abbrev pub run_export : List ℕ → ℕ → List ℕ → List ℕ → Exported
run_export table limit derivation answer =
    let c = run_call table limit derivation in
    record { number = run_number c.answer; slices = c.table ∷ (c.slice ∷ []); answer = noted answer (run_fields c.answer) }

-- complete: the target, and the cost
abbrev pub complete_export : List ℕ → ℕ → List ℕ → List ℕ → List ℕ → Exported
complete_export table k fixed target answer =
    let c = complete_call table k fixed target in
    record { number = c.answer.number; slices = c.target ∷ []; answer = noted answer (c.answer.value ∷ []) }

-- to six-word rows, and back to five: the target, and its rows
abbrev pub six_export : List ℕ → List ℕ → List ℕ → Exported
six_export source target answer =
    let c = to_six_call source target in
    record { number = c.answer.number; slices = c.target ∷ []; answer = noted answer (c.answer.value ∷ []) }

abbrev pub five_export : List ℕ → List ℕ → List ℕ → Exported
five_export source target answer =
    let c = to_five_call source target in
    record { number = c.answer.number; slices = c.target ∷ []; answer = noted answer (c.answer.value ∷ []) }

-- check: the work table, and the steps replayed
abbrev pub check_export : List ℕ → List ℕ → List ℕ → ℕ → List ℕ → List ℕ → Exported
check_export instance derivation plan claimed table answer =
    let c = check_call instance derivation plan claimed table in
    record { number = c.answer.number; slices = c.table ∷ []; answer = noted answer (c.answer.steps ∷ []) }

-- readout: the metres
abbrev pub readout_export : List ℕ → List ℕ → ℕ → ℕ → ℕ → List ℕ → Exported
readout_export sheet plan variable easting northing answer =
    let c = readout_call sheet plan variable easting northing in
    record { number = c.number; slices = []; answer = noted answer (c.value ∷ []) }

-- cost: the cost
abbrev pub cost_export : List ℕ → List ℕ → List ℕ → Exported
cost_export instance plan answer =
    let c = cost_call instance plan in
    record { number = c.number; slices = []; answer = noted answer (c.value ∷ []) }

-- drive: the table, the derivation and the target; the steps made
abbrev pub drive_export : List ℕ → List ℕ → List ℕ → List ℕ → List ℕ → List ℕ → Exported
drive_export instance table calls derivation target answer =
    let c = drive_all instance table calls derivation target in
    record { number = c.answer.number; slices = c.table ∷ (c.out ∷ (c.target ∷ [])); answer = noted answer (c.answer.steps ∷ []) }

-- drive, where it returns 0: demand 3 of the table that it leaves, and of the derivation in front of its slice
abbrev pub DriveUpholds : List ℕ → List ℕ → List ℕ → List ℕ → List ℕ → ℕ → List ℕ → List ℕ → Type 0
DriveUpholds instance table calls derivation target number table' derivation' =
    let steps = (drive_all instance table calls derivation target).answer.steps in
    number ≡ 0 → UpheldFrom instance table table' (take steps derivation')
