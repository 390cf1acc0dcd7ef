-- What is planned is accepted: along the definitions to the one case with a plan, where the run was done and its bound allows one.
use Prim.Native.Nat.{ℕ, ◌*◌, ◌%◌, ◌≤◌}
use native.Mathlib.Omega.{arith}
use mathlib.Core.Path.{◌≡◌, refl, ap}
use mathlib.Core.Bool.{Bool, true, false, cond}
use mathlib.Core.List.{List}
use lib.ListN.{length, take, replicate}
use lib.Dec.{eqb, leb, ltb}
use borrow.Author.Tests.{eq-eqb, eqb-true, leb-true, leb-false, ltb-false}
use Rattle.fields.specs.Limits.{max_variables, forbidden_cost}
use Rattle.sheet.proofs.Acceptance.{accepted_sheet}
use Rattle.sheet.specs.Sheet.{sheet_fault}
use Rattle.making.specs.Made.{made_words}
use Rattle.making.specs.Calls.{Made, make_call}
use Rattle.making.proofs.MakeTests.{making, made_in}
use Rattle.encoding.specs.Calls.{encode_call}
use Rattle.resolution.specs.Outcomes.{Outcome}
use Rattle.resolution.specs.Numbers.{outcome_field}
use Rattle.resolution.specs.Calls.{RunReturned, run_call}
use Rattle.assignment.specs.Calls.{plan_call}
use Rattle.littleendian.specs.Words.{words_in}
use Rattle.planning.specs.Values.{Ending, Solved}
use Rattle.planning.specs.Solving.{buffer_words, stopped_solved, refused_solved, finished_solved, ended_solved, TableSolved, solve_table, solve_instance, with_instance, SolveReturned, solve_call, solve_bytes}
use Rattle.planning.specs.Theorems.{ClaimAccepted, PlannedIsAccepted}
use Rattle.planning.proofs.Best.{done_is_best, done_is_forbidden, done_is_accepted, run_few, run_written}

-- no other ending is a plan
not-planned : (s : Solved) (k : ℕ) → s ≡ refused_solved k → s.ending ≡ Ending.Planned → ⊥
not-planned s k e p = let z : ◌≡◌ {A = ℕ} 0 1 = cc in omega arith

module _ (limit : ℕ) (sheet instance table slice work : List ℕ) (same : length work ≡ length table) where
  -- ---- an accepted sheet whose instance is encoded

  module _ (fine : sheet_fault sheet ≡ 0) (coded : (encode_call (made_words sheet) table).answer.number ≡ 0) where
    r : RunReturned
    r = run_call (encode_call (made_words sheet) table).table limit slice

    zeros : List ℕ
    zeros = replicate max_variables 0

    IsClaimed : Solved → Type 0
    IsClaimed s = s.ending ≡ Ending.Planned → ClaimAccepted limit sheet work s r.slice

    done : r.answer.outcome ≡ Outcome.Done → (b : Bool) → leb forbidden_cost r.answer.bound ≡ b
        → IsClaimed (finished_solved r.table r.answer.steps r.answer.bound)
    unfolding r zeros IsClaimed finished_solved outcome_field
    done f true b p =
        let refused =
        (done_is_forbidden sheet table slice zeros limit fine coded (ap outcome_field f) (accepted_sheet sheet fine).sizes.most
        (leb-true forbidden_cost r.answer.bound b)).0 in
        absurd (not-planned (finished_solved r.table r.answer.steps r.answer.bound) 15 (rw refused) p)
    done f false b p =
        let light = leb-false forbidden_cost r.answer.bound b in
        let most = (accepted_sheet sheet fine).sizes.most in
        let (number, best, free) = done_is_best sheet table slice zeros limit fine coded (ap outcome_field f) most light in
        rw (eq-eqb (plan_call r.table zeros).number 0 number)
        (record {
          fine = fine;
          best = best;
          cheap = light;
          few = omega (arith, run_few (encode_call (made_words sheet) table).table slice limit);
          written = run_written sheet table slice limit fine coded;
          accepted = done_is_accepted sheet table slice zeros limit fine coded (ap outcome_field f) most light work same;
        })

    ended : (o : Outcome) → r.answer.outcome ≡ o → IsClaimed (ended_solved r.table r.answer.steps r.answer.bound o)
    unfolding r IsClaimed ended_solved
    ended Outcome.Done f p = done f (leb forbidden_cost r.answer.bound) refl p
    ended Outcome.Paused f p = absurd (let z : ◌≡◌ {A = ℕ} 0 1 = cc in omega arith)
    ended (Outcome.Refused k) f p = absurd (stops (eqb k 12) p)
      where
        stops : (b : Bool) → (cond b (stopped_solved Ending.Full r.answer.steps r.answer.bound) (refused_solved k)).ending ≡ Ending.Planned → ⊥
        stops true q = let z : ◌≡◌ {A = ℕ} 0 1 = cc in omega arith
        stops false q = let z : ◌≡◌ {A = ℕ} 0 1 = cc in omega arith

  -- ---- any sheet

  abbrev Claimed : TableSolved → Type 0
  Claimed s = s.answer.ending ≡ Ending.Planned → ClaimAccepted limit sheet work s.answer s.steps

  instance_claimed : sheet_fault sheet ≡ 0 → Claimed (solve_instance (made_words sheet) limit table slice)
  unfolding solve_instance solve_table r IsClaimed
  instance_claimed fine = go (eqb number 0) refl
    where
      number : ℕ
      number = (encode_call (made_words sheet) table).answer.number

      go : (b : Bool) → eqb number 0 ≡ b
          → Claimed
          (cond b (solve_table limit (encode_call (made_words sheet) table).table slice)
          (record { answer = refused_solved number; table = (encode_call (made_words sheet) table).table; steps = slice }))
      go true e p = ended fine (eqb-true number 0 e) (r fine (eqb-true number 0 e)).answer.outcome refl p
      go false e p = absurd (not-planned (refused_solved number) number refl p)

  sheet_claimed : (solve_call sheet limit instance table slice).answer.ending ≡ Ending.Planned
      → (length (made_words sheet) ≤ length instance)
      × ClaimAccepted limit sheet work (solve_call sheet limit instance table slice).answer (solve_call sheet limit instance table slice).steps
  unfolding solve_call
  sheet_claimed = go (eqb made.answer.number 0) refl
    where
      made : Made
      made = make_call sheet instance

      solved : Bool → SolveReturned
      solved b =
          cond b (with_instance made.target (solve_instance (take made.answer.value made.target) limit table slice))
          (record { answer = refused_solved made.answer.number; instance = made.target; table = table; steps = slice })

      go : (b : Bool) → eqb made.answer.number 0 ≡ b → (solved b).answer.ending ≡ Ending.Planned
          → (length (made_words sheet) ≤ length instance) × ClaimAccepted limit sheet work (solved b).answer (solved b).steps
      go true e p =
          let m = made_in sheet instance made (making sheet instance) (eqb-true made.answer.number 0 e) in
          (m.room, rw m.made (instance_claimed m.fine (rw m.made at p)))
      go false e p = absurd (not-planned (refused_solved made.answer.number) made.answer.number refl p)

-- ---- any bytes

pub planned_is_accepted : PlannedIsAccepted
unfolding solve_bytes
planned_is_accepted limit bytes instance table steps work same = go (ltb (4 * buffer_words) (length bytes)) (eqb (length bytes % 4) 0) refl refl
  where
    unread : ℕ → SolveReturned
    unread k = record { answer = refused_solved k; instance = instance; table = table; steps = steps }

    solved : Bool → Bool → SolveReturned
    solved b c = cond b (unread 10) (cond c (solve_call (words_in bytes) limit instance table steps) (unread 1))

    go : (b c : Bool) → ltb (4 * buffer_words) (length bytes) ≡ b → eqb (length bytes % 4) 0 ≡ c → (solved b c).answer.ending ≡ Ending.Planned
        → (length bytes ≤ 4 * buffer_words) × (length bytes % 4 ≡ 0) × (length (made_words (words_in bytes)) ≤ length instance)
        × ClaimAccepted limit (words_in bytes) work (solved b c).answer (solved b c).steps
    go true c e f p = absurd (not-planned (refused_solved 10) 10 refl p)
    go false true e f p =
        let (room, claim) = sheet_claimed limit (words_in bytes) instance table steps work same p in
        (ltb-false (4 * buffer_words) (length bytes) e, eqb-true (length bytes % 4) 0 f, room, claim)
    go false false e f p = absurd (not-planned (refused_solved 1) 1 refl p)
