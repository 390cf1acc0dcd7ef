-- What a sheet's value means: cases along the value's definitions, in buffers of any lengths whatever lies in them.
use Prim.Native.Nat.{ℕ, ◌+◌, ◌*◌, ◌%◌, ◌≤◌, ◌<◌}
use native.Mathlib.Omega.{arith}
use mathlib.Core.Path.{◌≡◌, refl, sym, ap, ap₂}
use mathlib.Core.Bool.{Bool, true, false, cond}
use mathlib.Core.List.{List}
use lib.ListN.{length, take, replicate, length-replicate}
use lib.Dec.{eqb, leb, ltb}
use borrow.Author.Tests.{eq-eqb, eqb-true, eqb-false, leb-true, leb-false, ltb-true, ltb-false}
use Rattle.wcsp.specs.Row.{Row}
use Rattle.fields.specs.Limits.{max_variables, forbidden_cost}
use Rattle.sheet.proofs.Acceptance.{accepted_sheet}
use Rattle.sheet.specs.Sheet.{sheet_fault}
use Rattle.input.specs.Instance.{instance_fault, sizes_of, entries_of}
use Rattle.table.specs.Layout.{capacity}
use Rattle.making.specs.Made.{made_words}
use Rattle.making.specs.Calls.{Made, make_call}
use Rattle.making.proofs.Reading.{made_accepted}
use Rattle.encoding.specs.Calls.{encoded_rows, encode_call}
use Rattle.resolution.specs.Outcomes.{Outcome}
use Rattle.resolution.specs.Numbers.{outcome_number, outcome_field}
use Rattle.resolution.specs.Calls.{RunReturned, run_call}
use Rattle.assignment.specs.Calls.{plan_call}
use Rattle.checker.proofs.Encoded.{encodes, encode_tests, coded}
use Rattle.calls.specs.Demand.{RunEnds, none_left, limit_met, no_room}
use Rattle.littleendian.specs.Words.{words_in}
use Rattle.planning.specs.Solving.{buffer_words, table_buffer, step_limit, refused_solved, finished_solved, ended_solved, solve_table, solve_instance, with_instance, SolveReturned, solve_call, solve_bytes}
use Rattle.planning.specs.Theorems.{NoneBelow, Room, program_room, RunIn, HeldIn, SheetMeansIn, faulty, long_instance, many_rows, none_allowed, planned, paused, full, MeansIn, too_long, no_words, of_words, Lent, SolveMeans, BytesMean, SolvedMeans}
use Rattle.planning.proofs.Best.{done_is_best, done_is_forbidden, run_below, run_from}
use Rattle.making.proofs.MakeTests.{Making, written, too_short, at_fault, making, made_in}
use Rattle.sheet.proofs.Faults.{sheet_small}

refusal_same : (room : Room) (sheet : List ℕ) (k l : ℕ) → k ≡ l → SheetMeansIn room sheet (refused_solved l) → SheetMeansIn room sheet (refused_solved k)
refusal_same room sheet k l e r = rw e r

-- a run that a number stopped was stopped by 12
stopped_twelve : {ds : List ℕ} {cap most n a b : ℕ} {rs : List Row} (k : ℕ) → a ≡ k → RunEnds ds cap most n rs a b → b ≡ outcome_field (Outcome.Refused k) → k ≡ 12
unfolding outcome_field
stopped_twelve k e (none_left f) g = absurd (omega (arith, rw (← e) at g))
stopped_twelve k e (limit_met l pr f) g = absurd (omega (arith, rw (← e) at g))
stopped_twelve k e (no_room l pr f m) g = sym e

-- an accepted instance that a table with room for head, sizes and row count does not take: its rows are too many
encode_full : (inst t : List ℕ) (a b c : Bool) → eqb (instance_fault inst) 0 ≡ a → ltb (length t) (length (sizes_of inst) + 2) ≡ b
    → ltb (capacity (length t) (length (sizes_of inst))) (length (encoded_rows inst)) ≡ c → encode_call inst t ≡ encodes inst t a b c
    → instance_fault inst ≡ 0 → length (sizes_of inst) + 2 ≤ length t → ((encode_call inst t).answer.number ≡ 0 → ⊥)
    → ((encode_call inst t).answer.number ≡ 12) × (capacity (length t) (length (sizes_of inst)) < length (encoded_rows inst))
unfolding encodes
encode_full inst t true true c f g h e accepted room n = absurd (let l = ltb-true (length t) (length (sizes_of inst) + 2) g in omega arith)
encode_full inst t true false true f g h e accepted room n =
    (ap (λ r. r.answer.number) e, ltb-true (capacity (length t) (length (sizes_of inst))) (length (encoded_rows inst)) h)
encode_full inst t true false false f g h e accepted room n = absurd (n (ap (λ r. r.answer.number) e))
encode_full inst t false b c f g h e accepted room n = absurd (eqb-false (instance_fault inst) 0 f accepted)

module _ (room : Room) (limit : ℕ) (sheet instance table slice : List ℕ) (lent : Lent room limit instance table slice) where
  lt : length table ≡ room.table
  lt = lent.table_long

  li : length instance ≡ room.instance
  li = lent.instance_long

  -- ---- an accepted sheet whose instance is made

  module _ (fine : sheet_fault sheet ≡ 0) (short : length (made_words sheet) ≤ room.instance) where
    run_means : (encode_call (made_words sheet) table).answer.number ≡ 0
        → SheetMeansIn room sheet (solve_table limit (encode_call (made_words sheet) table).table slice).answer
    unfolding solve_table ended_solved finished_solved outcome_number outcome_field
    run_means e = go r.answer.outcome refl
      where
        r : RunReturned
        r = run_call (encode_call (made_words sheet) table).table limit slice

        held : HeldIn room sheet
        held =
            record {
              fine = fine;
              short = short;
              few = rw (← ap₂ (λ l ds. capacity l (length ds)) lt (made_accepted sheet fine).sizes) (coded (made_words sheet) table e).fits;
            }

        below : NoneBelow (sizes_of (made_words sheet)) (entries_of (made_words sheet)) r.answer.bound
        below = run_below sheet table slice limit fine e

        ran : (o : Outcome) → r.answer.outcome ≡ o → RunIn room (made_words sheet) r.answer.steps r.answer.bound (outcome_number o) (outcome_field o)
        ran o f = rw (← f) (run_from sheet table slice limit fine e room lt lent.ending)

        zeros : List ℕ
        zeros = replicate max_variables 0

        -- by the bound of a run that is done
        done : r.answer.outcome ≡ Outcome.Done → (b : Bool) → leb forbidden_cost r.answer.bound ≡ b
            → SheetMeansIn room sheet (finished_solved r.table r.answer.steps r.answer.bound)
        done f true b =
            let (refused, all) =
            done_is_forbidden sheet table slice zeros limit fine e (ap outcome_field f) (accepted_sheet sheet fine).sizes.most
            (leb-true forbidden_cost r.answer.bound b) in
            rw refused (none_allowed r.answer.steps r.answer.bound held all (ran Outcome.Done f))
        done f false b =
            let (number, best, free) =
            done_is_best sheet table slice zeros limit fine e (ap outcome_field f) (accepted_sheet sheet fine).sizes.most
            (leb-false forbidden_cost r.answer.bound b) in
            rw (eq-eqb (plan_call r.table zeros).number 0 number)
            (planned (plan_call r.table zeros).target r.answer.steps r.answer.bound held best free (ran Outcome.Done f))

        go : (o : Outcome) → r.answer.outcome ≡ o → SheetMeansIn room sheet (ended_solved r.table r.answer.steps r.answer.bound o)
        go Outcome.Done f = done f (leb forbidden_cost r.answer.bound) refl
        go Outcome.Paused f = paused r.answer.steps r.answer.bound held below (ran Outcome.Paused f)
        go (Outcome.Refused k) f =
            let x : RunIn room (made_words sheet) r.answer.steps r.answer.bound k (outcome_field (Outcome.Refused k)) = ran (Outcome.Refused k) f in
            let twelve : k ≡ 12 = stopped_twelve k refl x.ends refl in
            rw (eq-eqb k 12 twelve) (full r.answer.steps r.answer.bound held below (rw twelve at x))

    many_rows_lem : ((encode_call (made_words sheet) table).answer.number ≡ 0 → ⊥)
        → SheetMeansIn room sheet (refused_solved (encode_call (made_words sheet) table).answer.number)
    many_rows_lem n =
        let m = made_accepted sheet fine in
        let few = (accepted_sheet sheet fine).sizes.most in
        let (twelve, over) =
        encode_full (made_words sheet) table _ _ _ refl refl refl (encode_tests (made_words sheet) table) m.accepted
        (omega (arith, ap length m.sizes, lt, lent.front)) n in
        refusal_same room sheet _ 12 twelve (many_rows fine short (rw (← ap₂ (λ l ds. capacity l (length ds)) lt m.sizes) over))

    instance_means : SheetMeansIn room sheet (solve_instance (made_words sheet) limit table slice).answer
    unfolding solve_instance
    instance_means = go (eqb number 0) refl
      where
        number : ℕ
        number = (encode_call (made_words sheet) table).answer.number

        go : (b : Bool) → eqb number 0 ≡ b
            → SheetMeansIn room sheet
            (cond b (solve_table limit (encode_call (made_words sheet) table).table slice)
            (record { answer = refused_solved number; table = (encode_call (made_words sheet) table).table; steps = slice })
            ).answer
        go true e = run_means (eqb-true number 0 e)
        go false e = many_rows_lem (eqb-false number 0 e)

  -- ---- any sheet

  made_refusal : (r : Made) → Making sheet instance r → (r.answer.number ≡ 0 → ⊥) → SheetMeansIn room sheet (refused_solved r.answer.number)
  made_refusal _ (written fine room) n = absurd (n refl)
  made_refusal _ (too_short fine over) n = long_instance fine (rw li at over)
  made_refusal _ (at_fault some) n = faulty (sheet_fault sheet) refl (omega arith) (sheet_small sheet)

  sheet_means : SheetMeansIn room sheet (solve_call sheet limit instance table slice).answer
  unfolding solve_call
  sheet_means = go (eqb made.answer.number 0) refl
    where
      made : Made
      made = make_call sheet instance

      go : (b : Bool) → eqb made.answer.number 0 ≡ b
          → SheetMeansIn room sheet
          (cond b (with_instance made.target (solve_instance (take made.answer.value made.target) limit table slice))
          (record { answer = refused_solved made.answer.number; instance = made.target; table = table; steps = slice })
          ).answer
      go true e =
          let m = made_in sheet instance made (making sheet instance) (eqb-true made.answer.number 0 e) in
          rw m.made (instance_means m.fine (rw li at m.room))
      go false e = made_refusal made (making sheet instance) (eqb-false made.answer.number 0 e)

pub solve_means : SolveMeans
solve_means = sheet_means

-- ---- any bytes

pub bytes_mean : BytesMean
unfolding solve_bytes
bytes_mean room limit bytes instance table steps lent = go (ltb (4 * buffer_words) (length bytes)) (eqb (length bytes % 4) 0) refl refl
  where
    unread : ℕ → SolveReturned
    unread k = record { answer = refused_solved k; instance = instance; table = table; steps = steps }

    go : (b c : Bool) → ltb (4 * buffer_words) (length bytes) ≡ b → eqb (length bytes % 4) 0 ≡ c
        → MeansIn room bytes (cond b (unread 10) (cond c (solve_call (words_in bytes) limit instance table steps) (unread 1))).answer
    go true c e f = too_long (ltb-true (4 * buffer_words) (length bytes) e)
    go false true e f =
        of_words _ (ltb-false (4 * buffer_words) (length bytes) e) (eqb-true (length bytes % 4) 0 f)
        (sheet_means room limit (words_in bytes) instance table steps lent)
    go false false e f = no_words (ltb-false (4 * buffer_words) (length bytes) e) (eqb-false (length bytes % 4) 0 f)

-- the program's buffers
pub solved_means : SolvedMeans
solved_means bytes =
    bytes_mean program_room step_limit bytes (replicate buffer_words 0) (replicate table_buffer 0) (replicate buffer_words 0)
    (record {
      instance_long = length-replicate {A = ℕ} buffer_words 0;
      table_long = length-replicate {A = ℕ} table_buffer 0;
      front = omega arith;
      ending = omega (arith, length-replicate {A = ℕ} buffer_words 0);
    })
