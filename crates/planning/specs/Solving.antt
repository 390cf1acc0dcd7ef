-- What planning a sheet comes to: in lent buffers, with what it leaves there, and for bytes in the program's own.
use Rattle.std.specs.Prelude.{ℕ, ◌*◌, ◌%◌, cond, List, length, take, replicate, eqb, ltb, Result, Ok, Err}
use Rattle.fields.specs.Limits.{max_variables}
use Rattle.fields.specs.Numbers.{number_of}
use Rattle.fields.specs.declared.refusals.Refusal.{Refusal}
use Rattle.making.specs.Calls.{make_call}
use Rattle.encoding.specs.Calls.{encode_call}
use Rattle.resolution.specs.Outcomes.{Outcome}
use Rattle.resolution.specs.Calls.{run_call}
use Rattle.assignment.specs.Calls.{plan_call}
use Rattle.planning.specs.declared.Solved.{Solved as Answered}
use Rattle.planning.specs.Values.{Ending, Solved, solved_as}
use Rattle.littleendian.specs.Words.{words_in}

-- the program's buffers in words, one of buffer_words for each of sheet, instance and steps; the limit of its run. A sheet has no more words in any program
abbrev pub buffer_words : ℕ
buffer_words = 16000

abbrev pub table_buffer : ℕ
table_buffer = 15998

abbrev pub step_limit : ℕ
step_limit = 16000

-- ---- values

-- a run that was stopped has its steps and its bound, and no plan
abbrev pub stopped_solved : Ending → ℕ → ℕ → Solved
stopped_solved e steps bound = record { ending = e; steps = steps; bound = bound; plan = replicate max_variables 0 }

-- a refusal has its number, other fields 0
abbrev pub refused_solved : ℕ → Solved
refused_solved k = stopped_solved (Ending.Refused k) 0 0

-- the value of what was planned, or of a refusal
abbrev pub value_of : Result Answered Refusal → Solved
value_of (Ok s) = solved_as s
value_of (Err r) = refused_solved (number_of r)

abbrev pub planned_solved : List ℕ → ℕ → ℕ → Solved
planned_solved plan steps bound = record { ending = Ending.Planned; steps = steps; bound = bound; plan = plan }

-- the paper's number of an ending: a plan and a pause are successes, a full table is 12
unfoldable pub ending_number : Ending → ℕ
ending_number (Ending.Refused k) = k
ending_number Ending.Planned = 0
ending_number Ending.Paused = 0
ending_number Ending.Full = 12

-- ---- what a run came to

-- a finished run: the plan call's number decides, and 0 has the bytes that it writes to a zero target
unfoldable pub finished_solved : List ℕ → ℕ → ℕ → Solved
finished_solved table steps bound =
    let planned = plan_call table (replicate max_variables 0) in
    cond (eqb planned.number 0) (planned_solved planned.target steps bound) (refused_solved planned.number)

-- the plan; paused; full if 12 stopped it, and a refusal if another number did
unfoldable pub ended_solved : List ℕ → ℕ → ℕ → Outcome → Solved
ended_solved table steps bound Outcome.Done = finished_solved table steps bound
ended_solved table steps bound Outcome.Paused = stopped_solved Ending.Paused steps bound
ended_solved table steps bound (Outcome.Refused k) = cond (eqb k 12) (stopped_solved Ending.Full steps bound) (refused_solved k)

-- ---- the calls in turn, with the slices as they are left

pub record TableSolved : Type 0 where
  pub answer : Solved
  pub table : List ℕ
  pub steps : List ℕ

-- a table run to a limit, with a slice for its step words
unfoldable pub solve_table : ℕ → List ℕ → List ℕ → TableSolved
solve_table limit table steps =
    let ran = run_call table limit steps in
    record {
      answer = ended_solved ran.table ran.answer.steps ran.answer.bound ran.answer.outcome;
      table = ran.table;
      steps = ran.slice;
    }

-- an instance encoded in a table and run
unfoldable pub solve_instance : List ℕ → ℕ → List ℕ → List ℕ → TableSolved
solve_instance instance limit table steps =
    let coded = encode_call instance table in
    cond (eqb coded.answer.number 0) (solve_table limit coded.table steps)
    (record { answer = refused_solved coded.answer.number; table = coded.table; steps = steps })

pub record SolveReturned : Type 0 where
  pub answer : Solved
  pub instance : List ℕ
  pub table : List ℕ
  pub steps : List ℕ

abbrev pub with_instance : List ℕ → TableSolved → SolveReturned
with_instance instance s = record { answer = s.answer; instance = instance; table = s.table; steps = s.steps }

-- a sheet made an instance in a buffer, of which the front is encoded and run
unfoldable pub solve_call : List ℕ → ℕ → List ℕ → List ℕ → List ℕ → SolveReturned
solve_call sheet limit instance table steps =
    let made = make_call sheet instance in
    cond (eqb made.answer.number 0)
    (with_instance made.target (solve_instance (take made.answer.value made.target) limit table steps))
    (record { answer = refused_solved made.answer.number; instance = made.target; table = table; steps = steps })

-- ---- bytes

-- a sheet's bytes planned in lent buffers: over 64,000 is 10, else a length not a multiple of four is 1, and the buffers stay
unfoldable pub solve_bytes : List ℕ → ℕ → List ℕ → List ℕ → List ℕ → SolveReturned
solve_bytes bytes limit instance table steps =
    let unread : ℕ → SolveReturned = λ k. record { answer = refused_solved k; instance = instance; table = table; steps = steps } in
    cond (ltb (4 * buffer_words) (length bytes)) (unread 10)
    (cond (eqb (length bytes % 4) 0) (solve_call (words_in bytes) limit instance table steps) (unread 1))

-- in the program's buffers, which are all zero
abbrev pub solved_of : List ℕ → Solved
solved_of bytes = (solve_bytes bytes step_limit (replicate buffer_words 0) (replicate table_buffer 0) (replicate buffer_words 0)).answer
