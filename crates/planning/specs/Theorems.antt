-- What a sheet's value means: a refusal with its reason; the best assignment of the sheet's instance, with its cost; or a bound on every cost.
use Rattle.std.specs.Prelude.{ℕ, ◌*◌, ◌%◌, ◌≤◌, ◌<◌, min, ◌≡◌, false, List, length, take}
use Rattle.wcsp.specs.Clause.{InRange}
use Rattle.wcsp.specs.Row.{Row, empty_weight}
use Rattle.wcsp.specs.Entry.{Entry, cost}
use Rattle.fields.specs.Limits.{max_variables, forbidden_cost}
use Rattle.fields.specs.Forbidden.{has_forbidden, AllForbidden}
use Rattle.sheet.specs.Sheet.{sheet_fault, sheet_sizes}
use Rattle.input.specs.Instance.{sizes_of, entries_of}
use Rattle.table.specs.Layout.{rows_at, capacity}
use Rattle.making.specs.Made.{made_words}
use Rattle.encoding.specs.Calls.{encoded_rows, encode_call}
use Rattle.resolution.specs.Calls.{run_call}
use Rattle.resolution.specs.Numbers.{outcome_field}
use Rattle.assignment.specs.Calls.{plan_call}
use Rattle.checker.specs.Calls.{check_call}
use Rattle.checker.specs.Theorems.{Best}
use Rattle.calls.specs.Calls.{Derives}
use Rattle.calls.specs.Demand.{RunEnds}
use Rattle.planning.specs.Values.{Ending, Solved}
use Rattle.littleendian.specs.Words.{words_in}
use Rattle.planning.specs.Solving.{buffer_words, table_buffer, step_limit, refused_solved, stopped_solved, planned_solved, ending_number, solve_call, solve_bytes, solved_of}

-- for every accepted sheet, every table that takes its encoding, every limit and slice: once the run is done, with a bound below a forbidden entry's
-- cost, the plan call is good, the bytes that it writes to a target with room for them are an assignment of least cost, that cost is the bound that the
-- run returned, and the assignment has no forbidden combination
abbrev pub DoneIsBest : Type 0
DoneIsBest = (sheet t slice target : List ℕ) (limit : ℕ) → sheet_fault sheet ≡ 0 → (encode_call (made_words sheet) t).answer.number ≡ 0
    → let r = run_call (encode_call (made_words sheet) t).table limit slice in
    outcome_field r.answer.outcome ≡ 0
    → length (sheet_sizes sheet) ≤ length target
    → r.answer.bound < forbidden_cost
    → let plan = take (length (sheet_sizes sheet)) (plan_call r.table target).target in
    ((plan_call r.table target).number ≡ 0)
    × Best (sizes_of (made_words sheet)) (entries_of (made_words sheet)) plan r.answer.bound
    × (has_forbidden (entries_of (made_words sheet)) plan ≡ false)

-- with any other bound the plan call is refused with 15, and every assignment has a forbidden combination
abbrev pub DoneIsForbidden : Type 0
DoneIsForbidden = (sheet t slice target : List ℕ) (limit : ℕ) → sheet_fault sheet ≡ 0 → (encode_call (made_words sheet) t).answer.number ≡ 0
    → let r = run_call (encode_call (made_words sheet) t).table limit slice in
    outcome_field r.answer.outcome ≡ 0
    → length (sheet_sizes sheet) ≤ length target
    → forbidden_cost ≤ r.answer.bound
    → (plan_call r.table target ≡ record { number = 15; target = target })
    × AllForbidden (sizes_of (made_words sheet)) (entries_of (made_words sheet))

-- and with the bound below that cost the checker accepts what the run wrote: its step words, that plan and that bound, in every work table as long as t
abbrev pub DoneIsAccepted : Type 0
DoneIsAccepted = (sheet t slice target : List ℕ) (limit : ℕ) → sheet_fault sheet ≡ 0 → (encode_call (made_words sheet) t).answer.number ≡ 0
    → let r = run_call (encode_call (made_words sheet) t).table limit slice in
    outcome_field r.answer.outcome ≡ 0
    → length (sheet_sizes sheet) ≤ length target
    → r.answer.bound < forbidden_cost
    → let plan = take (length (sheet_sizes sheet)) (plan_call r.table target).target in
    (work : List ℕ) → length work ≡ length t
    → (check_call (made_words sheet) (take r.answer.steps r.slice) plan r.answer.bound work).answer ≡ record { number = 0; steps = r.answer.steps }

-- a bound that no assignment undercuts
abbrev pub NoneBelow : List ℕ → List Entry → ℕ → Type 0
NoneBelow ds es b = (p : List ℕ) → InRange ds p → b ≤ cost es p

-- the room that a sheet is planned in: the words of the instance's buffer and of the table, and the most steps, the lesser of limit and slice
pub record Room : Type 0 where
  pub instance : ℕ
  pub table : ℕ
  pub most : ℕ

-- the program's
abbrev pub program_room : Room
program_room = record { instance = buffer_words; table = table_buffer; most = step_limit }

-- so many steps from the encoding of an instance, each on the next pair, led to rows whose empty row has this weight, and ended with this number and
-- outcome field in a table of this room
pub record RunIn (room : Room) (inst : List ℕ) (steps bound number field : ℕ) : Type 0 where
  pub words : List ℕ
  pub rows : List Row
  pub derived : Derives (sizes_of inst) (encoded_rows inst) words rows
  pub made : length words ≡ steps
  pub weight : empty_weight (length (sizes_of inst)) rows ≡ bound
  pub ends : RunEnds (sizes_of inst) (capacity room.table (length (sizes_of inst))) room.most steps rows number field

-- an accepted sheet whose instance the buffer holds, and the table the rows of its encoding
pub record HeldIn (room : Room) (sheet : List ℕ) : Type 0 where
  pub fine : sheet_fault sheet ≡ 0
  pub short : length (made_words sheet) ≤ room.instance
  pub few : length (encoded_rows (made_words sheet)) ≤ capacity room.table (length (sheet_sizes sheet))

-- what a value says of a sheet's words
pub data SheetMeansIn (room : Room) (sheet : List ℕ) : Solved → Type 0 where
  -- the sheet has a fault
  faulty : (k : ℕ) → sheet_fault sheet ≡ k → 1 ≤ k → k ≤ 5 → SheetMeansIn room sheet (refused_solved k)
  -- else its instance is longer than the buffer
  long_instance : sheet_fault sheet ≡ 0 → room.instance < length (made_words sheet) → SheetMeansIn room sheet (refused_solved 10)
  -- else its encoding has more rows than the table takes
  many_rows : sheet_fault sheet ≡ 0 → length (made_words sheet) ≤ room.instance
      → capacity room.table (length (sheet_sizes sheet)) < length (encoded_rows (made_words sheet)) → SheetMeansIn room sheet (refused_solved 12)
  -- no pair is left, and every assignment has a forbidden combination
  none_allowed : (steps b : ℕ) → HeldIn room sheet → AllForbidden (sizes_of (made_words sheet)) (entries_of (made_words sheet))
      → RunIn room (made_words sheet) steps b 0 0 → SheetMeansIn room sheet (refused_solved 15)
  -- no pair is left: the best assignment, which has no forbidden combination, and its cost
  planned : (plan : List ℕ) (steps least : ℕ) → HeldIn room sheet
      → Best (sizes_of (made_words sheet)) (entries_of (made_words sheet)) (take (length (sheet_sizes sheet)) plan) least
      → has_forbidden (entries_of (made_words sheet)) (take (length (sheet_sizes sheet)) plan) ≡ false
      → RunIn room (made_words sheet) steps least 0 0 → SheetMeansIn room sheet (planned_solved plan steps least)
  -- the limit is reached: a bound on every cost
  paused : (steps b : ℕ) → HeldIn room sheet → NoneBelow (sizes_of (made_words sheet)) (entries_of (made_words sheet)) b
      → RunIn room (made_words sheet) steps b 0 1 → SheetMeansIn room sheet (stopped_solved Ending.Paused steps b)
  -- the next step has more rows than the table takes: a bound on every cost
  full : (steps b : ℕ) → HeldIn room sheet → NoneBelow (sizes_of (made_words sheet)) (entries_of (made_words sheet)) b
      → RunIn room (made_words sheet) steps b 12 2 → SheetMeansIn room sheet (stopped_solved Ending.Full steps b)

-- what a value says of bytes
pub data MeansIn (room : Room) (bytes : List ℕ) : Solved → Type 0 where
  -- more than 64,000
  too_long : 4 * buffer_words < length bytes → MeansIn room bytes (refused_solved 10)
  -- else no whole words
  no_words : length bytes ≤ 4 * buffer_words → (length bytes % 4 ≡ 0 → ⊥) → MeansIn room bytes (refused_solved 1)
  -- else what it says of their words
  of_words : (s : Solved) → length bytes ≤ 4 * buffer_words → length bytes % 4 ≡ 0 → SheetMeansIn room (words_in bytes) s → MeansIn room bytes s

-- in the program's room
abbrev pub RunFrom : List ℕ → ℕ → ℕ → ℕ → ℕ → Type 0
RunFrom = RunIn program_room

abbrev pub Held : List ℕ → Type 0
Held = HeldIn program_room

abbrev pub SheetMeans : List ℕ → Solved → Type 0
SheetMeans = SheetMeansIn program_room

abbrev pub Means : List ℕ → Solved → Type 0
Means = MeansIn program_room

-- buffers of a room, whatever lies in them: the table takes the front of every table, and the steps end at the limit or with the slice
pub record Lent (room : Room) (limit : ℕ) (instance table steps : List ℕ) : Type 0 where
  pub instance_long : length instance ≡ room.instance
  pub table_long : length table ≡ room.table
  pub front : rows_at max_variables ≤ room.table
  pub ending : min limit (length steps) ≡ room.most

-- every sheet's value, and that of all bytes, in any such buffers
abbrev pub SolveMeans : Type 0
SolveMeans = (room : Room) (limit : ℕ) (sheet instance table steps : List ℕ) → Lent room limit instance table steps
    → SheetMeansIn room sheet (solve_call sheet limit instance table steps).answer

abbrev pub BytesMean : Type 0
BytesMean = (room : Room) (limit : ℕ) (bytes instance table steps : List ℕ) → Lent room limit instance table steps
    → MeansIn room bytes (solve_bytes bytes limit instance table steps).answer

-- all bytes' value in the program
abbrev pub SolvedMeans : Type 0
SolvedMeans = (bytes : List ℕ) → Means bytes (solved_of bytes)

-- the numbers that a sheet can meet
pub data SheetNumber : ℕ → Type 0 where
  success : SheetNumber 0
  fault : (k : ℕ) → 1 ≤ k → k ≤ 5 → SheetNumber k
  too_short : SheetNumber 10
  too_many : SheetNumber 12
  no_plan : SheetNumber 15

abbrev pub SolvedNumbers : Type 0
SolvedNumbers = (bytes : List ℕ) → SheetNumber (ending_number (solved_of bytes).ending)

-- a sheet's plan and cost, and the words of its steps, no more than a limit, are a claim that the checker accepts in this work table
pub record ClaimAccepted (limit : ℕ) (sheet work : List ℕ) (s : Solved) (steps : List ℕ) : Type 0 where
  pub fine : sheet_fault sheet ≡ 0
  pub best : Best (sizes_of (made_words sheet)) (entries_of (made_words sheet)) (take (length (sheet_sizes sheet)) s.plan) s.bound
  pub cheap : s.bound < forbidden_cost
  pub few : s.steps ≤ limit
  pub written : length (take s.steps steps) ≡ s.steps
  pub accepted : (check_call (made_words sheet) (take s.steps steps) (take (length (sheet_sizes sheet)) s.plan) s.bound work).answer
      ≡ record { number = 0; steps = s.steps }

-- so it is for all bytes that come to a plan, in any buffers and with any limit, and every work table as long as the table lent
abbrev pub PlannedIsAccepted : Type 0
PlannedIsAccepted = (limit : ℕ) (bytes instance table steps work : List ℕ) → length work ≡ length table
    → let r = solve_bytes bytes limit instance table steps in
    r.answer.ending ≡ Ending.Planned
    → (length bytes ≤ 4 * buffer_words) × (length bytes % 4 ≡ 0) × (length (made_words (words_in bytes)) ≤ length instance)
    × ClaimAccepted limit (words_in bytes) work r.answer r.steps
