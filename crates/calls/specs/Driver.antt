-- A list of calls as words, and what making them one after the other comes to. A call word has its kind in the top four bits: 0 a step; 1 a
-- run, its limit in bits 14-27 and the length of its slice in bits 0-13; 2 a plan, the length of its target in bits 0-27. Others ask for nothing.
use Rattle.std.specs.Prelude.{ℕ, Result, Ok, Err, ◌/◌, ◌%◌, ◌≡◌, cond, length, take, drop, eqb}
use mathlib.Core.List.{List, [], ◌∷◌, ◌++◌, Option-to_list}
use Rattle.std.proofs.Math.Option.{Option, none, some}
use Rattle.words.specs.Layout.{kind_of, payload_of}
use Rattle.encoding.specs.Calls.{encode_call}
use Rattle.assignment.specs.Calls.{plan_call}
use Rattle.fields.specs.declared.refusals.Refusal.{Refusal}
use Rattle.fields.specs.Numbers.{number_of}
use Rattle.calls.specs.Calls.{Call, step_asked, run_asked, plan_asked, six_asked, five_asked, State, after_call, after_calls, started}
use Rattle.calls.specs.Demand.{UpheldFrom}

abbrev pub limit_of : ℕ → ℕ
limit_of w = payload_of w / 16384

abbrev pub slice_of : ℕ → ℕ
slice_of w = payload_of w % 16384

-- the call that a word asks for, given the words that are free for step words and the target's bytes; a step needs a place for its word
unfoldable pub asked : List ℕ → List ℕ → ℕ → Option Call
asked free target w =
    cond (eqb (kind_of w) 0) (cond (eqb (length free) 0) none (some step_asked))
    (cond (eqb (kind_of w) 1) (some (run_asked (limit_of w) (take (slice_of w) free)))
    (cond (eqb (kind_of w) 2) (some (plan_asked (take (payload_of w) target))) none))

-- the table and the derivation, and the target that the plans are written to
pub record Driving : Type 0 where
  pub state : State
  pub target : List ℕ

unfoldable pub target_after : List ℕ → List ℕ → Call → List ℕ
target_after t target step_asked = target
target_after t target (run_asked limit slice) = target
target_after t target (plan_asked lent) = (plan_call t lent).target ++ drop (length lent) target
target_after t target (six_asked lent) = target
target_after t target (five_asked lent) = target

unfoldable pub drive_call : Driving → Option Call → Driving
unfolding target_after
drive_call d none = d
drive_call d (some c) = record { state = after_call d.state c; target = target_after d.state.table d.target c }

-- step words fill the slice from the front, so what lies behind the derivation is as it was lent
unfoldable pub drive_word : List ℕ → Driving → ℕ → Driving
unfolding asked drive_call
drive_word out d w = drive_call d (asked (drop (length d.state.derivation) out) d.target w)

unfoldable pub drive_words : List ℕ → Driving → List ℕ → Driving
unfolding drive_word
drive_words out d [] = d
drive_words out d (w ∷ ws) = drive_words out (drive_word out d w) ws

-- the calls that the words ask for, each from what the words before it left
unfoldable pub calls_asked : List ℕ → Driving → List ℕ → List Call
unfolding drive_word
calls_asked out d [] = []
calls_asked out d (w ∷ ws) =
    Option-to_list (asked (drop (length d.state.derivation) out) d.target w) ++ calls_asked out (drive_word out d w) ws

-- what the driver does to the table and the derivation is a list of calls
abbrev pub DrivesCalls : Type 0
DrivesCalls = (out : List ℕ) (d : Driving) (ws : List ℕ) → (drive_words out d ws).state ≡ after_calls d.state (calls_asked out d ws)

-- the slice for step words with a derivation in front
abbrev pub written : List ℕ → List ℕ → List ℕ
written out ws = ws ++ drop (length ws) out

-- the number of the encoding, and how many steps the calls made
pub record Driven : Type 0 where
  pub number : ℕ
  pub steps : ℕ

-- what the driver's result says
abbrev pub driven_as : Result ℕ Refusal → Driven
driven_as (Ok steps) = record { number = 0; steps = steps }
driven_as (Err r) = record { number = number_of r; steps = 0 }

-- an answer, the table, the slice of step words and the target as the call returns
pub record DriveReturned : Type 0 where
  pub answer : Driven
  pub table : List ℕ
  pub out : List ℕ
  pub target : List ℕ

-- where the driver starts, and what it returns once it has made the calls
abbrev pub start_of : List ℕ → List ℕ → List ℕ → Driving
start_of inst t target = record { state = started inst t; target = target }

abbrev pub drive_returns : List ℕ → Driving → DriveReturned
drive_returns out d =
    record {
      answer = record { number = 0; steps = length d.state.derivation };
      table = d.state.table;
      out = written out d.state.derivation;
      target = d.target;
    }

-- drive: the encoding's refusals with memory unchanged; else each call in turn
unfoldable pub drive_all : List ℕ → List ℕ → List ℕ → List ℕ → List ℕ → DriveReturned
unfolding drive_words
drive_all inst t calls out target =
    let coded = encode_call inst t in
    cond (eqb coded.answer.number 0) (drive_returns out (drive_words out (start_of inst t target) calls))
    (record { answer = record { number = coded.answer.number; steps = 0 }; table = t; out = out; target = target })

-- the driver's promise: what it answers and leaves, and where the encoding is good, demand 3 of the table and of the derivation in front of its slice
abbrev pub Drives : List ℕ → List ℕ → List ℕ → List ℕ → List ℕ → DriveReturned → Type 0
Drives inst t calls out target r =
    (r ≡ drive_all inst t calls out target) × (r.answer.number ≡ 0 → UpheldFrom inst t r.table (take r.answer.steps r.out))
