-- The derivation that the planner makes is one that the checker accepts: from the same instance, in a work table with room for the most rows that
-- it ever had, and so, where no table was converted on the way, in one of the same length.
use Rattle.std.specs.Prelude.{ℕ, ◌≤◌, ◌<◌, max, ◌≡◌, true, List, [], ◌∷◌, length, take}
use Rattle.std.proofs.Math.Option.{none}
use Rattle.wcsp.specs.Row.{Row, empty_weight}
use Rattle.wcsp.specs.Resolve.{next_pair, resolve}
use Rattle.wcsp.specs.Rebuild.{rebuilt}
use Rattle.input.specs.Instance.{instance_fault, sizes_of}
use Rattle.table.specs.Layout.{rows_at}
use Rattle.table.specs.Meaning.{own_rows}
use Rattle.table.specs.Valid.{valid_table}
use Rattle.encoding.specs.Calls.{encoded_rows, encode_call}
use Rattle.stepping.specs.Step.{word_pair}
use Rattle.assignment.specs.Calls.{table_assignment}
use Rattle.checker.specs.Calls.{check_call}
use Rattle.calls.specs.Calls.{Call, State, in_place, started, after_calls, Derives}
use Rattle.calls.specs.Demand.{room, Comes}
use Rattle.calls.specs.Driver.{drive_all}

-- "the most rows the derivation ever had": from these rows on, by the pairs that its words name. A step counts when it is finished.
unfoldable pub most_rows : List ℕ → List Row → List ℕ → ℕ
most_rows ds rs [] = length rs
most_rows ds rs (w ∷ ws) = max (length rs) (most_rows ds (resolve ds (word_pair w) rs) ws)

-- the most rows that the steps from the encoding on ever had
abbrev pub needs : List ℕ → List ℕ → ℕ
needs inst ws = most_rows (sizes_of inst) (encoded_rows inst) ws

-- a work table is long enough for head, sizes and row count
abbrev pub TakesFront : List ℕ → List ℕ → Type 0
TakesFront inst work = rows_at (length (sizes_of inst)) ≤ length work

-- every step is replayed, and the claim of this assignment with the empty row's weight of these rows holds
abbrev pub Accepts : List ℕ → List ℕ → List ℕ → List Row → List ℕ → Type 0
Accepts inst ws plan rs work =
    (check_call inst ws plan (empty_weight (length (sizes_of inst)) rs) work).answer ≡ record { number = 0; steps = length ws }

-- room for the most rows is enough, by whatever calls and in whatever slices the steps were made, once no pair is left: with the assignment rebuilt
-- from the rows
abbrev pub AcceptedWithRoom : Type 0
AcceptedWithRoom = (inst ws : List ℕ) (rs : List Row) → instance_fault inst ≡ 0 → Derives (sizes_of inst) (encoded_rows inst) ws rs
    → next_pair (sizes_of inst) rs ≡ none
    → (work : List ℕ) → TakesFront inst work → needs inst ws ≤ room (sizes_of inst) work → Accepts inst ws (rebuilt (sizes_of inst) rs) rs work

-- and with less room the check ends with 12, whatever is claimed
abbrev pub FullWithoutRoom : Type 0
FullWithoutRoom = (inst ws : List ℕ) (rs : List Row) → instance_fault inst ≡ 0 → Derives (sizes_of inst) (encoded_rows inst) ws rs
    → (plan : List ℕ) (claimed : ℕ) (work : List ℕ) → TakesFront inst work → room (sizes_of inst) work < needs inst ws
    → (check_call inst ws plan claimed work).answer.number ≡ 12

-- the derivation that led to a table of six-word rows is accepted, with the assignment of that table
abbrev pub AcceptsLeft : List ℕ → State → List ℕ → Type 0
AcceptsLeft inst st work = Accepts inst st.derivation (table_assignment st.table) (own_rows st.table) work

-- so after every list of calls, conversions among them
abbrev pub ConvertedAccepted : Type 0
ConvertedAccepted = (inst : List ℕ) (st : State) (calls : List Call) → Comes inst st
    → let end = after_calls st calls in
    valid_table end.table ≡ true → next_pair (sizes_of inst) (own_rows end.table) ≡ none
    → (work : List ℕ) → TakesFront inst work → needs inst end.derivation ≤ room (sizes_of inst) work → AcceptsLeft inst end work

-- and after one without a conversion in every work table as long as the slice that was encoded in
abbrev pub DerivationAccepted : Type 0
DerivationAccepted = (inst t : List ℕ) (calls : List Call) → (encode_call inst t).answer.number ≡ 0 → in_place calls ≡ true
    → let st = after_calls (started inst t) calls in
    next_pair (sizes_of inst) (own_rows st.table) ≡ none
    → (work : List ℕ) → length work ≡ length t → AcceptsLeft inst st work

-- the same of the driver: what it leaves in front of its slice is accepted
abbrev pub DrivenAccepted : Type 0
DrivenAccepted = (inst t calls out target : List ℕ)
    → let r = drive_all inst t calls out target in
    r.answer.number ≡ 0
    → next_pair (sizes_of inst) (own_rows r.table) ≡ none
    → (work : List ℕ) → length work ≡ length t
    → (check_call inst (take r.answer.steps r.out) (table_assignment r.table) (empty_weight (length (sizes_of inst)) (own_rows r.table)) work).answer
    ≡ record { number = 0; steps = r.answer.steps }
