-- What an accepted claim means, and what holds of the table that the checker leaves.
use Rattle.std.specs.Prelude.{ℕ, ◌≤◌, ◌≡◌, List}
use Rattle.wcsp.specs.Clause.{InRange}
use Rattle.wcsp.specs.Row.{falsified}
use Rattle.wcsp.specs.Entry.{Entry, cost}
use Rattle.input.specs.Instance.{sizes_of, entries_of}
use Rattle.table.specs.Meaning.{own_rows}
use Rattle.encoding.specs.Calls.{encode_call}
use Rattle.checker.specs.Calls.{check_call}

-- a best plan for these sizes and entries: an assignment whose cost is the bound, and none costs less
pub record Best (ds : List ℕ) (es : List Entry) (plan : List ℕ) (bound : ℕ) : Type 0 where
  pub in_range : InRange ds plan
  pub attained : cost es plan ≡ bound
  pub least : (p : List ℕ) → InRange ds p → bound ≤ cost es p

-- a claim that the checker accepts: its bytes are a best plan, of the claimed cost
abbrev pub AcceptedIsLeast : Type 0
AcceptedIsLeast = (inst derivation plan : List ℕ) (claimed : ℕ) (t : List ℕ)
    → (check_call inst derivation plan claimed t).answer.number ≡ 0 → Best (sizes_of inst) (entries_of inst) plan claimed

-- accepted or stopped after the encoding: in the table left the falsified weight is the instance's cost, for every assignment
abbrev pub LeftConserves : Type 0
LeftConserves = (inst derivation plan : List ℕ) (claimed : ℕ) (t p : List ℕ) → (encode_call inst t).answer.number ≡ 0
    → InRange (sizes_of inst) p
    → falsified p (own_rows (check_call inst derivation plan claimed t).table) ≡ cost (entries_of inst) p

-- the numbers that a check can answer: never 9, for the checker writes its table itself, and never 11, for no weight in a table from an accepted
-- instance passes the limit, whatever step words are replayed
pub data CheckNumber : ℕ → Type 0 where
  success : CheckNumber 0
  fault : (k : ℕ) → 1 ≤ k → k ≤ 5 → CheckNumber k
  not_permitted : CheckNumber 6
  claim_fails : CheckNumber 7
  too_short : CheckNumber 10
  too_many : CheckNumber 12

abbrev pub CheckNumbers : Type 0
CheckNumbers = (inst derivation plan : List ℕ) (claimed : ℕ) (t : List ℕ) → CheckNumber (check_call inst derivation plan claimed t).answer.number
