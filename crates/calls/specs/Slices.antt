-- Inner: how the driver's code has a state: the table in its slice, and the derivation in front of the slice for step words.
use Rattle.std.specs.Prelude.{ℕ, ◌≤◌, ◌≡◌, cond, List, length, take, drop, eqb}
use Rattle.calls.specs.Calls.{step_asked, State, after_call}
use Rattle.calls.specs.Driver.{Driving}

abbrev pub state_in : List ℕ → List ℕ → ℕ → State
state_in t out made = record { table = t; derivation = take made out }

abbrev pub driving_in : List ℕ → List ℕ → ℕ → List ℕ → Driving
driving_in t out made target = record { state = state_in t out made; target = target }

-- a step call, if there is a place for its word
abbrev pub step_in : List ℕ → List ℕ → ℕ → State
step_in t out made = let st = state_in t out made in cond (eqb made (length out)) st (after_call st step_asked)

-- the slices have the state st then: no step word got lost, and what lies behind the derivation is as it was
pub record Leaves (out : List ℕ) (made : ℕ) (st : State) (t' out' : List ℕ) (made' : ℕ) : Type 0 where
  pub state : st ≡ state_in t' out' made'
  pub grown : made ≤ made'
  pub room : made' ≤ length out'
  pub rest : drop made' out' ≡ drop made' out

-- the same with the target
abbrev pub LeavesAll : List ℕ → ℕ → Driving → List ℕ → List ℕ → ℕ → List ℕ → Type 0
LeavesAll out made d t' out' made' target' = Leaves out made d.state t' out' made' × (target' ≡ d.target)
