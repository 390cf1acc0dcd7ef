-- Inner: what the fixed values come to as a clause.
use Rattle.std.specs.Prelude.{ℕ, ◌≡◌, true, false, List, Option, Some, None}
use Rattle.clause.specs.declared.Clause.{Clause}
use Rattle.clause.specs.Packed.{Holds}
use Rattle.assignment.specs.Chosen.{carried_signs}
use Rattle.completion.specs.Calls.{fixed_fit}

-- the clause carries the values if they fit, and they are unfit only if they do not
pub record Carrying (ds : List ℕ) (k : ℕ) (fixed : List ℕ) (answer : Option Clause) : Type 0 where
  pub fitting : (values : Clause) → answer ≡ Some values → (fixed_fit ds k fixed ≡ true) × Holds values (carried_signs ds k fixed)
  pub unfitting : answer ≡ None → fixed_fit ds k fixed ≡ false
