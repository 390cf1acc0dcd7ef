-- The lowest unsettled variable within a run (document 02: each step is on it, and it never falls).
use Rattle.std.specs.Prelude.{ℕ, ◌≤◌, min, ◌≡◌, true, List, [], ◌∷◌, length}
use Rattle.std.proofs.Math.Option.{some}
use Rattle.wcsp.specs.Row.{Row}
use Rattle.wcsp.specs.Resolve.{Pair, next_pair, resolve}
use Rattle.wcsp.specs.Unsettled.{lowest_unsettled}
use Rattle.words.specs.Layout.{step_variable_in}
use Rattle.table.specs.Meaning.{table_sizes, own_rows}
use Rattle.table.specs.Valid.{valid_table}
use Rattle.stepping.specs.Step.{pair_word}
use Rattle.resolution.specs.Order.{ran_on}

-- rs becomes rs' by the steps with these words: each word names the lowest unsettled variable of the rows before its step, which is not
-- lower after it
pub data Climbs (ds : List ℕ) : List Row → List ℕ → List Row → Type 0 where
  stop : {rs : List Row} → Climbs ds rs [] rs
  step : {rs rs' : List Row} {ws : List ℕ} (pr : Pair) → next_pair ds rs ≡ some pr
      → step_variable_in (pair_word pr) ≡ lowest_unsettled ds rs
      → lowest_unsettled ds rs ≤ lowest_unsettled ds (resolve ds pr rs)
      → Climbs ds (resolve ds pr rs) ws rs' → Climbs ds rs (pair_word pr ∷ ws) rs'

-- along the words of every run
abbrev pub RunsClimb : Type 0
RunsClimb = (t : List ℕ) (limit : ℕ) (slice : List ℕ) → valid_table t ≡ true
    → (let ran = ran_on t (min limit (length slice)) in Climbs (table_sizes t) (own_rows t) ran.made ran.rows)
