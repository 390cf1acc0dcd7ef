-- The replay of step words on rows, each naming any permitted pair.
use Rattle.std.specs.Prelude.{ℕ, suc, ◌&&◌, cond, List, [], ◌∷◌, length, get_or, eqb, ltb}
use Rattle.std.proofs.Math.Option.{Option, none, some}
use Rattle.wcsp.specs.Row.{Row}
use Rattle.wcsp.specs.Rule.{permitted}
use Rattle.wcsp.specs.Resolve.{Pair, no_row, resolve}
use Rattle.words.specs.Layout.{kind_of}
use Rattle.stepping.specs.Step.{Stepping, refusing, steps_to, word_pair, allowed}

-- the pair of a step word, if it is a permitted one: variable known, first row below the second, both in the table
unfoldable pub permitted_pair : List ℕ → List Row → Pair → Option Pair
permitted_pair ds rs pr =
    cond
    (ltb pr.variable (length ds) && ltb pr.first pr.second && ltb pr.second (length rs)
    && permitted ds pr.variable (get_or rs pr.first no_row).signs (get_or rs pr.second no_row).signs)
    (some pr)
    none

-- the pair that a word names: none unless it is a step word
unfoldable pub named_pair : List ℕ → List Row → ℕ → Option Pair
unfolding permitted_pair
named_pair ds rs w = cond (eqb (kind_of w) 7) (permitted_pair ds rs (word_pair w)) none

-- one step word: 6, 11, 12, or the rows after the step
unfoldable pub replay_on : List ℕ → ℕ → List Row → Option Pair → Stepping
replay_on ds cap rs none = refusing 6
replay_on ds cap rs (some pr) = allowed cap pr (resolve ds pr rs)

unfoldable pub replay_word : List ℕ → ℕ → List Row → ℕ → Stepping
unfolding named_pair replay_on
replay_word ds cap rs w = replay_on ds cap rs (named_pair ds rs w)

-- what a replay comes to: a number, 0 if every word was good, the steps replayed, and the rows after the last good one
pub record Replayed : Type 0 where
  pub number : ℕ
  pub steps : ℕ
  pub rows : List Row

unfoldable pub replay_next : (ℕ → Replayed) → (List Row → Replayed) → Stepping → Replayed
replay_next stops goes (refusing number) = stops number
replay_next stops goes (steps_to pr rs) = goes rs

-- each step word in turn, after k good ones
unfoldable pub replay : List ℕ → ℕ → List Row → ℕ → List ℕ → Replayed
unfolding replay_word replay_next
replay ds cap rs k [] = record { number = 0; steps = k; rows = rs }
replay ds cap rs k (w ∷ ws) =
    replay_next (λ number. record { number = number; steps = k; rows = rs })
    (λ rs'. replay ds cap rs' (suc k) ws)
    (replay_word ds cap rs w)
