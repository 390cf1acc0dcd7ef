-- Inner: what the entries' words cost an assignment, word by word.
use Rattle.std.specs.Prelude.{ℕ, ◌+◌, Bool, true, ◌&&◌, cond, List, [], ◌∷◌, get_or, eqb}
use Rattle.words.specs.Layout.{kind_of, variable_in, value_in}
use Rattle.fields.specs.Entries.{closes_entry, cost_of}

-- what a word adds to the cost, where the bindings of the open entry are matched or not
unfoldable pub cost_in : Bool → ℕ → ℕ
cost_in m w = cond m (cost_of w) 0

-- whether the bindings of the entry that is open behind a word are matched
unfoldable pub matched_after : List ℕ → Bool → ℕ → Bool
matched_after p m w =
    cond (eqb (kind_of w) 3) (m && eqb (get_or p (variable_in w) 0) (value_in w))
    (cond (closes_entry w) true m)

-- what the words add to the cost of p
unfoldable pub cost_from : List ℕ → Bool → List ℕ → ℕ
unfolding cost_in matched_after
cost_from p m [] = 0
cost_from p m (w ∷ ws) = cost_in m w + cost_from p (matched_after p m w) ws
