-- Inner: the encoding word by word, in twelve signs: what an entry word does to the signs of the open entry and to the rows so far.
use Rattle.std.specs.Prelude.{ℕ, ◌+◌, ◌-◌, ◌*◌, ◌^◌, ◌<◌, ◌≤◌, ◌≡◌, cond, List, [], ◌∷◌, length, get_or, set, take, drop, replicate, eqb}
use Rattle.wcsp.specs.Row.{Row, merge}
use Rattle.words.specs.Layout.{kind_of, variable_in, value_in}
use Rattle.fields.specs.Limits.{max_variables, max_values}
use Rattle.fields.specs.Entries.{closes_entry, cost_of}
use Rattle.rows.specs.Raw.{Laid, row_width, max_weight}

-- ---- the words

-- a binding names a value that its variable has, by the variable's full sign
abbrev pub Proper : List ℕ → ℕ → Type 0
Proper fs w = kind_of w ≡ 3 → (variable_in w < max_variables) × (value_in w < max_values) × (2 ^ value_in w ≤ get_or fs (variable_in w) 0)

-- so does every word from `at` on
pub record AllProper (fs : List ℕ) (at : ℕ) (ws : List ℕ) : Type 0 where
  pub each : (k : ℕ) → at ≤ k → k < length ws → Proper fs (get_or ws k 0)

-- how many words give a cost above 0, and the sum of the costs
unfoldable pub positives : List ℕ → ℕ
positives [] = 0
positives (w ∷ ws) = cond (eqb (cost_of w) 0) 0 1 + positives ws

unfoldable pub costs_in : List ℕ → ℕ
costs_in [] = 0
costs_in (w ∷ ws) = cost_of w + costs_in ws

-- ---- signs and rows

-- the signs of the open entry behind a word: at a bound variable all values but the named one; none where a word closes the entry
unfoldable pub signs_after : List ℕ → List ℕ → ℕ → List ℕ
signs_after fs s w =
    cond (eqb (kind_of w) 3) (set s (variable_in w) (get_or fs (variable_in w) 0 - 2 ^ value_in w))
    (cond (closes_entry w) (replicate 12 0) s)

-- the rows with a clause of this cost; cost 0 adds nothing
unfoldable pub grown : ℕ → List ℕ → List Row → List Row
grown c s rs = cond (eqb c 0) rs (merge c rs s)

-- the signs of the open entry, and the rows of those before it
pub record Coded : Type 0 where
  pub signs : List ℕ
  pub rows : List Row

abbrev pub nothing_coded : Coded
nothing_coded = record { signs = replicate 12 0; rows = [] }

unfoldable pub coded_after : List ℕ → Coded → ℕ → Coded
unfolding signs_after grown
coded_after fs st w = record { signs = signs_after fs st.signs w; rows = grown (cost_of w) st.signs st.rows }

unfoldable pub coded_by : List ℕ → Coded → List ℕ → Coded
unfolding coded_after
coded_by fs st [] = st
coded_by fs st (w ∷ ws) = coded_by fs (coded_after fs st w) ws

-- by the words from `at` up to word i
unfoldable pub coded_to : List ℕ → ℕ → ℕ → List ℕ → Coded
unfolding coded_by
coded_to fs at i ws = coded_by fs nothing_coded (take (i - at) (drop at ws))

abbrev pub rows_to : List ℕ → ℕ → ℕ → List ℕ → List Row
rows_to fs at i ws = (coded_to fs at i ws).rows

-- ---- the table

-- the words can be encoded: they are proper, their costs fit a weight, and the table is empty and has room for the rows
pub record Encodable (fs : List ℕ) (at : ℕ) (ws : List ℕ) (t : List ℕ) (base : ℕ) : Type 0 where
  pub proper : AllProper fs at ws
  pub costs : costs_in (drop at ws) ≤ max_weight
  pub laid : Laid t base []
  pub room : base + row_width * length (rows_to fs at (length ws) ws) ≤ length t
