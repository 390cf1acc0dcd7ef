-- Entries: what each of their words does to the scan, and the fault of a list of them (0: accepted).
use Rattle.std.specs.Prelude.{ℕ, suc, ◌&&◌, cond, List, [], ◌∷◌, get_or, eqb, leb, ltb}
use Rattle.words.specs.Layout.{kind_of, payload_of, variable_in, value_in}
use Rattle.fields.specs.Limits.{max_cost, max_entries}

-- what one entry word does to the scan: go on with the lowest variable that may be bound next (0: no entry is open) and the
-- count of entries closed, or stop at a fault
pub data Scanned : Type 0 where
  goes : ℕ → ℕ → Scanned
  stops : ℕ → Scanned

-- a binding (document 01: pair) over these sizes, its variable at least `from`
unfoldable pub scan_binding : List ℕ → ℕ → ℕ → ℕ → ℕ → Scanned
scan_binding sizes from count v a = cond (leb from v && ltb a (get_or sizes v 0)) (goes (suc v) count) (stops 3)

-- a good word that closes an entry: 5 for the 4,097th
unfoldable pub scan_closing : ℕ → Scanned
scan_closing count = cond (leb max_entries count) (stops 5) (goes 0 (suc count))

-- a cost word: 4 for the cost, then 5
unfoldable pub scan_cost : ℕ → ℕ → Scanned
scan_cost count c = cond (ltb max_cost c) (stops 4) (scan_closing count)

-- a word that forbids the combination, "payload 0": 3 for a set bit, then 5, since "it counts as a cost word for 5"
unfoldable pub scan_forbidden : ℕ → ℕ → Scanned
scan_forbidden count p = cond (eqb p 0) (scan_closing count) (stops 3)

-- a word among the entries: 3 if it neither binds nor closes an entry
unfoldable pub scan_word : List ℕ → ℕ → ℕ → ℕ → Scanned
scan_word sizes from count w =
    cond (eqb (kind_of w) 3) (scan_binding sizes from count (variable_in w) (value_in w))
    (cond (eqb (kind_of w) 4) (scan_cost count (payload_of w))
    (cond (eqb (kind_of w) 11) (scan_forbidden count (payload_of w))
    (stops 3)))

-- what the scan comes to after a word: what follows from its state, or the fault
unfoldable pub resume : (ℕ → ℕ → ℕ) → Scanned → ℕ
resume rest (goes from count) = rest from count
resume rest (stops k) = k

-- the fault of the entries' words, 0 if there is none: 3 where they end inside an entry
unfoldable pub entries_fault : List ℕ → ℕ → ℕ → List ℕ → ℕ
unfolding resume
entries_fault sizes from count [] = cond (eqb from 0) 0 3
entries_fault sizes from count (w ∷ ws) = resume (λ f c. entries_fault sizes f c ws) (scan_word sizes from count w)
