-- The rebuilt assignment (document 01: plan): the extension, from the last variable down, of given higher values, and what these cost.
use Rattle.std.specs.Prelude.{ℕ, zero, suc, ◌+◌, Bool, ◌&&◌, cond, List, [], ◌∷◌, length, get_or, drop, eqb, leb}
use Rattle.std.specs.Int.Bits.{bit_and}
use Rattle.wcsp.specs.Sign.{full, lowest}
use Rattle.wcsp.specs.Clause.{bucket, falsifies}
use Rattle.wcsp.specs.Row.{Row}

-- a row of bucket k that the higher values q falsify
unfoldable pub counts : ℕ → List ℕ → List ℕ → Bool
counts k q c = eqb (bucket c) k && falsifies q (drop (suc k) c)

-- S met with the signs at k of the rows that count
unfoldable pub narrowed : ℕ → List ℕ → ℕ → List Row → ℕ
unfolding counts
narrowed k q S [] = S
narrowed k q S (r ∷ rs) = narrowed k q (cond (counts k q r.signs) (bit_and S (get_or r.signs k 0)) S) rs

-- the value of variable k over the higher values q: the lowest that lies in every such sign
unfoldable pub rebuilt_value : List ℕ → List Row → ℕ → List ℕ → ℕ
unfolding narrowed
rebuilt_value ds rs k q = lowest (get_or ds k 0) (narrowed k q (full (get_or ds k 0)) rs)

-- the values of all variables, given those from k on
unfoldable pub rebuilt_over : List ℕ → List Row → ℕ → List ℕ → List ℕ
unfolding rebuilt_value
rebuilt_over ds rs zero q = q
rebuilt_over ds rs (suc k) q = rebuilt_over ds rs k (rebuilt_value ds rs k q ∷ q)

-- the rebuilt assignment of a table with no pair left
unfoldable pub rebuilt : List ℕ → List Row → List ℕ
unfolding rebuilt_over
rebuilt ds rs = rebuilt_over ds rs (length ds) []

-- the clause has no variable below k, and the values q from k on falsify it
unfoldable pub falsifies_from : ℕ → List ℕ → List ℕ → Bool
falsifies_from k q c = leb k (bucket c) && falsifies q (drop k c)

-- "the falsified weight of the rows without stations below k" (document 02), by the values q from k on
unfoldable pub tail_weight : ℕ → List ℕ → List Row → ℕ
unfolding falsifies_from
tail_weight k q [] = zero
tail_weight k q (r ∷ rs) = cond (falsifies_from k q r.signs) r.weight 0 + tail_weight k q rs
