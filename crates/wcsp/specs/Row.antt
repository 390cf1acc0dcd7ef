-- Rows: weighted clauses, in the order of the table. The falsified weight, and adding a clause (document 004, Definition 28: repeated clauses add up).
use Rattle.std.specs.Prelude.{ℕ, zero, ◌+◌, ◌<◌, ◌≡◌, Bool, false, ◌||◌, cond, List, [], ◌∷◌, replicate, ltb}
use Rattle.wcsp.specs.Clause.{ValidClause, falsifies, tautology, same}

pub record Row : Type 0 where
  pub signs : List ℕ
  pub weight : ℕ

-- a row with these signs and this weight, as the papers' cases write it
infix 80 ◌weighted◌
abbrev pub ◌weighted◌ : List ℕ → ℕ → Row
signs weighted w = record { signs = signs; weight = w }

-- the falsified weight: the sum of the weights of the rows that the assignment falsifies
unfoldable pub falsified : List ℕ → List Row → ℕ
falsified p [] = zero
falsified p (r ∷ rs) = cond (falsifies p r.signs) r.weight 0 + falsified p rs

-- the weight of the row with these signs, 0 if there is none
unfoldable pub weight_of : List ℕ → List Row → ℕ
weight_of c [] = zero
weight_of c (r ∷ rs) = cond (same r.signs c) r.weight (weight_of c rs)

-- the weight of the empty row, the one whose signs are all 0, over n variables
unfoldable pub empty_weight : ℕ → List Row → ℕ
unfolding weight_of
empty_weight n rs = weight_of (replicate n 0) rs

-- some row weighs more than L
unfoldable pub heavy : ℕ → List Row → Bool
heavy L [] = false
heavy L (r ∷ rs) = ltb L r.weight || heavy L rs

-- the clause with weight u beside the rows: where a row has the same signs the weight is added there, else a new row stands last
unfoldable pub merge : ℕ → List Row → List ℕ → List Row
merge u [] c = record { signs = c; weight = u } ∷ []
merge u (r ∷ rs) c =
    cond (same r.signs c) (record { signs = r.signs; weight = r.weight + u } ∷ rs) (r ∷ merge u rs c)

-- adding a clause: one with a full sign is dropped
unfoldable pub add : List ℕ → ℕ → List Row → List ℕ → List Row
unfolding merge
add ds u rs c = cond (tautology ds c) rs (merge u rs c)

-- adding clauses in order, each with weight u
unfoldable pub add_all : List ℕ → ℕ → List Row → List (List ℕ) → List Row
unfolding add
add_all ds u rs [] = rs
add_all ds u rs (c ∷ cs) = add_all ds u (add ds u rs c) cs

-- no row of rs has the signs c
pub data Absent (c : List ℕ) : List Row → Type 0 where
  nil_absent : Absent c []
  cons_absent : {r : Row} {rs : List Row} → same r.signs c ≡ false → Absent c rs → Absent c (r ∷ rs)

-- the rows of a valid table: valid clauses, weights above 0, no two rows with equal signs
pub data ValidRows (ds : List ℕ) : List Row → Type 0 where
  nil_rows : ValidRows ds []
  cons_rows : {r : Row} {rs : List Row} → ValidClause ds r.signs → 0 < r.weight → Absent r.signs rs → ValidRows ds rs
      → ValidRows ds (r ∷ rs)
