-- Clauses: a clause is the list of its signs, one for each variable. Sizes, signs and values go in lists of one length.
use Rattle.std.specs.Prelude.{ℕ, zero, suc, ◌<◌, Bool, true, false, not, ◌&&◌, ◌||◌, cond, List, [], ◌∷◌, eqb}
use Rattle.wcsp.specs.Sign.{has, full}

-- R holds of the two lists' elements, place by place; the lists are equally long
pub data Along (R : ℕ → ℕ → Type 0) : List ℕ → List ℕ → Type 0 where
  nil : Along R [] []
  cons : {a b : ℕ} {xs ys : List ℕ} → R a b → Along R xs ys → Along R (a ∷ xs) (b ∷ ys)

-- an assignment in range (document 01: a plan gives each station one spot): one value below each domain size
abbrev pub InRange : List ℕ → List ℕ → Type 0
InRange ds p = Along (λ d v. v < d) ds p

-- a clause of a valid table: no sign is full or goes beyond its variable's values
abbrev pub ValidClause : List ℕ → List ℕ → Type 0
ValidClause ds c = Along (λ d S. S < full d) ds c

-- every domain has a value
pub data AllPositive : List ℕ → Type 0 where
  nil_positive : AllPositive []
  cons_positive : {d : ℕ} {ds : List ℕ} → 0 < d → AllPositive ds → AllPositive (d ∷ ds)

-- an assignment falsifies a clause if at every variable its value lies outside the sign
unfoldable pub falsifies : List ℕ → List ℕ → Bool
falsifies [] c = true
falsifies (v ∷ p) [] = true
falsifies (v ∷ p) (S ∷ c) = not (has S v) && falsifies p c

-- some sign of the clause is full: every assignment satisfies it
unfoldable pub tautology : List ℕ → List ℕ → Bool
tautology [] c = false
tautology (d ∷ ds) [] = false
tautology (d ∷ ds) (S ∷ c) = eqb S (full d) || tautology ds c

-- the clauses that are no tautologies, in order
unfoldable pub kept : List ℕ → List (List ℕ) → List (List ℕ)
unfolding tautology
kept ds [] = []
kept ds (c ∷ cs) = cond (tautology ds c) (kept ds cs) (c ∷ kept ds cs)

-- two clauses have equal signs
unfoldable pub same : List ℕ → List ℕ → Bool
same [] [] = true
same [] (T ∷ y) = false
same (S ∷ x) [] = false
same (S ∷ x) (T ∷ y) = eqb S T && same x y

-- the bucket that a clause belongs to: its lowest variable present, the number of variables if there is none
-- (document 01: a row belongs to its lowest present station)
unfoldable pub bucket : List ℕ → ℕ
bucket [] = zero
bucket (S ∷ c) = cond (eqb S 0) (suc (bucket c)) zero
