-- Inner: the values chosen so far, carried by a clause: at each of their variables the one value alone. A row is falsified there if it has nothing in common with it.
use Rattle.std.specs.Prelude.{ℕ, ◌≤◌, ◌^◌, ◌≡◌, Bool, true, ◌&&◌, List, [], ◌∷◌, ◌++◌, map, length, drop, replicate, eqb}
use Rattle.std.proofs.Math.Option.{none}
use Rattle.std.proofs.Math.Seq.{slice}
use Rattle.std.specs.Int.Bits.{bit_and}
use Rattle.wcsp.specs.Clause.{InRange}
use Rattle.clause.specs.declared.Clause.{Clause}
use Rattle.clause.specs.Packed.{Holds}
use Rattle.fields.specs.Padding.{lacking}
use Rattle.table.specs.declared.Shape.{Shape}
use Rattle.table.specs.Meaning.{variables_of, table_sizes}
use Rattle.table.specs.Valid.{valid_table}
use Rattle.table.specs.Check.{shape_of}
use Rattle.assignment.specs.Order.{table_pair}

-- at no variable do the two clauses have a value in common
unfoldable pub disjoint : List ℕ → List ℕ → Bool
disjoint [] y = true
disjoint (S ∷ x) [] = true
disjoint (S ∷ x) (T ∷ y) = eqb (bit_and S T) 0 && disjoint x y

-- the sign that holds each value alone
abbrev pub singles : List ℕ → List ℕ
singles q = map (λ v. 2 ^ v) q

-- signs that carry the values q of the variables from k on, and nothing below k or behind them
pub record Carries (signs : List ℕ) (k : ℕ) (q : List ℕ) : Type 0 where
  pub rest : ℕ
  pub bits : signs ≡ replicate k 0 ++ (singles q ++ replicate rest 0)

-- the signs of twelve variables that carry the values q of these sizes' variables from k on
abbrev pub carried_signs : List ℕ → ℕ → List ℕ → List ℕ
carried_signs ds k q = replicate k 0 ++ (singles q ++ replicate (lacking ds) 0)

-- a valid table of this shape in which no pair is left, a target with room for its assignment that has values in range from k on, and the clause
-- that carries them
pub record Ready (t : List ℕ) (shape : Shape) (k : ℕ) (given : Clause) (target : List ℕ) : Type 0 where
  pub valid : valid_table t ≡ true
  pub shaped : shape ≡ shape_of t
  pub done : table_pair t ≡ none
  pub room : variables_of t ≤ length target
  pub low : k ≤ variables_of t
  pub in_range : InRange (drop k (table_sizes t)) (slice k (variables_of t) target)
  pub carried : Holds given (carried_signs (table_sizes t) k (slice k (variables_of t) target))
