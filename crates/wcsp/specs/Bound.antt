-- A bound on the number of steps: a potential that every step lowers, and a number fixed by the instance that it never exceeds.
use Rattle.std.specs.Prelude.{ℕ, zero, suc, ◌+◌, ◌-◌, ◌*◌, cond, List, [], ◌∷◌, ◌++◌, map, eqb}
use Rattle.std.specs.Int.Count.{ones}
use Rattle.wcsp.specs.Clause.{falsifies}
use Rattle.wcsp.specs.Row.{Row, falsified}
use Rattle.wcsp.specs.Entry.{Entry, cost}

-- the sum of f over the list
unfoldable pub total {ℓ} : {A : Type ℓ} → (A → ℕ) → List A → ℕ
total f [] = zero
total f (x ∷ xs) = f x + total f xs

-- the values 0 to d - 1
unfoldable pub values_below : ℕ → List ℕ
values_below zero = []
values_below (suc d) = values_below d ++ (d ∷ [])

-- each value in front of each of the assignments
unfoldable pub prefixed : List ℕ → List (List ℕ) → List (List ℕ)
prefixed [] ps = []
prefixed (v ∷ vs) ps = map (λ p. v ∷ p) ps ++ prefixed vs ps

-- every assignment in range
unfoldable pub assignments : List ℕ → List (List ℕ)
unfolding values_below prefixed
assignments [] = [] ∷ []
assignments (d ∷ ds) = prefixed (values_below d) (assignments ds)

unfoldable pub squares : List ℕ → ℕ
unfolding total
squares ds = total (λ d. d * d) ds

-- what a sign of k of the d values is worth: increasing and strictly concave up to d
unfoldable pub gain : ℕ → ℕ → ℕ
gain d k = k * (2 * d - k)

-- the grade of a clause: the gain at its bucket, with the squares of the later sizes; 0 for the empty clause
unfoldable pub grade : List ℕ → List ℕ → ℕ
unfolding gain squares
grade [] c = zero
grade (d ∷ ds) [] = zero
grade (d ∷ ds) (S ∷ c) = cond (eqb S 0) (grade ds c) (gain d (ones S) + squares ds)

-- the graded weight of the rows that p falsifies
unfoldable pub graded : List ℕ → List ℕ → List Row → ℕ
unfolding grade
graded ds p [] = zero
graded ds p (r ∷ rs) = cond (falsifies p r.signs) (r.weight * grade ds r.signs) 0 + graded ds p rs

-- the potential: the graded weight, summed over every assignment
unfoldable pub potential : List ℕ → List Row → ℕ
unfolding total assignments graded
potential ds rs = total (λ p. graded ds p rs) (assignments ds)

-- no sequence of steps from the rows is longer
unfoldable pub row_bound : List ℕ → List Row → ℕ
unfolding total assignments squares
row_bound ds rs = squares ds * total (λ p. falsified p rs) (assignments ds)

-- the same number from sizes and costs alone: fixed by the instance
unfoldable pub step_bound : List ℕ → List Entry → ℕ
unfolding total assignments squares
step_bound ds es = squares ds * total (cost es) (assignments ds)
