-- The number of steps is bounded. Each step lowers the potential, so there are no more steps than the potential at the start; that is at most
-- the rows' bound, since no grade passes the sum of the squares; and for an encoding the falsified weight in it is the cost.
use Prim.Native.Nat.{ℕ, ◌+◌, ◌*◌, ◌≤◌}
use native.Mathlib.Nat.{mul-le-mul_left}
use native.Mathlib.Omega.{arith}
use mathlib.Core.Path.{◌≡◌, ap}
use mathlib.Core.Bool.{Bool, true, false, cond}
use mathlib.Core.List.{List}
use Rattle.wcsp.specs.Clause.{InRange, falsifies}
use Rattle.wcsp.specs.Row.{Row, falsified, ValidRows, nil_rows, cons_rows}
use Rattle.wcsp.specs.Entry.{Entry, cost, encoded}
use Rattle.wcsp.specs.Resolve.{Steps, stop, step}
use Rattle.wcsp.specs.Bound.{assignments, squares, grade, graded, potential, row_bound, step_bound}
use Rattle.wcsp.specs.Theorems.{StepsBounded, InstanceBounded}
use Rattle.wcsp.proofs.Validity.{step_valid}
use Rattle.wcsp.proofs.NextPair.{next-permitted}
use Rattle.wcsp.proofs.Encoding.{encoding_valid, encoding_exact}
use Rattle.wcsp.proofs.Grades.{grade-le}
use Rattle.wcsp.proofs.Assignments.{total_times, assignments-le, assignments-eq}
use Rattle.wcsp.proofs.Potential.{potential_falls}

graded-le : {ds : List ℕ} (p : List ℕ) {rs : List Row} → ValidRows ds rs → graded ds p rs ≤ squares ds * falsified p rs
unfolding graded falsified
graded-le p nil_rows = omega arith
graded-le {ds} p (cons_rows {r = r} {rs = rs} c w a v) = go (falsifies p r.signs) (graded-le p v)
  where
    go : (b : Bool) → graded ds p rs ≤ squares ds * falsified p rs
        → cond b (r.weight * grade ds r.signs) 0 + graded ds p rs ≤ squares ds * (cond b r.weight 0 + falsified p rs)
    go true ih = omega (arith, mul-le-mul_left r.weight (grade-le c))
    go false ih = omega arith

pub potential-le : {ds : List ℕ} {rs : List Row} → ValidRows ds rs → potential ds rs ≤ row_bound ds rs
unfolding potential row_bound
potential-le {ds} {rs} v =
    omega (
      arith,
      assignments-le ds (λ p. graded ds p rs) (λ p. squares ds * falsified p rs) (λ p r. graded-le p v),
      total_times (squares ds) (λ p. falsified p rs) (assignments ds),
    )

-- each step spends at least one of the potential
pub steps_le : {ds : List ℕ} {rs rs' : List Row} {k : ℕ} → ValidRows ds rs → Steps ds rs k rs' → k ≤ potential ds rs
steps_le v stop = omega arith
steps_le {ds} {rs} v (step {k = k} pr e t) =
    omega (arith, potential_falls ds rs pr v e, steps_le (step_valid ds rs pr v (next-permitted ds rs pr e)) t)

pub steps_bounded : StepsBounded
steps_bounded ds rs rs' k v t = omega (arith, steps_le v t, potential-le v)

-- rows with the costs as falsified weight have the number that is fixed by the instance
pub bound_fixed : (ds : List ℕ) (es : List Entry) (rs : List Row) → ((p : List ℕ) → InRange ds p → falsified p rs ≡ cost es p)
    → row_bound ds rs ≡ step_bound ds es
unfolding row_bound step_bound
bound_fixed ds es rs h = ap (λ n. squares ds * n) (assignments-eq ds (λ p. falsified p rs) (cost es) h)

pub instance_bounded : InstanceBounded
instance_bounded ds es rs' k a w t =
    omega (
      arith,
      steps_bounded ds (encoded ds es) rs' k (encoding_valid ds es a w) t,
      bound_fixed ds es (encoded ds es) (λ p r. encoding_exact ds es p w r),
    )
