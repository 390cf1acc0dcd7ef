-- Every step on the next pair lowers the potential. For one assignment the conclusions that it falsifies are together of no higher grade than
-- the premises that it falsifies, and of a lower one if it falsifies the meet; the linear law carries that to the rows, and the meet,
-- a valid clause, is falsified by some assignment.
use Prim.Native.Nat.{ℕ, ◌+◌, ◌*◌, ◌<◌, ◌≤◌}
use native.Mathlib.Nat.{mul-le-mul_left}
use native.Mathlib.Omega.{arith}
use mathlib.Core.Path.{◌≡◌, refl, sym, ap}
use mathlib.Core.Bool.{Bool, true, false, not, ◌&&◌, ◌||◌, cond, false≢true}
use mathlib.Core.List.{List, [], ◌∷◌}
use lib.ListN.{length, get_or}
use Rattle.wcsp.specs.Clause.{InRange, ValidClause, falsifies, tautology}
use Rattle.wcsp.specs.Row.{Row, ValidRows}
use Rattle.wcsp.specs.Rule.{others, excluding, conclusions}
use Rattle.wcsp.specs.Resolve.{Pair, no_row, moved_weight, resolve}
use Rattle.wcsp.specs.Bound.{total, assignments, grade, graded, potential}
use Rattle.wcsp.specs.Theorems.{falsified_count, CandidatePair, PotentialFalls}
use Rattle.wcsp.proofs.Linear.{weighted, linear}
use Rattle.wcsp.proofs.Falsified.{tautology_satisfied}
use Rattle.wcsp.proofs.Validity.{Each, nil_each, cons_each, met, others_valid, valid_signs_lem, moved_positive}
use Rattle.wcsp.proofs.NextPair.{next_is_least}
use Rattle.wcsp.proofs.Soundness.{once, falsifies-joined, falsifies-met, falsifies-others, count_excluding}
use Rattle.wcsp.proofs.Weights.{FalsifiedBy, falsifiable}
use Rattle.wcsp.proofs.Resolvable.{Resolvable, resolvable, met_valid, Lower, lower, kept}
use Rattle.wcsp.proofs.Assignments.{total-append, total_plus, assignments-le, assignments-at}

-- the grade of a clause that p falsifies, else 0
unfoldable pub worth : List ℕ → List ℕ → List ℕ → ℕ
worth ds p c = cond (falsifies p c) (grade ds c) 0

pub graded-weighted : (ds p : List ℕ) (rs : List Row) → graded ds p rs ≡ weighted (worth ds p) rs
unfolding graded weighted worth
graded-weighted ds p [] = refl
graded-weighted ds p (r ∷ rs) = go (falsifies p r.signs) (graded-weighted ds p rs)
  where
    go : (b : Bool) → graded ds p rs ≡ weighted (worth ds p) rs
        → cond b (r.weight * grade ds r.signs) 0 + graded ds p rs ≡ r.weight * cond b (grade ds r.signs) 0 + weighted (worth ds p) rs
    go true ih = omega arith
    go false ih = omega arith

tautology-worth : {ds p : List ℕ} → InRange ds p → (c : List ℕ) → tautology ds c ≡ true → worth ds p c ≡ 0
unfolding worth
tautology-worth {ds} r c e = ap (λ b. cond b (grade ds c) 0) (tautology_satisfied r c e)

-- clauses of one grade: as many times the grade as p falsifies
worth_each : (ds p : List ℕ) (g : ℕ) {cs : List (List ℕ)} → Each (λ c. grade ds c ≡ g) cs → total (worth ds p) cs ≡ falsified_count p cs * g
unfolding total worth falsified_count
worth_each ds p g nil_each = omega arith
worth_each ds p g (cons_each {c = c} {cs = cs} e es) = go (falsifies p c) (worth_each ds p g es)
  where
    go : (b : Bool) → total (worth ds p) cs ≡ falsified_count p cs * g
        → cond b (grade ds c) 0 + total (worth ds p) cs ≡ (cond b 1 0 + falsified_count p cs) * g
    go true ih = omega arith
    go false ih = omega arith

-- one step at one assignment, as Booleans: f, g say that it falsifies x, y, and m, n that it does so without the signs at s
falls_law : (f g m n : Bool) {x y meet union : ℕ} → f ≡ (f && m) → g ≡ (g && n) → Lower x y meet union
    → cond ((f || g) && (m && n)) meet 0 + (cond (f && g) union 0 + (once (f && not n) * x + once (g && not m) * y))
    + once ((f || g) && (m && n))
    ≤ cond f x 0 + cond g y 0
falls_law true true true true h k l = omega (arith, l.both)
falls_law true true true false h k l = absurd (false≢true (sym k))
falls_law true true false n h k l = absurd (false≢true (sym h))
falls_law true false true true h k l = omega (arith, l.first)
falls_law true false true false h k l = omega arith
falls_law true false false n h k l = absurd (false≢true (sym h))
falls_law false true true true h k l = omega (arith, l.second)
falls_law false true false true h k l = omega arith
falls_law false true m false h k l = absurd (false≢true (sym k))
falls_law false false m n h k l = omega arith

pub worth_falls : {s : ℕ} {ds x y p : List ℕ} → ValidClause ds x → ValidClause ds y → InRange ds p → Resolvable ds s x y
    → total (worth ds p) (conclusions ds s x y) + once (falsifies p (met s x y)) ≤ worth ds p x + worth ds p y
unfolding conclusions total worth
worth_falls {s} {ds} {x} {y} {p} a b c r =
    let (ex, ey) = kept r in
    rw (
      total-append (worth ds p) (excluding ds x (others s y)) (excluding ds y (others s x)),
      worth_each ds p (grade ds x) ex,
      worth_each ds p (grade ds y) ey,
      count_excluding a (others_valid s b) c,
      count_excluding b (others_valid s a) c,
      falsifies-met s a b c,
      falsifies-joined a b c,
    )
    (falls_law (falsifies p x) (falsifies p y) (falsifies p (others s x)) (falsifies p (others s y))
    (falsifies-others s a c) (falsifies-others s b c) (lower r))

-- a step on any candidate; potential_falls is that of the least one
pub candidate_falls : (ds : List ℕ) (rs : List Row) (pr : Pair) → ValidRows ds rs → CandidatePair ds rs pr
    → potential ds (resolve ds pr rs) < potential ds rs
unfolding potential
candidate_falls ds rs pr v c =
    omega (
      arith,
      assignments-le ds (λ p. graded ds p (resolve ds pr rs) + u * once (falsifies p meet)) (λ p. graded ds p rs) at_one,
      total_plus (λ p. graded ds p (resolve ds pr rs)) (λ p. u * once (falsifies p meet)) (assignments ds),
      assignments-at (λ p. u * once (falsifies p meet)) witness.in_range,
      ap (λ b. u * once b) witness.falsifying,
      moved_positive pr v in_first c.pair.in_table,
    )
  where
    in_first : pr.first < length rs
    in_first = omega (arith, c.pair.ordered, c.pair.in_table)

    x : List ℕ
    x = (get_or rs pr.first no_row).signs

    y : List ℕ
    y = (get_or rs pr.second no_row).signs

    u : ℕ
    u = moved_weight pr rs

    meet : List ℕ
    meet = met pr.variable x y

    valid_x : ValidClause ds x
    valid_x = valid_signs_lem pr.first v in_first

    valid_y : ValidClause ds y
    valid_y = valid_signs_lem pr.second v c.pair.in_table

    both : Resolvable ds pr.variable x y
    both = resolvable pr.variable valid_x valid_y c.pair.known c.first_in c.second_in c.pair.may

    witness : FalsifiedBy ds meet
    witness = falsifiable (met_valid both)

    at_one : (p : List ℕ) → InRange ds p → graded ds p (resolve ds pr rs) + u * once (falsifies p meet) ≤ graded ds p rs
    at_one p r =
        omega (
          arith,
          graded-weighted ds p (resolve ds pr rs),
          graded-weighted ds p rs,
          linear ds rs pr (worth ds p) (tautology-worth r) c.pair.ordered c.pair.in_table,
          mul-le-mul_left u (worth_falls valid_x valid_y r both),
        )

pub potential_falls : PotentialFalls
potential_falls ds rs pr v e = candidate_falls ds rs pr v ((next_is_least ds rs pr).0 e).is
