-- The falsified weight as a sum over the rows of weight times 1 or 0, so that the linear law serves it: a tautology is falsified by no assignment in range.
use Prim.Native.Nat.{ℕ, ◌+◌, ◌*◌}
use mathlib.Core.Path.{◌≡◌, refl, ap}
use mathlib.Core.Bool.{Bool, true, false, not, ◌&&◌, ◌||◌, cond, false≢true}
use mathlib.Core.List.{List, [], ◌∷◌}
use native.Mathlib.Omega.{arith}
use lib.Dec.{eqb}
use borrow.Author.Tests.{eqb-true}
use Rattle.wcsp.specs.Sign.{has, full}
use Rattle.wcsp.specs.Clause.{nil, cons, InRange, falsifies, tautology}
use Rattle.wcsp.specs.Row.{Row, falsified, add}
use Rattle.wcsp.specs.Bound.{total}
use Rattle.wcsp.specs.Theorems.{falsified_count}
use Rattle.wcsp.proofs.Signs.{has-full}
use Rattle.wcsp.proofs.Linear.{weighted, weighted-add}

-- 1 for a clause that p falsifies
unfoldable pub hit : List ℕ → List ℕ → ℕ
hit p c = cond (falsifies p c) 1 0

pub falsified-weighted : (p : List ℕ) (rs : List Row) → falsified p rs ≡ weighted (hit p) rs
unfolding falsified weighted hit
falsified-weighted p [] = refl
falsified-weighted p (r ∷ rs) = go (falsifies p r.signs) (falsified-weighted p rs)
  where
    go : (b : Bool) → falsified p rs ≡ weighted (hit p) rs
        → cond b r.weight 0 + falsified p rs ≡ r.weight * cond b 1 0 + weighted (hit p) rs
    go true ih = omega arith
    go false ih = omega arith

pub count_total : (p : List ℕ) (cs : List (List ℕ)) → falsified_count p cs ≡ total (hit p) cs
unfolding falsified_count total hit
count_total p [] = refl
count_total p (c ∷ cs) = ap (λ n. cond (falsifies p c) 1 0 + n) (count_total p cs)

pub tautology_satisfied : {ds p : List ℕ} → InRange ds p → (c : List ℕ) → tautology ds c ≡ true → falsifies p c ≡ false
unfolding tautology falsifies
tautology_satisfied nil c e = absurd (false≢true e)
tautology_satisfied (cons h t) [] e = absurd (false≢true e)
tautology_satisfied (cons {a = d} {b = v} {xs = ds} {ys = p} h t) (S ∷ c) e = go (eqb S (full d)) refl e (tautology_satisfied t c)
  where
    late : (b : Bool) → falsifies p c ≡ false → b && falsifies p c ≡ false
    late true k = k
    late false k = refl

    go : (b : Bool) → eqb S (full d) ≡ b → (b || tautology ds c) ≡ true → (tautology ds c ≡ true → falsifies p c ≡ false)
        → not (has S v) && falsifies p c ≡ false
    go true k e ih = rw (eqb-true S (full d) k, has-full d v h)
    go false k e ih = late (not (has S v)) (ih e)

pub tautology-hit : {ds p : List ℕ} → InRange ds p → (c : List ℕ) → tautology ds c ≡ true → hit p c ≡ 0
unfolding hit
tautology-hit r c e = ap (λ b. cond b 1 0) (tautology_satisfied r c e)

-- adding a clause adds its weight where the assignment falsifies it
pub falsified-add : {ds p : List ℕ} → InRange ds p → (u : ℕ) (rs : List Row) (c : List ℕ)
    → falsified p (add ds u rs c) ≡ falsified p rs + u * hit p c
falsified-add {ds} {p} r u rs c =
    omega
    (arith, falsified-weighted p (add ds u rs c), falsified-weighted p rs, weighted-add ds (hit p) (tautology-hit r) u rs c)
