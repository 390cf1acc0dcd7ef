-- Sums over lists and over every assignment: an assignment in range occurs among them, and no other does.
use Prim.Native.Nat.{ℕ, zero, suc, ◌+◌, ◌*◌, ◌<◌, ◌≤◌}
use mathlib.Core.Path.{◌≡◌, refl, ap}
use mathlib.Core.Bool.{Bool, true, false}
use mathlib.Core.List.{List, [], ◌∷◌, ◌++◌, map}
use mathlib.Core.Logic.{◌≢◌}
use native.Mathlib.Omega.{arith}
use lib.Dec.{eqb}
use borrow.Author.Tests.{eqb-true, eqb-false}
use Rattle.wcsp.specs.Clause.{InRange, nil, cons}
use Rattle.wcsp.specs.Bound.{total, values_below, prefixed, assignments}

module _ {A : Type 0} where
  pub total-append : (f : A → ℕ) (xs ys : List A) → total f (xs ++ ys) ≡ total f xs + total f ys
  unfolding total
  total-append f [] ys = omega arith
  total-append f (x ∷ xs) ys = omega (arith, total-append f xs ys)

  pub total-map : {B : Type 0} (f : B → ℕ) (g : A → B) (xs : List A) → total f (map g xs) ≡ total (λ x. f (g x)) xs
  unfolding total
  total-map f g [] = refl
  total-map f g (x ∷ xs) = omega (arith, total-map f g xs)

  pub total_plus : (f g : A → ℕ) (xs : List A) → total (λ x. f x + g x) xs ≡ total f xs + total g xs
  unfolding total
  total_plus f g [] = omega arith
  total_plus f g (x ∷ xs) = omega (arith, total_plus f g xs)

  pub total_times : (u : ℕ) (f : A → ℕ) (xs : List A) → total (λ x. u * f x) xs ≡ u * total f xs
  unfolding total
  total_times u f [] = omega arith
  total_times u f (x ∷ xs) = omega (arith, total_times u f xs)

-- over the values below d
values_le : (d : ℕ) (f g : ℕ → ℕ) → ((v : ℕ) → v < d → f v ≤ g v) → total f (values_below d) ≤ total g (values_below d)
unfolding values_below total
values_le zero f g h = omega arith
values_le (suc d) f g h =
    omega (
      arith,
      total-append f (values_below d) (d ∷ []),
      total-append g (values_below d) (d ∷ []),
      values_le d f g (λ v l. h v (omega arith)),
      h d (omega arith),
    )

values_at : (d v : ℕ) (f : ℕ → ℕ) → v < d → f v ≤ total f (values_below d)
unfolding values_below total
values_at zero v f h = omega arith
values_at (suc d) v f h = go (eqb v d) refl (λ l. values_at d v f l)
  where
    go : (b : Bool) → eqb v d ≡ b → (v < d → f v ≤ total f (values_below d)) → f v ≤ total f (values_below (suc d))
    go true e ih = let s : f v ≡ f d = ap f (eqb-true v d e) in omega (arith, total-append f (values_below d) (d ∷ []))
    go false e ih =
        let n : v ≢ d = eqb-false v d e in
        let l : v < d = omega arith in
        omega (arith, total-append f (values_below d) (d ∷ []), ih l)

total-prefixed : (f : List ℕ → ℕ) (vs : List ℕ) (ps : List (List ℕ))
    → total f (prefixed vs ps) ≡ total (λ v. total (λ p. f (v ∷ p)) ps) vs
unfolding prefixed total
total-prefixed f [] ps = refl
total-prefixed f (v ∷ vs) ps =
    omega (arith, total-append f (map (λ p. v ∷ p) ps) (prefixed vs ps), total-map f (λ p. v ∷ p) ps, total-prefixed f vs ps)

-- what holds of every assignment in range holds of the sums over all of them
pub assignments-le : (ds : List ℕ) (f g : List ℕ → ℕ) → ((p : List ℕ) → InRange ds p → f p ≤ g p)
    → total f (assignments ds) ≤ total g (assignments ds)
unfolding assignments total
assignments-le [] f g h = omega (arith, h [] nil)
assignments-le (d ∷ ds) f g h =
    omega (
      arith,
      total-prefixed f (values_below d) (assignments ds),
      total-prefixed g (values_below d) (assignments ds),
      values_le d (λ v. total (λ p. f (v ∷ p)) (assignments ds)) (λ v. total (λ p. g (v ∷ p)) (assignments ds))
          (λ v l. assignments-le ds (λ p. f (v ∷ p)) (λ p. g (v ∷ p)) (λ p r. h (v ∷ p) (cons l r))),
    )

-- every assignment in range is among them
pub assignments-at : {ds p : List ℕ} (f : List ℕ → ℕ) → InRange ds p → f p ≤ total f (assignments ds)
unfolding assignments total
assignments-at f nil = omega arith
assignments-at f (cons {a = d} {b = v} {xs = ds} {ys = p} h r) =
    omega (
      arith,
      total-prefixed f (values_below d) (assignments ds),
      values_at d v (λ v. total (λ p. f (v ∷ p)) (assignments ds)) h,
      assignments-at (λ p. f (v ∷ p)) r,
    )

-- equal sums from equal values
pub assignments-eq : (ds : List ℕ) (f g : List ℕ → ℕ) → ((p : List ℕ) → InRange ds p → f p ≡ g p)
    → total f (assignments ds) ≡ total g (assignments ds)
assignments-eq ds f g h =
    omega (
      arith,
      assignments-le ds f g (λ p r. omega (arith, h p r)),
      assignments-le ds g f (λ p r. omega (arith, h p r)),
    )
