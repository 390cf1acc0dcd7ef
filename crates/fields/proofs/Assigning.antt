-- An assignment is what the test accepts, and the test's answer value by value.
use Prim.Native.Nat.{ℕ, suc}
use native.Mathlib.Omega.{arith}
use mathlib.Core.Path.{◌≡◌, refl, ap}
use mathlib.Core.Bool.{Bool, true, false, ◌&&◌, false≢true}
use mathlib.Core.List.{List, [], ◌∷◌}
use lib.ListN.{length}
use lib.Dec.{ltb}
use borrow.Author.Tests.{lt-ltb, ltb-true}
use Rattle.wcsp.specs.Clause.{nil, cons, InRange}
use Rattle.std.specs.List.{list_all, zip}
use Rattle.fields.specs.Assignment.{is_assignment}

pub in_range_of : (ds p : List ℕ) → is_assignment ds p ≡ true → InRange ds p
unfolding is_assignment
in_range_of [] [] e = nil
in_range_of [] (v ∷ p) e = absurd (false≢true e)
in_range_of (d ∷ ds) [] e = absurd (false≢true e)
in_range_of (d ∷ ds) (v ∷ p) e = go (ltb v d) refl e (λ h. in_range_of ds p h)
  where
    go : (b : Bool) → ltb v d ≡ b → (b && is_assignment ds p) ≡ true → (is_assignment ds p ≡ true → InRange ds p) → InRange (d ∷ ds) (v ∷ p)
    go true f e ih = cons (ltb-true v d f) (ih e)
    go false f e ih = absurd (false≢true e)

pub assignment_of : {ds p : List ℕ} → InRange ds p → is_assignment ds p ≡ true
unfolding is_assignment
assignment_of nil = refl
assignment_of (cons {a = d} {b = v} h r) = rw (lt-ltb v d h) (assignment_of r)

-- ---- by pairs of a value and its size

pub assignment_long : (ds p : List ℕ) → (length p ≡ length ds → ⊥) → false ≡ is_assignment ds p
unfolding is_assignment
assignment_long [] [] h = absurd (h refl)
assignment_long [] (v ∷ p) h = refl
assignment_long (d ∷ ds) [] h = refl
assignment_long (d ∷ ds) (v ∷ p) h = go (ltb v d) (assignment_long ds p (λ e. h (ap suc e)))
  where
    go : (b : Bool) → false ≡ is_assignment ds p → false ≡ (b && is_assignment ds p)
    go true e = e
    go false e = refl

pub assignment_all : (ds p : List ℕ) → length p ≡ length ds → list_all (λ x. ltb x.0 x.1) (zip p ds) ≡ is_assignment ds p
unfolding is_assignment
assignment_all [] [] e = refl
assignment_all [] (v ∷ p) e = absurd (omega arith)
assignment_all (d ∷ ds) [] e = absurd (omega arith)
assignment_all (d ∷ ds) (v ∷ p) e = ap (λ b. ltb v d && b) (assignment_all ds p (omega arith))
