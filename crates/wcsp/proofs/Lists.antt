-- Tests joined, equality of clauses as a test, and lists that go along together: equal lengths, and the relation at each place.
use Prim.Native.Nat.{ℕ, zero, suc, ◌<◌}
use native.Mathlib.Nat.{le_of_suc-le-suc}
use native.Mathlib.Omega.{arith}
use mathlib.Core.Path.{◌≡◌, refl, sym, ap, ap₂, ◌∙◌}
use mathlib.Core.Bool.{Bool, true, false, ◌&&◌, ◌||◌, false≢true}
use mathlib.Core.List.{List, [], ◌∷◌}
use lib.ListN.{length, get_or}
use lib.Dec.{eqb}
use borrow.Author.Tests.{eqb-true, eq-eqb}
use Rattle.wcsp.specs.Clause.{Along, nil, cons, same}
use Rattle.wcsp.specs.Rule.{others}

pub and_left : (a b : Bool) → (a && b) ≡ true → a ≡ true
and_left true b e = refl
and_left false b e = e

pub and_right : (a b : Bool) → (a && b) ≡ true → b ≡ true
and_right true b e = e
and_right false b e = absurd (false≢true e)

pub both_true : (a b : Bool) → a ≡ true → b ≡ true → (a && b) ≡ true
both_true true b e f = f
both_true false b e f = e

pub ne_true : (b : Bool) → (b ≡ true → ⊥) → b ≡ false
ne_true true n = absurd (n refl)
ne_true false n = refl

pub or_left : (a b : Bool) → (a || b) ≡ false → a ≡ false
or_left true b e = e
or_left false b e = refl

pub or_right : (a b : Bool) → (a || b) ≡ false → b ≡ false
or_right true b e = absurd (false≢true (sym e))
or_right false b e = e

pub same_refl : (x : List ℕ) → same x x ≡ true
unfolding same
same_refl [] = refl
same_refl (S ∷ x) = rw (eq-eqb S S refl) (same_refl x)

pub same-eq : (x y : List ℕ) → same x y ≡ true → x ≡ y
unfolding same
same-eq [] [] e = refl
same-eq [] (T ∷ y) e = absurd (false≢true e)
same-eq (S ∷ x) [] e = absurd (false≢true e)
same-eq (S ∷ x) (T ∷ y) e =
    ap₂ (λ a c. a ∷ c) (eqb-true S T (and_left (eqb S T) (same x y) e)) (same-eq x y (and_right (eqb S T) (same x y) e))

pub ne_same : (x y : List ℕ) → (x ≡ y → ⊥) → same x y ≡ false
ne_same x y h = go (same x y) refl
  where
    go : (b : Bool) → same x y ≡ b → same x y ≡ false
    go true e = absurd (h (same-eq x y e))
    go false e = e

pub same-ne : (x y : List ℕ) → same x y ≡ false → x ≡ y → ⊥
same-ne x y h e = false≢true (sym h ∙ ap (λ c. same x c) (sym e) ∙ same_refl x)

pub same_sym : (x y : List ℕ) → same x y ≡ same y x
same_sym x y = go (same x y) refl
  where
    go : (b : Bool) → same x y ≡ b → same x y ≡ same y x
    go true e = e ∙ sym (same_refl x) ∙ ap (λ c. same c x) (same-eq x y e)
    go false e = e ∙ sym (ne_same y x (λ f. same-ne x y e (sym f)))

-- ---- lists along each other

pub along_length : {R : ℕ → ℕ → Type 0} {xs ys : List ℕ} → Along R xs ys → length xs ≡ length ys
along_length nil = refl
along_length (cons r a) = ap suc (along_length a)

pub along_at : {R : ℕ → ℕ → Type 0} {xs ys : List ℕ} → Along R xs ys → (i : ℕ) → i < length xs → R (get_or xs i 0) (get_or ys i 0)
along_at nil i h = absurd (omega arith)
along_at (cons r a) zero h = r
along_at (cons r a) (suc i) h = along_at a i (le_of_suc-le-suc h)

-- the relation changed place by place
pub along_map : {R Q : ℕ → ℕ → Type 0} {xs ys : List ℕ} → ((a b : ℕ) → R a b → Q a b) → Along R xs ys → Along Q xs ys
along_map f nil = nil
along_map f (cons {a = a} {b = b} r t) = cons (f a b r) (along_map f t)

-- without the sign at s
pub along_others : {R : ℕ → ℕ → Type 0} {xs ys : List ℕ} (s : ℕ) → ((a b : ℕ) → R a b → R a 0) → Along R xs ys → Along R xs (others s ys)
along_others s f nil = nil
along_others zero f (cons {a = a} {b = b} r t) = cons (f a b r) t
along_others (suc s) f (cons r t) = cons r (along_others s f t)
