-- Gains and grades: the gain of a sign grows strictly and concavely with the number of its values, a union and a meet have as many values
-- as the two signs, and no grade passes the sum of the squared sizes.
use Prim.Native.Nat.{ℕ, suc, ◌+◌, ◌-◌, ◌*◌, ◌/◌, ◌%◌, ◌<◌, ◌≤◌, min, max}
use mathlib.Core.Path.{◌≡◌, refl, ◌∙◌, ap}
use mathlib.Core.Bool.{Bool, true, false}
use mathlib.Core.List.{List, ◌∷◌}
use mathlib.Core.Logic.{◌≢◌}
use native.Mathlib.Omega.{arith}
use lib.Arith.{bin_ind}
use lib.Bits.{bit_and, bit_or, or_step, and_step}
use lib.Count.{ones, ones_step, ones-le}
use lib.Pow.{pow_pos}
use lib.Dec.{eqb}
use borrow.Author.Tests.{eqb-true, eqb-false, eq-eqb, ne_eqb}
use Rattle.wcsp.specs.Sign.{full}
use Rattle.wcsp.specs.Clause.{ValidClause, nil, cons}
use Rattle.wcsp.specs.Bound.{total, squares, gain, grade}

-- the gain without a subtraction: r values are missing
gain_of : (d k r : ℕ) → d ≡ k + r → gain d k ≡ k * (k + 2 * r)
unfolding gain
gain_of d k r e = let h : 2 * d - k ≡ k + 2 * r = omega arith in ap (λ n. k * n) h

pub gain_less : (d k j : ℕ) → k < j → j ≤ d → gain d k < gain d j
gain_less d k j h l = go (j - suc k) (d - j) (omega arith) (omega arith)
  where
    go : (x f : ℕ) → j ≡ suc (k + x) → d ≡ j + f → gain d k < gain d j
    go x f e e' =
        let low : gain d k ≡ k * (k + 2 * (suc x + f)) = gain_of d k (suc x + f) (omega arith) in
        let high : gain d j ≡ suc (k + x) * (suc (k + x) + 2 * f) = gain_of d j f e' ∙ ap (λ n. n * (n + 2 * f)) e in
        omega arith

-- strictly concave: with one sum, the inner two gain more than the outer two
pub gain_concave : (d m j a b : ℕ) → j + m ≡ a + b → m < a → m < b → j ≤ d → gain d m + gain d j < gain d a + gain d b
gain_concave d m j a b s h k l = go (a - suc m) (b - suc m) (d - j) (omega arith) (omega arith) (omega arith)
  where
    go : (x y f : ℕ) → a ≡ suc (m + x) → b ≡ suc (m + y) → d ≡ j + f → gain d m + gain d j < gain d a + gain d b
    go x y f ea eb ed =
        let ej : j ≡ suc (suc (m + x + y)) = omega arith in
        let gm : gain d m ≡ m * (m + 2 * (suc (suc (x + y + f)))) = gain_of d m (suc (suc (x + y + f))) (omega arith) in
        let gj : gain d j ≡ suc (suc (m + x + y)) * (suc (suc (m + x + y)) + 2 * f) = gain_of d j f ed ∙ ap (λ n. n * (n + 2 * f)) ej in
        let ga : gain d a ≡ suc (m + x) * (suc (m + x) + 2 * (suc (y + f))) =
        gain_of d a (suc (y + f)) (omega arith) ∙ ap (λ n. n * (n + 2 * (suc (y + f)))) ea
        in
        let gb : gain d b ≡ suc (m + y) * (suc (m + y) + 2 * (suc (x + f))) =
        gain_of d b (suc (x + f)) (omega arith) ∙ ap (λ n. n * (n + 2 * (suc (x + f)))) eb
        in
        omega arith

pub gain-le_square : (d k : ℕ) → k ≤ d → gain d k ≤ d * d
gain-le_square d k h = go (d - k) (omega arith)
  where
    go : (r : ℕ) → d ≡ k + r → gain d k ≤ d * d
    go r e =
        let g : gain d k ≡ k * (k + 2 * r) = gain_of d k r e in
        let s : d * d ≡ (k + r) * (k + r) = ap (λ n. n * n) e in
        omega arith

-- the lowest digit counted, and the rest
digit : (n q m : ℕ) → n ≡ q * 2 + m → m < 2 → ones n ≡ m + ones q
digit n q m e h =
    let low : n % 2 ≡ m = omega arith in
    let rest : n / 2 ≡ q = omega arith in
    ones_step n ∙ rw (low, rest)

-- union and meet together have as many values as the two signs
pub ones_or_and : (S T : ℕ) → ones (bit_or S T) + ones (bit_and S T) ≡ ones S + ones T
ones_or_and =
    bin_ind (λ (n : ℕ). (T : ℕ) → ones (bit_or n T) + ones (bit_and n T) ≡ ones n + ones T) (λ T. omega arith)
    (λ n ih T. omega (
      arith,
      digit (bit_or n T) (bit_or (n / 2) (T / 2)) (max (n % 2) (T % 2)) (or_step n T) (omega arith),
      digit (bit_and n T) (bit_and (n / 2) (T / 2)) (min (n % 2) (T % 2)) (and_step n T) (omega arith),
      ones_step n,
      ones_step T,
      ih (T / 2),
    ))

-- a meet has fewer values than the sign, unless it is the sign
ones-within : (S T : ℕ) → (ones (bit_and S T) ≤ ones S) × (ones (bit_and S T) ≡ ones S → bit_and S T ≡ S)
ones-within =
    bin_ind (λ (n : ℕ). (T : ℕ) → (ones (bit_and n T) ≤ ones n) × (ones (bit_and n T) ≡ ones n → bit_and n T ≡ n))
    (λ T. (omega arith, λ e. refl))
    (λ n ih T. step n T (ih (T / 2)))
  where
    step : (n T : ℕ) → (ones (bit_and (n / 2) (T / 2)) ≤ ones (n / 2)) × (ones (bit_and (n / 2) (T / 2)) ≡ ones (n / 2) → bit_and (n / 2) (T / 2) ≡ n / 2)
        → (ones (bit_and n T) ≤ ones n) × (ones (bit_and n T) ≡ ones n → bit_and n T ≡ n)
    step n T ih =
        let met : ones (bit_and n T) ≡ min (n % 2) (T % 2) + ones (bit_and (n / 2) (T / 2)) =
        digit (bit_and n T) (bit_and (n / 2) (T / 2)) (min (n % 2) (T % 2)) (and_step n T) (omega arith)
        in
        let whole : ones n ≡ n % 2 + ones (n / 2) = ones_step n in (
          omega arith,
          λ e.
              let q : bit_and (n / 2) (T / 2) ≡ n / 2 = ih.1 (omega arith) in
              omega (arith, and_step n T),
        )

pub ones_meet_less : (S T : ℕ) → (bit_and S T ≡ S → ⊥) → ones (bit_and S T) < ones S
ones_meet_less S T h = go (eqb (ones (bit_and S T)) (ones S)) refl
  where
    go : (b : Bool) → eqb (ones (bit_and S T)) (ones S) ≡ b → ones (bit_and S T) < ones S
    go true e = absurd (h ((ones-within S T).1 (eqb-true _ _ e)))
    go false e = let n : ones (bit_and S T) ≢ ones S = eqb-false _ _ e in omega (arith, (ones-within S T).0)

-- a sign has at most as many values as its variable
pub ones_below : (d S : ℕ) → S ≤ full d → ones S ≤ d
unfolding full
ones_below d S h = ones-le d S (omega (arith, pow_pos d))

-- a clause present at the first variable: its grade there
pub grade-present : (d S : ℕ) (ds c : List ℕ) → (S ≡ 0 → ⊥) → grade (d ∷ ds) (S ∷ c) ≡ gain d (ones S) + squares ds
unfolding grade
grade-present d S ds c h = rw (ne_eqb S 0 h)

pub grade_absent : (d S : ℕ) (ds c : List ℕ) → S ≡ 0 → grade (d ∷ ds) (S ∷ c) ≡ grade ds c
unfolding grade
grade_absent d S ds c h = rw (eq-eqb S 0 h)

pub squares-cons : (d : ℕ) (ds : List ℕ) → squares (d ∷ ds) ≡ d * d + squares ds
unfolding squares total
squares-cons d ds = refl

-- either way, at most the gain at the first variable and what the later ones can have
pub grade-cons-le : (d S : ℕ) (ds c : List ℕ) → grade ds c ≤ squares ds → grade (d ∷ ds) (S ∷ c) ≤ gain d (ones S) + squares ds
grade-cons-le d S ds c ih = go (eqb S 0) refl
  where
    go : (b : Bool) → eqb S 0 ≡ b → grade (d ∷ ds) (S ∷ c) ≤ gain d (ones S) + squares ds
    go true e = omega (arith, grade_absent d S ds c (eqb-true S 0 e))
    go false e = omega (arith, grade-present d S ds c (eqb-false S 0 e))

-- no grade passes the sum of the squares
pub grade-le : {ds c : List ℕ} → ValidClause ds c → grade ds c ≤ squares ds
unfolding grade
grade-le nil = omega arith
grade-le (cons {a = d} {b = S} {xs = ds} {ys = c} h v) =
    let l : ones S ≤ d = ones_below d S (omega arith) in
    omega (arith, grade-cons-le d S ds c (grade-le v), gain-le_square d (ones S) l, squares-cons d ds)
