-- Signs as sets: which values the empty, full, joined, met and complemented signs have, and when two signs are equal.
-- Every law goes digit by digit: value 0 is the lowest digit, value v + 1 of S is value v of S / 2.
use Prim.Native.Nat.{ℕ, zero, suc, ◌+◌, ◌-◌, ◌/◌, ◌%◌, ◌^◌, ◌<◌, ◌≤◌, suc-le-suc, min, max}
use native.Mathlib.Numerals.{one-add}
use native.Mathlib.Omega.{arith}
use mathlib.Core.Path.{◌≡◌, refl, sym, ap, ap₂, ◌∙◌}
use mathlib.Core.Bool.{Bool, true, false, not, ◌&&◌, ◌||◌, false≢true}
use mathlib.Core.List.{List, map}
use lib.ListN.{get_or, get_or-map}
use lib.Bits.{bit_and, bit_or, and_step, or_step, and_shr, or_shr, and_le_l, or_lt}
use lib.Pow.{shr-shr, pow_pos, pow-lt, lt_of_le_ones, le_ones}
use lib.Dec.{eqb, eqb-zero-suc, eqb-suc-zero, eqb-suc-suc}
use borrow.Author.Tests.{eqb-true, eqb-false, eq-eqb}
use Rattle.wcsp.specs.Sign.{has, full, complement, within, lowest}

-- the full sign at a place of a list of full signs; past the last both are 0
pub full_at : (ds : List ℕ) (v : ℕ) → get_or (map full ds) v 0 ≡ full (get_or ds v 0)
unfolding full
full_at ds v = get_or-map full ds v 0

-- ---- one digit

pub has_head : (S : ℕ) → has S 0 ≡ eqb (S % 2) 1
unfolding has
has_head S = let e : S / 2 ^ 0 ≡ S = omega arith in rw e

pub has-step : (S v : ℕ) → has S (suc v) ≡ has (S / 2) v
unfolding has
has-step S v = ap (λ n. eqb (n % 2) 1) (ap (λ n. S / 2 ^ n) (sym (one-add v)) ∙ sym (shr-shr S 1 v))

or_digit : (a b c : ℕ) → a < 2 → b < 2 → c ≡ max a b → eqb c 1 ≡ (eqb a 1 || eqb b 1)
or_digit zero b c ha hb e = let h : c ≡ b = omega arith in rw h
or_digit (suc zero) b c ha hb e = let h : c ≡ 1 = omega arith in rw h
or_digit (suc (suc a)) b c ha hb e = absurd (omega arith)

and_digit : (a b c : ℕ) → a < 2 → b < 2 → c ≡ min a b → eqb c 1 ≡ (eqb a 1 && eqb b 1)
and_digit zero b c ha hb e = let h : c ≡ 0 = omega arith in rw h
and_digit (suc zero) b c ha hb e = let h : c ≡ b = omega arith in rw h
and_digit (suc (suc a)) b c ha hb e = absurd (omega arith)

not_digit : (a c : ℕ) → a < 2 → c + a ≡ 1 → eqb c 1 ≡ not (eqb a 1)
not_digit zero c ha e = let h : c ≡ 1 = omega arith in rw h
not_digit (suc zero) c ha e = let h : c ≡ 0 = omega arith in rw h
not_digit (suc (suc a)) c ha e = absurd (omega arith)

-- ---- the values of a sign

pub has-zero : (v : ℕ) → has 0 v ≡ false
has-zero zero = has_head 0
has-zero (suc v) = has-step 0 v ∙ has-zero v

pub has-full : (d v : ℕ) → v < d → has (full d) v ≡ true
unfolding full
has-full zero v h = absurd (omega arith)
has-full (suc d) zero h =
    let p = pow_pos d in let e : (2 ^ suc d - 1) % 2 ≡ 1 = omega arith in has_head (2 ^ suc d - 1) ∙ eq-eqb _ _ e
has-full (suc d) (suc v) h =
    let p = pow_pos d in
    let e : (2 ^ suc d - 1) / 2 ≡ 2 ^ d - 1 = omega arith in
    has-step (2 ^ suc d - 1) v ∙ ap (λ n. has n v) e ∙ has-full d v (omega arith)

pub has_or : (S T v : ℕ) → has (bit_or S T) v ≡ (has S v || has T v)
has_or S T zero =
    has_head (bit_or S T) ∙ or_digit (S % 2) (T % 2) (bit_or S T % 2) (omega arith) (omega arith) (omega (arith, or_step S T))
    ∙ ap₂ (λ a b. a || b) (sym (has_head S)) (sym (has_head T))
has_or S T (suc v) =
    has-step (bit_or S T) v ∙ ap (λ n. has n v) (or_shr S T 1) ∙ has_or (S / 2) (T / 2) v
    ∙ ap₂ (λ a b. a || b) (sym (has-step S v)) (sym (has-step T v))

pub has_and : (S T v : ℕ) → has (bit_and S T) v ≡ (has S v && has T v)
has_and S T zero =
    has_head (bit_and S T) ∙ and_digit (S % 2) (T % 2) (bit_and S T % 2) (omega arith) (omega arith) (omega (arith, and_step S T))
    ∙ ap₂ (λ a b. a && b) (sym (has_head S)) (sym (has_head T))
has_and S T (suc v) =
    has-step (bit_and S T) v ∙ ap (λ n. has n v) (and_shr S T 1) ∙ has_and (S / 2) (T / 2) v
    ∙ ap₂ (λ a b. a && b) (sym (has-step S v)) (sym (has-step T v))

pub has-complement : (d S v : ℕ) → S ≤ full d → v < d → has (complement d S) v ≡ not (has S v)
unfolding complement full
has-complement zero S v l h = absurd (omega arith)
has-complement (suc d) S zero l h =
    let p = pow_pos d in
    has_head (2 ^ suc d - 1 - S) ∙ not_digit (S % 2) ((2 ^ suc d - 1 - S) % 2) (omega arith) (omega arith) ∙ ap not (sym (has_head S))
has-complement (suc d) S (suc v) l h =
    let p = pow_pos d in
    let e : (2 ^ suc d - 1 - S) / 2 ≡ 2 ^ d - 1 - S / 2 = omega arith in
    has-step (2 ^ suc d - 1 - S) v ∙ ap (λ n. has n v) e ∙ has-complement d (S / 2) v (omega arith) (omega arith)
    ∙ ap not (sym (has-step S v))

pub has_single : (v w : ℕ) → has (2 ^ v) w ≡ eqb v w
has_single zero zero = has_head 1
has_single zero (suc w) = has-step 1 w ∙ has-zero w ∙ sym (eqb-zero-suc w)
has_single (suc v) zero =
    let e : 2 ^ suc v % 2 ≡ 0 = omega arith in has_head (2 ^ suc v) ∙ ap (λ n. eqb n 1) e ∙ sym (eqb-suc-zero v)
has_single (suc v) (suc w) =
    let e : 2 ^ suc v / 2 ≡ 2 ^ v = omega arith in
    has-step (2 ^ suc v) w ∙ ap (λ n. has n w) e ∙ has_single v w ∙ sym (eqb-suc-suc v w)

pub single_le-full : (d v : ℕ) → v < d → 2 ^ v ≤ full d
unfolding full
single_le-full d v h = le_ones d (pow-lt h)

pub has_but_one : (d v w : ℕ) → v < d → w < d → has (full d - 2 ^ v) w ≡ not (eqb v w)
unfolding complement
has_but_one d v w hv hw = has-complement d (2 ^ v) w (single_le-full d v hv) hw ∙ ap not (has_single v w)

pub within_has : (S T v : ℕ) → within S T ≡ true → has S v ≡ true → has T v ≡ true
unfolding within
within_has S T v w h = go (has S v) (has T v) h (ap (λ n. has n v) (sym (eqb-true _ _ w)) ∙ has_and S T v)
  where
    go : (a b : Bool) → a ≡ true → a ≡ (a && b) → b ≡ true
    go true b e f = sym f
    go false b e f = absurd (false≢true e)

-- ---- signs of d values

pub or_le-full : (d S T : ℕ) → S ≤ full d → T ≤ full d → bit_or S T ≤ full d
unfolding full
or_le-full d S T hs ht = le_ones d (or_lt d S T (lt_of_le_ones d hs) (lt_of_le_ones d ht))

pub and_le-full : (d S T : ℕ) → S ≤ full d → T ≤ full d → bit_and S T ≤ full d
and_le-full d S T hs ht = omega (arith, and_le_l S T)

pub complement-le-full : (d S : ℕ) → complement d S ≤ full d
unfolding complement
complement-le-full d S = omega arith

-- signs with the same values are equal
pub sign_ext : (d S T : ℕ) → S ≤ full d → T ≤ full d → ((v : ℕ) → v < d → has S v ≡ has T v) → S ≡ T
unfolding full
sign_ext zero S T hs ht h = omega arith
sign_ext (suc d) S T hs ht h =
    let p = pow_pos d in
    let low : S % 2 ≡ T % 2 = digit (S % 2) (T % 2) (omega arith) (omega arith) (sym (has_head S) ∙ h 0 (omega arith) ∙ has_head T) in
    let high : S / 2 ≡ T / 2 = sign_ext d (S / 2) (T / 2) (omega arith) (omega arith)
    (λ v l. sym (has-step S v) ∙ h (suc v) (suc-le-suc l) ∙ has-step T v) in
    omega arith
  where
    digit : (a b : ℕ) → a < 2 → b < 2 → eqb a 1 ≡ eqb b 1 → a ≡ b
    digit zero b ha hb e = let h = eqb-false b 1 (sym e) in omega arith
    digit (suc zero) b ha hb e = sym (eqb-true b 1 (sym e))
    digit (suc (suc a)) b ha hb e = absurd (omega arith)

-- a sign that is not full lacks a value
pub outside : (d S : ℕ) → S < full d → (v : ℕ) × (v < d) × (has S v ≡ false)
unfolding full
outside zero S h = absurd (omega arith)
outside (suc d) S h = go (S % 2) refl (λ l. outside d (S / 2) l)
  where
    go : (a : ℕ) → S % 2 ≡ a → (S / 2 < 2 ^ d - 1 → (v : ℕ) × (v < d) × (has (S / 2) v ≡ false)) → (v : ℕ) × (v < suc d) × (has S v ≡ false)
    go zero e r = (0, omega arith, has_head S ∙ ap (λ n. eqb n 1) e)
    go (suc zero) e r =
        let p = pow_pos d in let l : S / 2 < 2 ^ d - 1 = omega arith in
        let (v, b, f) = r l in (suc v, suc-le-suc b, has-step S v ∙ f)
    go (suc (suc a)) e r = absurd (omega arith)

-- the lowest value of a sign that is present is one of its values
pub lowest-has : (d S : ℕ) → 0 < S → S ≤ full d → (lowest d S < d) × (has S (lowest d S) ≡ true)
unfolding full lowest
lowest-has zero S h l = absurd (omega arith)
lowest-has (suc d) S h l = go (S % 2) refl (λ p q. lowest-has d (S / 2) p q)
  where
    go : (a : ℕ) → S % 2 ≡ a → (0 < S / 2 → S / 2 ≤ 2 ^ d - 1 → (lowest d (S / 2) < d) × (has (S / 2) (lowest d (S / 2)) ≡ true))
        → (lowest (suc d) S < suc d) × (has S (lowest (suc d) S) ≡ true)
    go zero e r =
        let p = pow_pos d in
        let (b, f) = r (omega arith) (omega arith) in
        rw (e) (suc-le-suc b, has-step S (lowest d (S / 2)) ∙ f)
    go (suc zero) e r = rw (e) (omega arith, has_head S ∙ ap (λ n. eqb n 1) e)
    go (suc (suc a)) e r = absurd (omega arith)
