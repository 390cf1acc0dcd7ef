-- Zeros to the end of a slice, and the table of no rows that they make with the front and the count, in any form.
use Prim.Native.Nat.{ℕ, suc, ◌+◌, ◌-◌, ◌*◌, ◌<◌, ◌≤◌}
use native.Mathlib.Nat.{mul-zero}
use native.Mathlib.Omega.{arith}
use native.Mathlib.Numerals.{add-one}
use mathlib.Core.Path.{◌≡◌, refl, sym, ap, ap₂, ◌∙◌}
use mathlib.Core.List.{List, [], ◌∷◌, ◌++◌, append_assoc, append-nil}
use lib.ListN.{length, set, take, drop, replicate, length-set, length-take, length-append, length-replicate, length-map, replicate-append-replicate}
use lib.Seq.{sets, sets-eq, length-sets, take-suc-set, take_all, length-take-le, drop_at, set_at}
use Rattle.words.specs.Layout.{size_word, count_word}
use Rattle.fields.specs.Front.{front_words}
use Rattle.rows.specs.Form.{flat_in}
use Rattle.table.specs.Form.{TableForm}
use Rattle.table.specs.Layout.{rows_at, table_words_in}

-- ---- zeros

-- t₀ with zeros from `at` up to i
pub record Zeroed (t₀ : List ℕ) (at : ℕ) (t : List ℕ) (i : ℕ) : Type 0 where
  pub long : length t ≡ length t₀
  pub from : at ≤ i
  pub upto : i ≤ length t₀
  pub is : take i t ≡ take at t₀ ++ replicate (i - at) 0

module _ (t₀ : List ℕ) (at : ℕ) where
  pub zeroed_start : at ≤ length t₀ → Zeroed t₀ at t₀ at
  zeroed_start h =
      let z : at - at ≡ 0 = omega arith in
      record { long = refl; from = omega arith; upto = h; is = rw z (sym (append-nil (take at t₀))) }

  module _ (t : List ℕ) (i : ℕ) (z : Zeroed t₀ at t i) where
    pub zeroed_next : i < length t → Zeroed t₀ at (set t i 0) (i + 1)
    zeroed_next h =
        let long = z.long in
        let from = z.from in
        let n : i + 1 - at ≡ i - at + 1 = omega arith in
        record {
          long = length-set t i 0 ∙ long;
          from = omega arith;
          upto = omega arith;
          is =
              ap (λ m. take m (set t i 0)) (add-one i) ∙ take-suc-set t i 0 h ∙ ap (λ l. l ++ (0 ∷ [])) z.is
              ∙ append_assoc (take at t₀) (replicate (i - at) 0) (0 ∷ [])
              ∙ ap (λ l. take at t₀ ++ l) (replicate-append-replicate {A = ℕ} (i - at) 1 0 ∙ ap (λ m. replicate m 0) (sym n));
        }

    pub zeroed_end : length t ≤ i → t ≡ take at t₀ ++ replicate (length t₀ - at) 0
    zeroed_end h =
        let long = z.long in
        let upto = z.upto in
        let e : i ≡ length t₀ = omega arith in
        sym (take_all i t h) ∙ z.is ∙ ap (λ m. take at t₀ ++ replicate (m - at) 0) e

-- ---- the table of no rows

pub zeroed_long : (t₀ t₁ : List ℕ) (n : ℕ) → n + 2 ≤ length t₀ → t₁ ≡ take (n + 1) t₀ ++ replicate (length t₀ - (n + 1)) 0 → length t₁ ≡ length t₀
zeroed_long t₀ t₁ n room zeros = ap length zeros ∙ simp (length-append, length-take, length-replicate) (omega arith)

pub zeroed_asks : (t₀ t₁ : List ℕ) (n : ℕ) {long : ℕ} → n + 2 ≤ length t₀ → t₁ ≡ take (n + 1) t₀ ++ replicate (length t₀ - (n + 1)) 0 → n ≤ 12
    → long ≡ 12 → (n ≤ 12) × (long ≡ 12) × (n + 1 ≤ length t₁)
zeroed_asks t₀ t₁ n room zeros few long = (few, long, omega (arith, zeroed_long t₀ t₁ n room zeros))

module _ (t₀ t₁ t₂ ds : List ℕ) (n : ℕ) (few : length ds ≡ n) (room : n + 2 ≤ length t₀)
    (zeros : t₁ ≡ take (n + 1) t₀ ++ replicate (length t₀ - (n + 1)) 0) (front : t₂ ≡ sets t₁ 0 (front_words ds)) where
  zeros_long : length t₁ ≡ length t₀
  zeros_long = zeroed_long t₀ t₁ n room zeros

  front_long : length (front_words ds) ≡ n + 1
  front_long = let m = length-map ds size_word in omega arith

  front_first : t₂ ≡ front_words ds ++ replicate (length t₀ - (n + 1)) 0
  front_first =
      let fits : 0 + length (front_words ds) ≤ length t₁ = omega (arith, zeros_long, front_long) in
      let behind : drop (n + 1) t₁ ≡ replicate (length t₀ - (n + 1)) 0
      = ap (drop (n + 1)) zeros ∙ drop_at (take (n + 1) t₀) (replicate (length t₀ - (n + 1)) 0) (n + 1) (length-take-le (n + 1) t₀ (omega arith)) in
      front ∙ sets-eq (front_words ds) t₁ 0 fits ∙ ap (λ k. front_words ds ++ drop k t₁) (let z : 0 + length (front_words ds) ≡ n + 1 = omega (arith, front_long) in z) ∙ ap (λ l. front_words ds ++ l) behind

  pub cleared_long : (c : ℕ) → length (set t₂ (n + 1) c) ≡ length t₀
  cleared_long c = length-set t₂ (n + 1) c ∙ ap length front ∙ length-sets t₁ 0 (front_words ds) ∙ zeros_long

  pub cleared_room : n + 1 < length t₂
  cleared_room = omega (arith, ap length front ∙ length-sets t₁ 0 (front_words ds), zeros_long)

  pub cleared : (f : TableForm) (c : ℕ) → c ≡ count_word 0 → set t₂ (n + 1) c ≡ table_words_in f (length t₀) ds []
  unfolding table_words_in flat_in
  cleared f c e =
      let m : length t₀ - (n + 1) ≡ suc (length t₀ - (n + 2)) = omega arith in
      let none = mul-zero f.rows.width in
      let z : length t₀ - (n + 2) ≡ length t₀ - (rows_at (length ds) + f.rows.width * 0) = omega arith in
      ap (λ l. set l (n + 1) c) (front_first ∙ ap (λ k. front_words ds ++ replicate k 0) m)
      ∙ set_at (front_words ds) 0 (replicate (length t₀ - (n + 2)) 0) c (n + 1) front_long
      ∙ ap₂ (λ x k. front_words ds ++ (x ∷ replicate k 0)) e z
