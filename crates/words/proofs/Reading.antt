-- Reading what was made gives it back: a word of a known kind and payload is read as that kind's payload, once for every kind, and each word's fields come back from its payload.
use Prim.Native.Nat.{ℕ, ◌+◌, ◌*◌, ◌/◌, ◌%◌, ◌<◌}
use native.Mathlib.Omega.{arith}
use mathlib.Core.Path.{◌≡◌, sym, ap₂}
use lib.Arith.{digits_div, digits_mod}
use borrow.Author.Tests.{ne_eqb}
use Rattle.words.specs.declared.Word.TheVariants.{Head, Size, Binding, Cost, Signs, Weight, Step, Count, Unknown}
use Rattle.words.specs.Layout.{kind_of, payload_of, head_word, size_word, binding_word, cost_word, signs_word, weight_word, step_word, count_word}
use Rattle.words.specs.Meaning.{of_kind, word_of}

-- a word is read by its kind and payload, however these are given
pub by_parts : (w k p : ℕ) → k ≡ kind_of w → p ≡ payload_of w → of_kind k p ≡ word_of w
unfolding word_of
by_parts w k p e f = ap₂ of_kind e f

pub of_kind_lem : (k p : ℕ) → p < 268435456 → word_of (k * 268435456 + p) ≡ of_kind k p
of_kind_lem k p h = sym (by_parts (k * 268435456 + p) k p (sym (digits_div k h)) (sym (digits_mod k h)))

-- a kind that is none of the twelve is unknown
pub unknown_else : (k p : ℕ) → (k ≡ 1 → ⊥) → (k ≡ 2 → ⊥) → (k ≡ 3 → ⊥) → (k ≡ 4 → ⊥) → (k ≡ 5 → ⊥) → (k ≡ 6 → ⊥) → (k ≡ 7 → ⊥) → (k ≡ 8 → ⊥) → (k ≡ 9 → ⊥) → (k ≡ 10 → ⊥) → (k ≡ 11 → ⊥) → (k ≡ 12 → ⊥) → of_kind k p ≡ Unknown
unfolding of_kind
unknown_else k p n1 n2 n3 n4 n5 n6 n7 n8 n9 n10 n11 n12 =
    rw (ne_eqb k 1 n1, ne_eqb k 2 n2, ne_eqb k 3 n3, ne_eqb k 4 n4, ne_eqb k 5 n5, ne_eqb k 6 n6, ne_eqb k 7 n7, ne_eqb k 8 n8, ne_eqb k 9 n9, ne_eqb k 10 n10, ne_eqb k 11 n11, ne_eqb k 12 n12)

-- ---- each kind's word

pub read_head : (n : ℕ) → n < 268435456 → word_of (head_word n) ≡ Head n
unfolding of_kind
read_head n h = of_kind_lem 1 n h

pub read_size : (d : ℕ) → d < 268435456 → word_of (size_word d) ≡ Size d
unfolding of_kind
read_size d h = of_kind_lem 2 d h

pub read_binding : (v a : ℕ) → v < 1048576 → a < 256 → word_of (binding_word v a) ≡ Binding v a
unfolding of_kind
read_binding v a hv ha =
    let e : binding_word v a ≡ 3 * 268435456 + (v * 256 + a) = omega arith in
    let h : v * 256 + a < 268435456 = omega arith in
    rw (e, of_kind_lem 3 (v * 256 + a) h, digits_div v ha, digits_mod v ha)

pub read_cost : (c : ℕ) → c < 268435456 → word_of (cost_word c) ≡ Cost c
unfolding of_kind
read_cost c h = of_kind_lem 4 c h

pub read_signs : (k x : ℕ) → k < 16 → x < 16777216 → word_of (signs_word k x) ≡ Signs k x
unfolding of_kind
read_signs k x hk hx =
    let e : signs_word k x ≡ 5 * 268435456 + (k * 16777216 + x) = omega arith in
    let h : k * 16777216 + x < 268435456 = omega arith in
    rw (e, of_kind_lem 5 (k * 16777216 + x) h, digits_div k hx, digits_mod k hx)

pub read_weight : (w : ℕ) → w < 268435456 → word_of (weight_word w) ≡ Weight w
unfolding of_kind
read_weight w h = of_kind_lem 6 w h

pub read_step : (s i j : ℕ) → s < 16 → i < 4096 → j < 4096 → word_of (step_word s i j) ≡ Step s i j
unfolding of_kind
read_step s i j hs hi hj =
    let p : ℕ = s * 16777216 + i * 4096 + j in
    let e : step_word s i j ≡ 7 * 268435456 + p = omega arith in
    let h : p < 268435456 = omega arith in
    let first : p / 16777216 ≡ s = omega arith in
    let second : p / 4096 % 4096 ≡ i = omega arith in
    let third : p % 4096 ≡ j = omega arith in
    rw (e, of_kind_lem 7 p h, first, second, third)

pub read_count : (k : ℕ) → k < 268435456 → word_of (count_word k) ≡ Count k
unfolding of_kind
read_count k h = of_kind_lem 10 k h
