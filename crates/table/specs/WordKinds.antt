-- Inner: what the tests of a table's words say of the numbers: a word passes exactly if its kind, its index and its payload are right, and is then the word made from them.
use Prim.Native.Nat.{ℕ, ◌+◌, ◌*◌, ◌/◌, ◌%◌, ◌<◌, ◌≤◌}
use native.Mathlib.Omega.{arith}
use mathlib.Core.Path.{◌≡◌, refl, sym, ap, ◌∙◌}
use mathlib.Core.Bool.{Bool, true, false}
use lib.Dec.{eqb, leb}
use borrow.Author.Tests.{eqb-true, eq-eqb, ne_eqb, leb-true, leb-false}
use Rattle.std.specs.Prelude.{Some, None}
use Rattle.wcsp.proofs.Lists.{both_true, and_left, and_right}
use Rattle.words.specs.Layout.{kind_of, payload_of, index_in, signs_word, count_word}
use Rattle.fields.specs.Limits.{max_variables, max_values}
use Rattle.fields.specs.Front.{head_in, headed, size_in}
use Rattle.fields.proofs.Fronts.{below, above, head_none, head_out, head_is, size_none, size_out, size_is}
use Rattle.table.specs.Valid.{is_signs, is_count}

bool_same : (a b : Bool) → (a ≡ true → b ≡ true) → (b ≡ true → a ≡ true) → a ≡ b
bool_same true true f g = refl
bool_same true false f g = sym (f refl)
bool_same false true f g = g refl
bool_same false false f g = refl

-- ---- sign words

pub signs_made : (k w : ℕ) → is_signs k w ≡ true → w ≡ signs_word k (w % 16777216)
signs_made k w e =
    let a = eqb-true (kind_of w) 5 (and_left (eqb (kind_of w) 5) (eqb (index_in w) k) e) in
    let b = eqb-true (index_in w) k (and_right (eqb (kind_of w) 5) (eqb (index_in w) k) e) in
    omega arith

pub signs_passes : (k x : ℕ) → k < 16 → x < 16777216 → is_signs k (signs_word k x) ≡ true
signs_passes k x h l =
    let p : payload_of (signs_word k x) ≡ k * 16777216 + x = omega arith in
    let i : (k * 16777216 + x) / 16777216 ≡ k = omega arith in
    both_true _ _ (eq-eqb (kind_of (signs_word k x)) 5 (omega arith)) (rw p (eq-eqb ((k * 16777216 + x) / 16777216) k i))

pub signs_test : (k w : ℕ) → k < 16 → is_signs k w ≡ eqb (w / 16777216) (80 + k)
signs_test k w h = bool_same (is_signs k w) (eqb (w / 16777216) (80 + k)) forth back
  where
    forth : is_signs k w ≡ true → eqb (w / 16777216) (80 + k) ≡ true
    forth e = let m = signs_made k w e in eq-eqb (w / 16777216) (80 + k) (omega arith)

    back : eqb (w / 16777216) (80 + k) ≡ true → is_signs k w ≡ true
    back e =
        let q = eqb-true (w / 16777216) (80 + k) e in
        let m : w ≡ signs_word k (w % 16777216) = omega arith in
        ap (is_signs k) m ∙ signs_passes k (w % 16777216) h (omega arith)

-- ---- the count word

pub count_made : (w : ℕ) → is_count w ≡ true → w ≡ count_word (payload_of w)
count_made w e = let k = eqb-true (kind_of w) 10 e in omega arith

pub count_passes : (c : ℕ) → c < 268435456 → is_count (count_word c) ≡ true
count_passes c l = eq-eqb (kind_of (count_word c)) 10 (omega arith)

-- ---- a station word and a head as the code reads them: kind k and payload p

module _ (w k : ℕ) (a : k ≡ kind_of w) where
  pub size_other : (k ≡ 2 → ⊥) → 0 ≡ size_in w
  size_other h = sym (size_none w (ne_eqb (kind_of w) 2 (λ e. h (a ∙ e))))

  pub head_other : (k ≡ 1 → ⊥) → None ≡ headed None Some (head_in w)
  unfolding headed
  head_other h = rw (head_none w (ne_eqb (kind_of w) 1 (λ e. h (a ∙ e))))

  module _ (p : ℕ) (b : p ≡ payload_of w) where
    pub size_high : k ≡ 2 → max_values < p → 0 ≡ size_in w
    size_high e h = sym (size_out w p (sym a ∙ e) (sym b) (above 1 p max_values h))

    -- a payload of 0 is no size, and stands for none
    pub size_read : k ≡ 2 → p ≤ max_values → p ≡ size_in w
    size_read e h = go (leb 1 p) refl
      where
        go : (x : Bool) → leb 1 p ≡ x → p ≡ size_in w
        go true l = sym (size_is w p (sym a ∙ e) (sym b) (leb-true 1 p l) h)
        go false l =
            let z : p < 1 = leb-false 1 p l in
            let q : p ≡ 0 = omega arith in
            q ∙ sym (size_out w p (sym a ∙ e) (sym b) (below 1 p max_values z))

    pub head_high : k ≡ 1 → max_variables < p → None ≡ headed None Some (head_in w)
    unfolding headed
    head_high e h = rw (head_out w p (sym a ∙ e) (sym b) h)

    pub head_read : k ≡ 1 → p ≤ max_variables → Some p ≡ headed None Some (head_in w)
    unfolding headed
    head_read e h = rw (head_is w p (sym a ∙ e) (sym b) h)
