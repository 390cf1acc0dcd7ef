-- The raw row of a packed clause: its clause and its weight are read back from it, its words pass the test for a weight, and two such rows have the same sign words exactly if the clauses have the same signs.
use Prim.Native.Nat.{ℕ, zero, suc, ◌+◌, ◌*◌, ◌/◌, ◌%◌, ◌<◌, ◌≤◌}
use native.Mathlib.Nat.{add-zero}
use native.Mathlib.Omega.{arith}
use mathlib.Core.Path.{◌≡◌, refl, sym, ap, ◌∙◌}
use mathlib.Core.Bool.{Bool, true, false, not, ◌&&◌, false≢true}
use mathlib.Core.List.{List, [], ◌∷◌, ◌++◌}
use lib.ListN.{get_or, drop}
use lib.Seq.{get_or-drop}
use lib.Dec.{eqb}
use borrow.Author.Tests.{eqb-true, eqb-false, eq-eqb, ne_eqb}
use Rattle.wcsp.specs.Clause.{same}
use Rattle.wcsp.proofs.Lists.{and_left, and_right, ne_true}
use Rattle.words.specs.Layout.{kind_of, payload_of, signs_word, weight_word, high_word}
use Rattle.clause.specs.declared.Clause.{Clause}
use Rattle.clause.specs.Packed.{FitsBlocks, signs_of}
use Rattle.clause.proofs.Signs12.{same_clause, clause_same}
use Rattle.rows.specs.Raw.{max_weight, high_unit, Raw, no_raw, raw_words, raw_at, weight_in, is_weight, row_weighs, weighing, sign_words, raw_row, clause_in, same_signs}

-- the block of a sign word
pub block_of : (k x : ℕ) → x < 16777216 → signs_word k x % 16777216 ≡ x
block_of k x h = omega arith

pub clause_in-raw_row : (x : Clause) (w : ℕ) → FitsBlocks x → clause_in (raw_row x w) ≡ x
clause_in-raw_row x w p =
    λ i. record { a = block_of 0 x.a p.a i; b = block_of 1 x.b p.b i; c = block_of 2 x.c p.c i; d = block_of 3 x.d p.d i }

-- ---- the weight

pub weight_most : (r : Raw) → weight_in r ≤ max_weight
unfolding weight_in
weight_most r = omega arith

pub weight_weighing : (r : Raw) (w : ℕ) → w ≤ max_weight → weight_in (weighing r w) ≡ w
unfolding weight_in
weight_weighing r w h = omega arith

pub weight_raw_row : (x : Clause) (w : ℕ) → w ≤ max_weight → weight_in (raw_row x w) ≡ w
weight_raw_row x w h = weight_weighing (sign_words _ _ _ _) w h

-- past the last row
pub weight_none : weight_in no_raw ≡ 0
unfolding weight_in
weight_none = refl

-- ---- the test for a weight

payload_positive : (p q : ℕ) → not (eqb p 0 && eqb q 0) ≡ true → 1 ≤ p + q * high_unit
payload_positive p q e = go (eqb p 0) (eqb q 0) refl refl e
  where
    go : (x y : Bool) → eqb p 0 ≡ x → eqb q 0 ≡ y → not (x && y) ≡ true → 1 ≤ p + q * high_unit
    go true true f g h = absurd (false≢true h)
    go true false f g h = let n = eqb-false q 0 g in omega arith
    go false y f g h = let n = eqb-false p 0 f in omega arith

some_payload : (p q : ℕ) → 1 ≤ p + q → not (eqb p 0 && eqb q 0) ≡ true
some_payload zero zero some = absurd (omega arith)
some_payload zero (suc q) some = rw (ne_eqb (suc q) 0 (omega arith))
some_payload (suc p) q some = rw (ne_eqb (suc p) 0 (omega arith))

words_made : (low high : ℕ) → is_weight low high ≡ true → (let w = payload_of low + payload_of high * high_unit in
    (low ≡ weight_word (w % high_unit)) × (high ≡ high_word (w / high_unit)) × (1 ≤ w))
words_made low high e =
    let kinds = and_left (eqb (kind_of low) 6 && eqb (kind_of high) 12) (not (eqb (payload_of low) 0 && eqb (payload_of high) 0)) e in
    let some = and_right (eqb (kind_of low) 6 && eqb (kind_of high) 12) (not (eqb (payload_of low) 0 && eqb (payload_of high) 0)) e in
    let a = eqb-true (kind_of low) 6 (and_left (eqb (kind_of low) 6) (eqb (kind_of high) 12) kinds) in
    let b = eqb-true (kind_of high) 12 (and_right (eqb (kind_of low) 6) (eqb (kind_of high) 12) kinds) in
    (omega arith, omega arith, payload_positive (payload_of low) (payload_of high) some)

-- a row that passes is the one with the weight that its words give, which is at least 1
pub weight_made : (ws : List ℕ) → row_weighs ws ≡ true → raw_at ws 0 ≡ weighing (raw_at ws 0) (weight_in (raw_at ws 0))
unfolding row_weighs raw_at weight_in
weight_made ws e =
    let made = words_made (get_or ws 4 0) (get_or ws 5 0) e in
    λ i. record { a = get_or ws 0 0; b = get_or ws 1 0; c = get_or ws 2 0; d = get_or ws 3 0; low = made.0 i; high = made.1 i }

pub weight_positive : (ws : List ℕ) → row_weighs ws ≡ true → 1 ≤ weight_in (raw_at ws 0)
unfolding row_weighs raw_at weight_in
weight_positive ws e = (words_made (get_or ws 4 0) (get_or ws 5 0) e).2

pub weight_passes : (r : Raw) (w : ℕ) (ws : List ℕ) → 1 ≤ w → w ≤ max_weight → row_weighs (raw_words (weighing r w) ++ ws) ≡ true
unfolding row_weighs
weight_passes r w ws h l =
    let low : kind_of (weight_word (w % high_unit)) ≡ 6 = omega arith in
    let high : kind_of (high_word (w / high_unit)) ≡ 12 = omega arith in
    rw (eq-eqb (kind_of (weight_word (w % high_unit))) 6 low, eq-eqb (kind_of (high_word (w / high_unit))) 12 high)
    (some_payload (payload_of (weight_word (w % high_unit))) (payload_of (high_word (w / high_unit))) (omega arith))

-- as the code tests: the two kinds, then whether both payloads are 0
module _ (t : List ℕ) (at : ℕ) where
  abbrev low : ℕ
  low = get_or t (at + 4) 0

  abbrev high : ℕ
  high = get_or t (at + 5) 0

  words_there : row_weighs (drop at t) ≡ is_weight low high
  unfolding row_weighs
  words_there = rw (get_or-drop at t 4 0, get_or-drop at t 5 0)

  pub low_other : (kind_of low ≡ 6 → ⊥) → false ≡ row_weighs (drop at t)
  low_other h = sym (words_there ∙ rw (ne_eqb (kind_of low) 6 h))

  module _ (h : kind_of low ≡ 6) where
    pub high_other : (kind_of high ≡ 12 → ⊥) → false ≡ row_weighs (drop at t)
    high_other n = sym (words_there ∙ rw (eq-eqb (kind_of low) 6 h, ne_eqb (kind_of high) 12 n))

    module _ (g : kind_of high ≡ 12) where
      kinds_there : row_weighs (drop at t) ≡ not (eqb (payload_of low) 0 && eqb (payload_of high) 0)
      kinds_there = words_there ∙ rw (eq-eqb (kind_of low) 6 h, eq-eqb (kind_of high) 12 g)

      pub both_0 : payload_of low ≡ 0 → payload_of high ≡ 0 → false ≡ row_weighs (drop at t)
      both_0 y z = sym (kinds_there ∙ rw (eq-eqb (payload_of low) 0 y, eq-eqb (payload_of high) 0 z))

      pub not_both_0 : 1 ≤ payload_of low + payload_of high → true ≡ row_weighs (drop at t)
      not_both_0 s = sym (kinds_there ∙ some_payload (payload_of low) (payload_of high) s)

-- ---- the sign words

-- same sign words, word by word
pub same_signs_parts : (r q : Raw) → same_signs r q ≡ true → (r.a ≡ q.a) × (r.b ≡ q.b) × (r.c ≡ q.c) × (r.d ≡ q.d)
unfolding same_signs
same_signs_parts r q e =
    let three = and_left (eqb r.a q.a && eqb r.b q.b && eqb r.c q.c) (eqb r.d q.d) e in
    let two = and_left (eqb r.a q.a && eqb r.b q.b) (eqb r.c q.c) three in (
      eqb-true r.a q.a (and_left (eqb r.a q.a) (eqb r.b q.b) two),
      eqb-true r.b q.b (and_right (eqb r.a q.a) (eqb r.b q.b) two),
      eqb-true r.c q.c (and_right (eqb r.a q.a && eqb r.b q.b) (eqb r.c q.c) three),
      eqb-true r.d q.d (and_right (eqb r.a q.a && eqb r.b q.b && eqb r.c q.c) (eqb r.d q.d) e),
    )

pub same_signs_of : (r q : Raw) → r.a ≡ q.a → r.b ≡ q.b → r.c ≡ q.c → r.d ≡ q.d → same_signs r q ≡ true
unfolding same_signs
same_signs_of r q a b c d = rw (eq-eqb _ _ a, eq-eqb _ _ b, eq-eqb _ _ c, eq-eqb _ _ d)

-- one word that differs is enough
pub same_signs_a : (r q : Raw) → (r.a ≡ q.a → ⊥) → same_signs r q ≡ false
same_signs_a r q n = ne_true (same_signs r q) (λ e. n (same_signs_parts r q e).0)

pub same_signs_b : (r q : Raw) → (r.b ≡ q.b → ⊥) → same_signs r q ≡ false
same_signs_b r q n = ne_true (same_signs r q) (λ e. n (same_signs_parts r q e).1)

pub same_signs_c : (r q : Raw) → (r.c ≡ q.c → ⊥) → same_signs r q ≡ false
same_signs_c r q n = ne_true (same_signs r q) (λ e. n (same_signs_parts r q e).2)

pub same_signs_d : (r q : Raw) → (r.d ≡ q.d → ⊥) → same_signs r q ≡ false
same_signs_d r q n = ne_true (same_signs r q) (λ e. n (same_signs_parts r q e).3)

-- the word at each place of four
module _ (a b c d k : ℕ) where
  pub word_first : k ≡ 0 → a ≡ get_or (a ∷ b ∷ c ∷ d ∷ []) k 0
  word_first e = rw e

  pub word_second : k ≡ 1 → b ≡ get_or (a ∷ b ∷ c ∷ d ∷ []) k 0
  word_second e = rw e

  pub word_third : k ≡ 2 → c ≡ get_or (a ∷ b ∷ c ∷ d ∷ []) k 0
  word_third e = rw e

  pub word_fourth : k ≡ 3 → d ≡ get_or (a ∷ b ∷ c ∷ d ∷ []) k 0
  word_fourth e = rw e

-- the word at place k, of the row at `at` and of q
pub same_signs-at : (t : List ℕ) (at : ℕ) (q : Raw) (k word : ℕ) → k < 4 → word ≡ get_or (q.a ∷ q.b ∷ q.c ∷ q.d ∷ []) k 0
    → (get_or t (at + k) 0 ≡ word → ⊥) → same_signs (raw_at t at) q ≡ false
unfolding raw_at
same_signs-at t at q zero word h e n = same_signs_a (raw_at t at) q (λ f. n (rw add-zero (f ∙ sym e)))
same_signs-at t at q (suc zero) word h e n = same_signs_b (raw_at t at) q (λ f. n (f ∙ sym e))
same_signs-at t at q (suc (suc zero)) word h e n = same_signs_c (raw_at t at) q (λ f. n (f ∙ sym e))
same_signs-at t at q (suc (suc (suc zero))) word h e n = same_signs_d (raw_at t at) q (λ f. n (f ∙ sym e))
same_signs-at t at q (suc (suc (suc (suc k)))) word h e n = absurd (omega arith)

-- rows of clauses with the same sign words are rows of the same clause
pub same_signs_clause : (x y : Clause) (w v : ℕ) → same_signs (raw_row x w) (raw_row y v) ≡ true → x ≡ y
same_signs_clause x y w v e =
    let parts = same_signs_parts (raw_row x w) (raw_row y v) e in
    let a : x.a ≡ y.a = omega arith in
    let b : x.b ≡ y.b = omega arith in
    let c : x.c ≡ y.c = omega arith in
    let d : x.d ≡ y.d = omega arith in
    λ i. record { a = a i; b = b i; c = c i; d = d i }

pub same_signs_rows : (x y : Clause) (w v : ℕ) → same_signs (raw_row x w) (raw_row y v) ≡ same (signs_of x) (signs_of y)
same_signs_rows x y w v = go (same (signs_of x) (signs_of y)) refl
  where
    go : (b : Bool) → same (signs_of x) (signs_of y) ≡ b → same_signs (raw_row x w) (raw_row y v) ≡ b
    go true e =
        let equal = same_clause x y e in
        same_signs_of (raw_row x w) (raw_row y v) (ap (λ z. signs_word 0 z.a) equal) (ap (λ z. signs_word 1 z.b) equal) (ap (λ z. signs_word 2 z.c) equal) (ap (λ z. signs_word 3 z.d) equal)
    go false e = ne_true (same_signs (raw_row x w) (raw_row y v)) (λ s. false≢true (sym e ∙ clause_same x y (same_signs_clause x y w v s)))

-- the sign words of x, made one by one
pub row_of_words : (x : Clause) (a b c d w : ℕ) → a ≡ signs_word 0 x.a → b ≡ signs_word 1 x.b → c ≡ signs_word 2 x.c → d ≡ signs_word 3 x.d
    → ◌≡◌ {A = Raw} (weighing (sign_words a b c d) w) (raw_row x w)
row_of_words x a b c d w p q r s = λ i. weighing (sign_words (p i) (q i) (r i) (s i)) w
