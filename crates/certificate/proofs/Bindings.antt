-- Words that bind variables in order: the test word by word, the values and the binding words stored one after another, and the claim so stored.
use Prim.Native.Nat.{ℕ, zero, suc, ◌+◌, ◌/◌, ◌%◌, ◌≤◌, ◌<◌}
use native.Mathlib.Nat.{zero-add, add-zero}
use native.Mathlib.Numerals.{add-one}
use native.Mathlib.Omega.{arith}
use mathlib.Core.Path.{◌≡◌, refl, sym, ap, ◌∙◌}
use mathlib.Core.Bool.{Bool, true, false, ◌&&◌}
use mathlib.Core.List.{List, [], ◌∷◌, ◌++◌, map}
use lib.ListN.{length, get_or, set, drop, drop_of_length-le, length-map}
use lib.Seq.{sets, sets-eq, drop-cons}
use lib.Dec.{eqb, ltb}
use borrow.Author.Tests.{eq-eqb, ne_eqb, lt-ltb, le-ltb}
use Rattle.words.specs.Layout.{payload_of, head_word, binding_word, value_in, weight_word, high_word}
use Rattle.fields.specs.Limits.{max_values}
use Rattle.fields.specs.Entries.{Each, cons_each}
use Rattle.certificate.specs.Certificate.{binding_words, cost_unit, claim_words, binds_in_order}

-- ---- the test

module _ (ws : List ℕ) (v : ℕ) (p : ℕ) (is : p ≡ payload_of (get_or ws v 0)) (here : v < length ws) where
  abbrev word : ℕ
  word = get_or ws v 0

  -- the test of a word and of those behind it
  one_binding : binds_in_order v (drop v ws)
      ≡ (eqb word (binding_word v (value_in word)) && ltb (value_in word) max_values && binds_in_order (v + 1) (drop (v + 1) ws))
  unfolding binds_in_order
  one_binding = rw (add-one v, drop-cons ws v 0 here)

  -- the value is too high
  pub binding_high : 8 ≤ p % 256 → false ≡ binds_in_order v (drop v ws)
  binding_high h = sym (one_binding ∙ go (eqb word (binding_word v (value_in word))) (le-ltb (value_in word) max_values (rw is at h)))
    where
      go : (b : Bool) → ltb (value_in word) max_values ≡ false
          → (b && ltb (value_in word) max_values && binds_in_order (v + 1) (drop (v + 1) ws)) ≡ false
      go true e = rw e
      go false e = refl

  module _ (b : ℕ) (made : b ≡ binding_word v (p % 256)) where
    -- the word is another one than that of its variable and its value
    pub binding_other : (word ≡ b → ⊥) → false ≡ binds_in_order v (drop v ws)
    binding_other n = sym (one_binding ∙ rw (ne_eqb word (binding_word v (value_in word)) (λ e. n (omega (arith, e)))))

    -- the word binds its variable: the rest decides
    pub binding_good : p % 256 < 8 → word ≡ b → binds_in_order v (drop v ws) ≡ binds_in_order (v + 1) (drop (v + 1) ws)
    binding_good h e =
        one_binding
        ∙ rw (eq-eqb word (binding_word v (value_in word)) (omega arith), lt-ltb (value_in word) max_values (omega arith))

-- no words are left
pub binding_end : (ws : List ℕ) (v : ℕ) → length ws ≤ v → true ≡ binds_in_order v (drop v ws)
unfolding binds_in_order
binding_end ws v h = rw (drop_of_length-le ws {i = v} h)

-- ---- values stored one after another: what is stored and what is left to store make the whole

module _ (ws plan₀ plan : List ℕ) (v : ℕ) (inv : sets plan v (map value_in (drop v ws)) ≡ sets plan₀ 0 (map value_in ws)) where
  -- one more value
  pub value_stored : (p : ℕ) → p ≡ payload_of (get_or ws v 0) → v < length ws
      → sets (set plan v (p % 256)) (v + 1) (map value_in (drop (v + 1) ws)) ≡ sets plan₀ 0 (map value_in ws)
  value_stored p is h = rw (is, add-one v) (rw (drop-cons ws v 0 h) at inv)

  -- all values
  pub values_stored : length ws ≤ v → length ws ≤ length plan₀ → plan ≡ map value_in ws ++ drop (length ws) plan₀
  values_stored h room =
      let n = length-map ws value_in in
      rw (drop_of_length-le ws {i = v} h) at inv ∙ sets-eq (map value_in ws) plan₀ 0 (omega (arith, n)) ∙ rw (n, zero-add)

-- ---- binding words stored one after another

-- as many words as values
pub length_bindings : (v : ℕ) (plan : List ℕ) → length (binding_words v plan) ≡ length plan
unfolding binding_words
length_bindings v [] = refl
length_bindings v (a ∷ plan) = ap suc (length_bindings (suc v) plan)

module _ (target₀ target plan : List ℕ) (at v : ℕ) (inv : sets target (at + v) (binding_words v (drop v plan)) ≡ sets target₀ at (binding_words 0 plan)) where
  -- one more word
  pub binding_stored : (w : ℕ) → w ≡ binding_word v (get_or plan v 0) → v < length plan
      → sets (set target (at + v) w) (at + (v + 1)) (binding_words (v + 1) (drop (v + 1) plan)) ≡ sets target₀ at (binding_words 0 plan)
  unfolding binding_words
  binding_stored w e h =
      let next : at + (v + 1) ≡ suc (at + v) = omega arith in
      rw (next, e, add-one v) (rw (drop-cons plan v 0 h) at inv)

  -- all words
  pub bindings_stored : length plan ≤ v → target ≡ sets target₀ at (binding_words 0 plan)
  unfolding binding_words
  bindings_stored h = rw (drop_of_length-le plan {i = v} h) at inv

-- an element of a list of which each has a property
pub each_at : {P : ℕ → Type 0} {xs : List ℕ} → Each P xs → (i : ℕ) → i < length xs → P (get_or xs i 0)
each_at {xs = []} e i h = absurd (omega arith)
each_at {xs = x ∷ xs} (cons_each p e) zero h = p
each_at {xs = x ∷ xs} (cons_each p e) (suc i) h = each_at e i (omega arith)

-- ---- the claim's words stored

-- a run of stores in two parts
sets_append : (l : List ℕ) (i : ℕ) (xs ys : List ℕ) → sets l i (xs ++ ys) ≡ sets (sets l i xs) (i + length xs) ys
sets_append l i [] ys = rw (add-zero i)
sets_append l i (x ∷ xs) ys =
    let e : suc i + length xs ≡ i + suc (length xs) = omega arith in
    sets_append (set l i x) (suc i) xs ys ∙ ap (λ n. sets (sets (set l i x) (suc i) xs) n ys) e

-- the head, the bindings and the cost's two words
pub claim_stored : (target plan after : List ℕ) (cost h l g : ℕ) → h ≡ head_word (length plan) → after ≡ sets (set target 0 h) 1 (binding_words 0 plan)
    → l ≡ weight_word (cost % cost_unit) → g ≡ high_word (cost / cost_unit)
    → set (set after (length plan + 1) l) (length plan + 2) g ≡ sets target 0 (claim_words plan cost)
claim_stored target plan after cost h l g eh ea el eg =
    let n = length_bindings 0 plan in
    let one : length plan + 1 ≡ 1 + length (binding_words 0 plan) = omega arith in
    let two : length plan + 2 ≡ suc (1 + length (binding_words 0 plan)) = omega arith in
    rw (one, two, ea, eh, el, eg)
    (sym (sets_append (set target 0 (head_word (length plan))) 1 (binding_words 0 plan) (weight_word (cost % cost_unit) ∷ (high_word (cost / cost_unit) ∷ []))))
