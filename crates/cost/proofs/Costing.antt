-- The cost of an assignment, word by word: what each word adds, and that the sum over the rest makes up the whole.
use Prim.Native.Nat.{ℕ, ◌+◌, ◌/◌, ◌%◌, ◌≤◌, ◌<◌}
use native.Mathlib.Omega.{arith}
use native.Mathlib.Numerals.{add-one}
use mathlib.Core.Path.{◌≡◌, refl}
use mathlib.Core.Bool.{Bool, true, ◌&&◌, ◌||◌, cond}
use mathlib.Core.List.{List}
use lib.ListN.{length, get_or, drop, drop_of_length-le}
use lib.Seq.{drop-cons}
use lib.Dec.{eqb}
use Rattle.words.specs.declared.Word.{Word}
use Rattle.words.specs.declared.Word.TheVariants.{Binding, Cost, Forbidden}
use Rattle.words.specs.Meaning.{word_of}
use Rattle.words.proofs.Said.{by_word}
use Rattle.fields.specs.Entries.{closes_entry}
use Rattle.cost.specs.Costing.{cost_in, matched_after, cost_from}

-- ---- one word

abbrev pub matched_by : List ℕ → Bool → Word → Bool
matched_by p m (Binding v a) = m && eqb (get_or p v 0) a
matched_by p m (Cost c) = true
matched_by p m (Forbidden q) = true
matched_by p m word = m

pub matched_said : (p : List ℕ) (m : Bool) (w : ℕ) → matched_after p m w ≡ matched_by p m (word_of w)
unfolding matched_after closes_entry
matched_said p m w =
    by_word (λ k q. cond (eqb k 3) (m && eqb (get_or p (q / 256) 0) (q % 256)) (cond (eqb k 4 || eqb k 11) true m)) (matched_by p m)
    (λ q. refl) (λ q. refl) (λ q. refl) (λ q. refl) (λ q. refl) (λ q. refl) (λ q. refl) (λ q. refl) (λ q. refl) (λ q. refl) (λ q. refl) (λ q. refl)
    (λ k q n. rw (n 3 (omega arith) (omega arith), n 4 (omega arith) (omega arith), n 11 (omega arith) (omega arith))) w

-- ---- the words from i on

module _ (p : List ℕ) (m : Bool) (ws : List ℕ) (i sum whole : ℕ) (inv : sum + cost_from p m (drop i ws) ≡ whole) where
  module _ (x : ℕ) (here : i < length ws) (f : x ≡ cost_in m (get_or ws i 0)) where
    one_word : cost_from p m (drop i ws) ≡ x + cost_from p (matched_after p m (get_or ws i 0)) (drop (i + 1) ws)
    unfolding cost_from
    one_word = rw (f, drop-cons ws i 0 here, add-one i)

    pub cost_fits : sum + x ≤ whole
    cost_fits = omega (arith, one_word)

    pub cost_again : (y : Bool) → y ≡ matched_after p m (get_or ws i 0) → sum + x + cost_from p y (drop (i + 1) ws) ≡ whole
    cost_again y g = rw g (omega (arith, one_word))

  pub cost_end : length ws ≤ i → sum ≡ whole
  unfolding cost_from
  cost_end h = let none : cost_from p m (drop i ws) ≡ 0 = rw (drop_of_length-le ws h) in omega arith
