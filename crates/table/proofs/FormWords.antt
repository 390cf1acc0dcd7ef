-- The words of a row as they are written and read in either form: the weight's words behind the sign words.
use Prim.Native.Nat.{ℕ, ◌+◌, ◌/◌, ◌%◌, ◌≤◌}
use native.Mathlib.Omega.{arith}
use mathlib.Core.Path.{◌≡◌, sym, ap, ◌∙◌}
use mathlib.Core.Bool.{not}
use mathlib.Core.List.{List, [], ◌∷◌, ◌++◌}
use lib.ListN.{length, get_or, drop, set}
use lib.Seq.{get_or-drop}
use lib.Dec.{eqb}
use borrow.Author.Tests.{eq-eqb, ne_eqb}
use Rattle.words.specs.Layout.{kind_of, payload_of, weight_word, high_word}
use Rattle.clause.specs.declared.Clause.{Clause}
use Rattle.clause.specs.Packed.{signs_of}
use Rattle.rows.specs.Raw.{row_width, high_unit, raw_words, raw_row, sign_words_in}
use Rattle.table.specs.Raws.{raw_of}
use Rattle.table.specs.Five.{five_width, five_words, five_row, five_raw_of, is_five_weight, five_weighs}
use Rattle.table.specs.TwelveSigns.{clause_from_signs}

-- ---- written

pub six_written : (p q : List ℕ) (x : Clause) (weight v u : ℕ) → row_width ≤ length p → q ≡ sign_words_in (raw_row x 0) ++ drop 4 p
    → v ≡ weight_word (weight % high_unit) → u ≡ high_word (weight / high_unit)
    → set (set q 4 v) 5 u ≡ raw_words (raw_of (record { signs = signs_of x; weight = weight })) ++ drop row_width p
six_written [] q x weight v u h s e f = absurd (omega arith)
six_written (a ∷ []) q x weight v u h s e f = absurd (omega arith)
six_written (a ∷ b ∷ []) q x weight v u h s e f = absurd (omega arith)
six_written (a ∷ b ∷ c ∷ []) q x weight v u h s e f = absurd (omega arith)
six_written (a ∷ b ∷ c ∷ d ∷ []) q x weight v u h s e f = absurd (omega arith)
six_written (a ∷ b ∷ c ∷ d ∷ i ∷ []) q x weight v u h s e f = absurd (omega arith)
six_written (a ∷ b ∷ c ∷ d ∷ i ∷ j ∷ p) q x weight v u h s e f =
    rw (s, e, f) (ap (λ y. raw_words (raw_row y weight) ++ p) (sym (clause_from_signs x)))

pub five_written : (p q : List ℕ) (x : Clause) (weight v : ℕ) → five_width ≤ length p → q ≡ sign_words_in (raw_row x 0) ++ drop 4 p → v ≡ weight_word weight
    → set q 4 v ≡ five_words (five_raw_of (record { signs = signs_of x; weight = weight })) ++ drop five_width p
five_written [] q x weight v h s e = absurd (omega arith)
five_written (a ∷ []) q x weight v h s e = absurd (omega arith)
five_written (a ∷ b ∷ []) q x weight v h s e = absurd (omega arith)
five_written (a ∷ b ∷ c ∷ []) q x weight v h s e = absurd (omega arith)
five_written (a ∷ b ∷ c ∷ d ∷ []) q x weight v h s e = absurd (omega arith)
five_written (a ∷ b ∷ c ∷ d ∷ i ∷ p) q x weight v h s e =
    rw (s, e) (ap (λ y. five_words (five_row y weight) ++ p) (sym (clause_from_signs x)))

-- ---- the word of a weight of 28 bits: its kind, then whether its payload is 0

module _ (t : List ℕ) (at : ℕ) where
  abbrev word : ℕ
  word = get_or t (at + 4) 0

  word_there : five_weighs (drop at t) ≡ is_five_weight word
  unfolding five_weighs
  word_there = rw (get_or-drop at t 4 0)

  pub kind_other : (k : ℕ) → k ≡ kind_of word → (k ≡ 6 → ⊥) → eqb k 6 ≡ five_weighs (drop at t)
  kind_other k e h = rw (ne_eqb k 6 h) (sym (word_there ∙ rw (← e, ne_eqb k 6 h)))

  pub as_payload : (p : ℕ) → kind_of word ≡ 6 → p ≡ payload_of word → not (eqb p 0) ≡ five_weighs (drop at t)
  as_payload p h e = sym (word_there ∙ rw (eq-eqb (kind_of word) 6 h, e))
