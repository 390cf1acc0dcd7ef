-- The arm of a `match` that names no such kind is told only the places of the other variants: then the word's kind is another one.
use Prim.Native.Nat.{ℕ, zero, suc, ◌-◌, ◌≤◌}
use native.Mathlib.Omega.{arith}
use mathlib.Core.Path.{◌≡◌, refl, sym, ap, ◌∙◌}
use mathlib.Core.Bool.{false, not}
use mathlib.Core.List.{List, [], ◌∷◌}
use lib.Dec.{T, eqb}
use borrow.Author.Tests.{ne_eqb}
use denote.Enum.Declared.{tag_of}
use types.Run.{OneOf, miss}
use mir.Val.{has_key}
use Rattle.words.specs.contracts.Word.{the_type}
use Rattle.words.specs.declared.Word.{Word}
use Rattle.words.specs.Layout.{kind_of, payload_of}
use Rattle.words.specs.Meaning.{of_kind, word_of}
use Rattle.words.proofs.Reading.{by_parts}

-- a variant's place: kinds 1 to 12 stand in their order
abbrev pub place_of : Word → ℕ
place_of w = tag_of the_type w

placed : (k p : ℕ) → 1 ≤ k → k ≤ 12 → place_of (of_kind k p) ≡ k - 1
unfolding of_kind
placed zero p l m = absurd (omega arith)
placed (suc zero) p l m = refl
placed (suc (suc zero)) p l m = refl
placed (suc (suc (suc zero))) p l m = refl
placed (suc (suc (suc (suc zero)))) p l m = refl
placed (suc (suc (suc (suc (suc zero))))) p l m = refl
placed (suc (suc (suc (suc (suc (suc zero)))))) p l m = refl
placed (suc (suc (suc (suc (suc (suc (suc zero))))))) p l m = refl
placed (suc (suc (suc (suc (suc (suc (suc (suc zero)))))))) p l m = refl
placed (suc (suc (suc (suc (suc (suc (suc (suc (suc zero))))))))) p l m = refl
placed (suc (suc (suc (suc (suc (suc (suc (suc (suc (suc zero)))))))))) p l m = refl
placed (suc (suc (suc (suc (suc (suc (suc (suc (suc (suc (suc zero))))))))))) p l m = refl
placed (suc (suc (suc (suc (suc (suc (suc (suc (suc (suc (suc (suc zero)))))))))))) p l m = refl
placed (suc (suc (suc (suc (suc (suc (suc (suc (suc (suc (suc (suc (suc k))))))))))))) p l m = absurd (omega arith)

-- what was read lies at another place than kind k's, so its word has another kind
pub other_kind : (keys : List ℕ) (k w : ℕ) (read : Word) → read ≡ word_of w → OneOf keys (place_of read) → 1 ≤ k → k ≤ 12
    → T (not (has_key keys (k - 1))) → kind_of w ≡ k → ⊥
other_kind keys k w read e o l m t q =
    let h : place_of read ≡ k - 1
    = ap place_of (e ∙ sym (by_parts w k (payload_of w) (sym q) refl)) ∙ placed k (payload_of w) l m in
    miss keys (k - 1) t (rw h at o)

not_kind : (keys : List ℕ) (k w : ℕ) (read : Word) → read ≡ word_of w → OneOf keys (place_of read) → 1 ≤ k → k ≤ 12
    → T (not (has_key keys (k - 1))) → eqb (kind_of w) k ≡ false
not_kind keys k w read e o l m t = ne_eqb (kind_of w) k (other_kind keys k w read e o l m t)

-- ---- the arms that the crates above have: the variants' places but those named

abbrev pub but_head : List ℕ
but_head = 1 ∷ 2 ∷ 3 ∷ 4 ∷ 5 ∷ 6 ∷ 7 ∷ 8 ∷ 9 ∷ 10 ∷ 11 ∷ 12 ∷ []

abbrev pub but_size : List ℕ
but_size = 0 ∷ 2 ∷ 3 ∷ 4 ∷ 5 ∷ 6 ∷ 7 ∷ 8 ∷ 9 ∷ 10 ∷ 11 ∷ 12 ∷ []

-- neither a cost nor a forbidden word
abbrev pub but_closing : List ℕ
but_closing = 0 ∷ 1 ∷ 2 ∷ 4 ∷ 5 ∷ 6 ∷ 7 ∷ 8 ∷ 9 ∷ 11 ∷ 12 ∷ []

-- neither a binding nor a word that closes an entry
abbrev pub but_entry : List ℕ
but_entry = 0 ∷ 1 ∷ 4 ∷ 5 ∷ 6 ∷ 7 ∷ 8 ∷ 9 ∷ 11 ∷ 12 ∷ []

abbrev pub but_step : List ℕ
but_step = 0 ∷ 1 ∷ 2 ∷ 3 ∷ 4 ∷ 5 ∷ 7 ∷ 8 ∷ 9 ∷ 10 ∷ 11 ∷ 12 ∷ []

module _ (w : ℕ) (read : Word) (e : read ≡ word_of w) where
  pub no_head : OneOf but_head (place_of read) → eqb (kind_of w) 1 ≡ false
  no_head o = not_kind but_head 1 w read e o (omega arith) (omega arith) tt

  pub no_size : OneOf but_size (place_of read) → eqb (kind_of w) 2 ≡ false
  no_size o = not_kind but_size 2 w read e o (omega arith) (omega arith) tt

  pub no_closing : OneOf but_closing (place_of read) → (eqb (kind_of w) 4 ≡ false) × (eqb (kind_of w) 11 ≡ false)
  no_closing o = (not_kind but_closing 4 w read e o (omega arith) (omega arith) tt, not_kind but_closing 11 w read e o (omega arith) (omega arith) tt)

  pub no_entry : OneOf but_entry (place_of read) → (eqb (kind_of w) 3 ≡ false) × (eqb (kind_of w) 4 ≡ false) × (eqb (kind_of w) 11 ≡ false)
  no_entry o = (
    not_kind but_entry 3 w read e o (omega arith) (omega arith) tt,
    not_kind but_entry 4 w read e o (omega arith) (omega arith) tt,
    not_kind but_entry 11 w read e o (omega arith) (omega arith) tt,
  )

  pub no_step : OneOf but_step (place_of read) → eqb (kind_of w) 7 ≡ false
  no_step o = not_kind but_step 7 w read e o (omega arith) (omega arith) tt
