-- A definition by a word's kind and payload is one by what the word says, if both agree at each kind.
use Prim.Native.Nat.{ℕ, zero, suc, ◌/◌, ◌%◌, ◌≤◌}
use native.Mathlib.Omega.{arith}
use mathlib.Core.Path.{◌≡◌, refl, ap, ◌∙◌}
use mathlib.Core.Bool.{false}
use lib.Dec.{eqb}
use borrow.Author.Tests.{ne_eqb}
use Rattle.words.specs.declared.Word.{Word}
use Rattle.words.specs.declared.Word.TheVariants.{Head, Size, Binding, Cost, Signs, Weight, Step, Easting, Northing, Count, Forbidden, High, Unknown}
use Rattle.words.specs.Layout.{kind_of, payload_of}
use Rattle.words.specs.Meaning.{of_kind, word_of}
use Rattle.words.proofs.Reading.{by_parts, unknown_else}

module _ {A : Type 0} (f : ℕ → ℕ → A) (g : Word → A)
    (h1 : (p : ℕ) → f 1 p ≡ g (Head p)) (h2 : (p : ℕ) → f 2 p ≡ g (Size p)) (h3 : (p : ℕ) → f 3 p ≡ g (Binding (p / 256) (p % 256)))
    (h4 : (p : ℕ) → f 4 p ≡ g (Cost p)) (h5 : (p : ℕ) → f 5 p ≡ g (Signs (p / 16777216) (p % 16777216)))
    (h6 : (p : ℕ) → f 6 p ≡ g (Weight p)) (h7 : (p : ℕ) → f 7 p ≡ g (Step (p / 16777216) (p / 4096 % 4096) (p % 4096)))
    (h8 : (p : ℕ) → f 8 p ≡ g (Easting p)) (h9 : (p : ℕ) → f 9 p ≡ g (Northing p)) (h10 : (p : ℕ) → f 10 p ≡ g (Count p))
    (h11 : (p : ℕ) → f 11 p ≡ g (Forbidden p)) (h12 : (p : ℕ) → f 12 p ≡ g (High p))
    (hu : (k p : ℕ) → ((j : ℕ) → 1 ≤ j → j ≤ 12 → eqb k j ≡ false) → f k p ≡ g Unknown) where
  by_kind : (k p : ℕ) → f k p ≡ g (of_kind k p)
  unfolding of_kind
  by_kind zero p = hu 0 p (λ j l m. ne_eqb 0 j (omega arith))
  by_kind (suc zero) p = h1 p
  by_kind (suc (suc zero)) p = h2 p
  by_kind (suc (suc (suc zero))) p = h3 p
  by_kind (suc (suc (suc (suc zero)))) p = h4 p
  by_kind (suc (suc (suc (suc (suc zero))))) p = h5 p
  by_kind (suc (suc (suc (suc (suc (suc zero)))))) p = h6 p
  by_kind (suc (suc (suc (suc (suc (suc (suc zero))))))) p = h7 p
  by_kind (suc (suc (suc (suc (suc (suc (suc (suc zero)))))))) p = h8 p
  by_kind (suc (suc (suc (suc (suc (suc (suc (suc (suc zero))))))))) p = h9 p
  by_kind (suc (suc (suc (suc (suc (suc (suc (suc (suc (suc zero)))))))))) p = h10 p
  by_kind (suc (suc (suc (suc (suc (suc (suc (suc (suc (suc (suc zero))))))))))) p = h11 p
  by_kind (suc (suc (suc (suc (suc (suc (suc (suc (suc (suc (suc (suc zero)))))))))))) p = h12 p
  by_kind (suc (suc (suc (suc (suc (suc (suc (suc (suc (suc (suc (suc (suc k))))))))))))) p =
      let K : ℕ = suc (suc (suc (suc (suc (suc (suc (suc (suc (suc (suc (suc (suc k)))))))))))) in
      rw (unknown_else K p (omega arith) (omega arith) (omega arith) (omega arith) (omega arith) (omega arith) (omega arith) (omega arith) (omega arith) (omega arith) (omega arith) (omega arith))
      (hu K p (λ j l m. ne_eqb K j (omega arith)))

  pub by_word : (w : ℕ) → f (kind_of w) (payload_of w) ≡ g (word_of w)
  by_word w = by_kind (kind_of w) (payload_of w) ∙ ap g (by_parts w (kind_of w) (payload_of w) refl refl)
