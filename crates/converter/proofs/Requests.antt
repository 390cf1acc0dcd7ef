-- What is wrong with a request: one law for each test that applies, and what holds where none does.
use Prim.Native.Nat.{ℕ, ◌-◌, ◌*◌, ◌%◌, ◌≤◌, ◌<◌}
use native.Mathlib.Omega.{arith}
use mathlib.Core.Path.{◌≡◌, refl, sym, ◌∙◌}
use mathlib.Core.Bool.{Bool, true, false, not, ◌&&◌, cond}
use mathlib.Core.List.{List}
use lib.ListN.{length, take, drop, length-take}
use lib.Dec.{eqb, leb, ltb}
use borrow.Author.Tests.{ltb-false, leb-true, eqb-true, eqb-false, lt-ltb, le-ltb, le-leb, lt-leb, eq-eqb, ne_eqb}
use Rattle.fields.specs.Order.{first_of}
use Rattle.converter.specs.Converted.{most_words, most_bytes, wanted_form, wanted_words, request_fault}

-- the number by the results of the tests
unfoldable fault_by : Bool → Bool → Bool → Bool → Bool → Bool → ℕ
fault_by long whole none low high wide = cond long 10 (cond (not whole) 9 (cond none 9 (cond (not (low && high)) 9 (cond wide 10 0))))

-- a request with nothing wrong
pub record Fine (bytes : List ℕ) : Type 0 where
  pub short : length bytes ≤ most_bytes
  pub whole : length bytes % 4 ≡ 0
  pub some : 4 ≤ length bytes
  pub low : 5 ≤ wanted_form bytes
  pub high : wanted_form bytes ≤ 6
  pub room : wanted_words bytes ≤ most_words

module _ (bytes : List ℕ) where
  by_tests : request_fault bytes
      ≡ fault_by (ltb most_bytes (length bytes)) (eqb (length bytes % 4) 0) (eqb (length bytes) 0) (leb 5 (wanted_form bytes)) (leb (wanted_form bytes) 6)
      (ltb most_words (wanted_words bytes))
  unfolding request_fault first_of fault_by
  by_tests = refl

  pub too_long : most_bytes < length bytes → 10 ≡ request_fault bytes
  unfolding fault_by
  too_long h = sym (by_tests ∙ rw (lt-ltb most_bytes (length bytes) h))

  module _ (short : length bytes ≤ most_bytes) where
    abbrev first : ltb most_bytes (length bytes) ≡ false
    first = le-ltb most_bytes (length bytes) short

    pub no_words : (length bytes % 4 ≡ 0 → ⊥) → 9 ≡ request_fault bytes
    unfolding fault_by
    no_words h = sym (by_tests ∙ rw (first, ne_eqb (length bytes % 4) 0 h))

    module _ (whole : length bytes % 4 ≡ 0) where
      abbrev second : eqb (length bytes % 4) 0 ≡ true
      second = eq-eqb (length bytes % 4) 0 whole

      pub nothing : length bytes ≡ 0 → 9 ≡ request_fault bytes
      unfolding fault_by
      nothing h = sym (by_tests ∙ rw (first, second, eq-eqb (length bytes) 0 h))

      module _ (some : length bytes ≡ 0 → ⊥) where
        abbrev third : eqb (length bytes) 0 ≡ false
        third = ne_eqb (length bytes) 0 some

        pub form_below : wanted_form bytes < 5 → 9 ≡ request_fault bytes
        unfolding fault_by
        form_below h = sym (by_tests ∙ rw (first, second, third, lt-leb 5 (wanted_form bytes) h))

        pub form_above : 6 < wanted_form bytes → 9 ≡ request_fault bytes
        unfolding fault_by
        form_above h =
            let low : 5 ≤ wanted_form bytes = omega arith in
            sym (by_tests ∙ rw (first, second, third, le-leb 5 (wanted_form bytes) low, lt-leb (wanted_form bytes) 6 h))

        module _ (low : 5 ≤ wanted_form bytes) (high : wanted_form bytes ≤ 6) where
          pub too_wide : most_words < wanted_words bytes → 10 ≡ request_fault bytes
          unfolding fault_by
          too_wide h =
              sym
              (by_tests
              ∙ rw (
                first,
                second,
                third,
                le-leb 5 (wanted_form bytes) low,
                le-leb (wanted_form bytes) 6 high,
                lt-ltb most_words (wanted_words bytes) h,
              ))

          pub no_fault : wanted_words bytes ≤ most_words → 0 ≡ request_fault bytes
          unfolding fault_by
          no_fault h =
              sym
              (by_tests
              ∙ rw (
                first,
                second,
                third,
                le-leb 5 (wanted_form bytes) low,
                le-leb (wanted_form bytes) 6 high,
                le-ltb most_words (wanted_words bytes) h,
              ))

  pub fine : request_fault bytes ≡ 0 → Fine bytes
  unfolding fault_by
  fine e = go _ _ _ _ _ _ refl refl refl refl refl refl (sym by_tests ∙ e)
    where
      go : (a b c d f g : Bool) → ltb most_bytes (length bytes) ≡ a → eqb (length bytes % 4) 0 ≡ b → eqb (length bytes) 0 ≡ c
          → leb 5 (wanted_form bytes) ≡ d → leb (wanted_form bytes) 6 ≡ f → ltb most_words (wanted_words bytes) ≡ g → fault_by a b c d f g ≡ 0 → Fine bytes
      go true b c d f g h i j k l m n = absurd (omega arith)
      go false false c d f g h i j k l m n = absurd (omega arith)
      go false true true d f g h i j k l m n = absurd (omega arith)
      go false true false false f g h i j k l m n = absurd (omega arith)
      go false true false true false g h i j k l m n = absurd (omega arith)
      go false true false true true true h i j k l m n = absurd (omega arith)
      go false true false true true false h i j k l m n =
          let whole = eqb-true (length bytes % 4) 0 i in
          let some = eqb-false (length bytes) 0 j in
          record {
            short = ltb-false most_bytes (length bytes) h;
            whole = whole;
            some = omega (arith, whole, some);
            low = leb-true 5 (wanted_form bytes) k;
            high = leb-true (wanted_form bytes) 6 l;
            room = ltb-false most_words (wanted_words bytes) m;
          }

-- its table fits
pub table_short : (bytes : List ℕ) → length bytes ≤ most_bytes → length (take (length bytes - 4) (drop 4 bytes)) ≤ 4 * most_words
table_short bytes h = omega (arith, length-take (length bytes - 4) (drop 4 bytes))
