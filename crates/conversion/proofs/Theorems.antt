-- A good conversion keeps sizes and rows, and there and back is the same words, for any two forms; no weight of a five-word row is too great for six.
use Prim.Native.Nat.{ℕ, ◌≤◌}
use native.Mathlib.Omega.{arith}
use mathlib.Core.Path.{◌≡◌, refl, sym, ap, ◌∙◌}
use mathlib.Core.Bool.{Bool, true, false, cond}
use mathlib.Core.List.{List}
use lib.ListN.{length}
use lib.Dec.{ltb}
use borrow.Author.Tests.{ltb-false, le-ltb}
use Rattle.wcsp.specs.Row.{Row, falsified, heavy}
use Rattle.wcsp.proofs.TooHeavy.{heavy-at, light}
use Rattle.fields.specs.Answers.{refused, good}
use Rattle.rows.specs.Raw.{max_weight}
use Rattle.table.specs.Form.{TableForm}
use Rattle.table.specs.Raws.{standard_form}
use Rattle.table.specs.Layout.{rows_at, capacity_in, table_words_in}
use Rattle.table.specs.Meaning.{variables_of, table_sizes, own_rows_in}
use Rattle.table.specs.Valid.{valid_table_in}
use Rattle.table.specs.Theorems.{HoldableIn}
use Rattle.table.specs.TableLaws.{TableLaws}
use Rattle.table.proofs.FormTables.{passed, length_sizes}
use Rattle.table.proofs.RawRows.{table_laws}
use Rattle.table.proofs.Own.{valid_is_canonical_in, written_reads_back_in, own_count_in}
use Rattle.table.specs.Five.{five_max_weight, five_form}
use Rattle.table.proofs.FiveLaws.{five_laws}
use Rattle.conversion.specs.Calls.{ConvertReturned, convert_call}
use Rattle.conversion.specs.Theorems.{KeepsIn, BackIn, Conversions}

-- ---- a good call

-- what the tests of a good call found
pub record Good (f g : TableForm) (source target : List ℕ) : Type 0 where
  pub valid : valid_table_in f source ≡ true
  pub place : rows_at (variables_of source) ≤ length target
  pub light : heavy g.limit (own_rows_in f source) ≡ false
  pub fits : length (own_rows_in f source) ≤ capacity_in g (length target) (variables_of source)

-- the call by the results of its tests
unfoldable pub converts_by : (f g : TableForm) → List ℕ → List ℕ → Bool → Bool → Bool → Bool → ConvertReturned
converts_by f g source target a b c d =
    cond a
    (cond b
    (record { answer = refused 10; target = target })
    (cond c
    (record { answer = refused 16; target = target })
    (cond d
    (record { answer = refused 12; target = target })
    (record { answer = good (length (own_rows_in f source)); target = table_words_in g (length target) (table_sizes source) (own_rows_in f source) }))))
    (record { answer = refused 9; target = target })

module _ (f g : TableForm) (source target : List ℕ) where
  pub by_tests : convert_call f g source target
      ≡ converts_by f g source target (valid_table_in f source) (ltb (length target) (rows_at (variables_of source))) (heavy g.limit (own_rows_in f source))
      (ltb (capacity_in g (length target) (variables_of source)) (length (own_rows_in f source)))
  unfolding convert_call converts_by
  by_tests = refl

  pub good_of : (convert_call f g source target).answer.number ≡ 0 → Good f g source target
  unfolding converts_by
  good_of e = go _ _ _ _ refl refl refl refl (sym (ap (λ r. r.answer.number) by_tests) ∙ e)
    where
      go : (a b c d : Bool) → valid_table_in f source ≡ a → ltb (length target) (rows_at (variables_of source)) ≡ b → heavy g.limit (own_rows_in f source) ≡ c
          → ltb (capacity_in g (length target) (variables_of source)) (length (own_rows_in f source)) ≡ d
          → (converts_by f g source target a b c d).answer.number ≡ 0 → Good f g source target
      go true true c d p q r s h = absurd (omega arith)
      go true false true d p q r s h = absurd (omega arith)
      go true false false true p q r s h = absurd (omega arith)
      go true false false false p q r s h =
          record {
            valid = p;
            place = ltb-false (length target) (rows_at (variables_of source)) q;
            light = r;
            fits = ltb-false (capacity_in g (length target) (variables_of source)) (length (own_rows_in f source)) s;
          }
      go false b c d p q r s h = absurd (omega arith)

  pub of_good : Good f g source target
      → convert_call f g source target
      ≡ record { answer = good (length (own_rows_in f source)); target = table_words_in g (length target) (table_sizes source) (own_rows_in f source) }
  unfolding converts_by
  of_good h =
      by_tests
      ∙ rw (
        h.valid,
        le-ltb (length target) (rows_at (variables_of source)) h.place,
        h.light,
        le-ltb (capacity_in g (length target) (variables_of source)) (length (own_rows_in f source)) h.fits,
      )

-- ---- what it keeps

module _ (f g : TableForm) (law : TableLaws f) (other : TableLaws g) where
  -- the target can hold what the source holds
  holds : (source target : List ℕ) → Good f g source target → HoldableIn g (length target) (table_sizes source) (own_rows_in f source)
  holds source target h =
      let c = (valid_is_canonical_in f law source h.valid).holdable in
      let n = length_sizes f law source (passed f source h.valid) in
      record {
        head = c.head;
        few = c.few;
        sizes = c.sizes;
        room = rw n h.place;
        fits = rw n h.fits;
        valid = c.valid;
        light = h.light;
      }

  keeps : KeepsIn f g
  keeps source target e =
      let h = good_of f g source target e in
      let t = ap (λ r. r.target) (of_good f g source target h) in
      let b = written_reads_back_in g other (length target) (table_sizes source) (own_rows_in f source) (holds source target h) in
      rw t
      (record {
        valid = b.valid;
        sizes = b.sizes;
        rows = b.rows;
        weights = λ p. ap (falsified p) b.rows;
      })

-- there and back, for two forms
module _ (f g : TableForm) (law : TableLaws f) (other : TableLaws g) where
  back : BackIn f g
  back source target again e long =
      let h = good_of f g source target e in
      let s = keeps f g law other source target e in
      let c = valid_is_canonical_in f law source h.valid in
      let m = length_sizes f law source (passed f source h.valid) in
      let there = (convert_call f g source target).target in
      let n : variables_of there ≡ variables_of source
      = sym (length_sizes g other there (passed g there s.valid)) ∙ ap length s.sizes ∙ m in
      let k : Good g f there again
      = record {
        valid = s.valid;
        place = rw (n, long) (rw m at c.holdable.room);
        light = rw s.rows c.holdable.light;
        fits = rw (s.rows, n, long) (rw m at c.holdable.fits);
      } in
      of_good g f there again k ∙ rw (s.rows, s.sizes, long, own_count_in f law source h.valid, ← c.words)

pub conversions : Conversions
conversions =
    record {
      six_keeps = keeps five_form standard_form five_laws table_laws;
      five_keeps = keeps standard_form five_form table_laws five_laws;
      six_and_back = back five_form standard_form five_laws table_laws;
      five_and_back = back standard_form five_form table_laws five_laws;
    }

-- ---- the greater limit

pub light_above : (L M : ℕ) (rs : List Row) → L ≤ M → heavy L rs ≡ false → heavy M rs ≡ false
light_above L M rs h e = light M rs (λ i l. omega (arith, heavy-at L rs i e))

pub five_light : (source : List ℕ) → valid_table_in five_form source ≡ true → heavy standard_form.limit (own_rows_in five_form source) ≡ false
five_light source v =
    light_above five_max_weight max_weight (own_rows_in five_form source) (omega arith) (valid_is_canonical_in five_form five_laws source v).holdable.light
