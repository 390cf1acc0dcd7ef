-- A conversion from one form to another: what each return leaves is what the definition says, by the answers of the calls that it makes. One law for
-- each way out, for any two forms.
use Prim.Native.Nat.{ℕ, ◌+◌, ◌-◌, ◌*◌, ◌/◌, ◌<◌, ◌≤◌, min}
use native.Mathlib.Nat.{mul-zero}
use native.Mathlib.Omega.{arith}
use mathlib.Core.Path.{◌≡◌, sym, ap, ap₂, subst, ◌∙◌}
use mathlib.Core.Bool.{true, false}
use mathlib.Core.List.{List, [], ◌∷◌, ◌++◌, map}
use lib.ListN.{length, take, drop, set, replicate}
use borrow.Author.Tests.{lt-ltb, le-ltb}
use Rattle.std.specs.Prelude.{Option, None}
use Rattle.wcsp.specs.Row.{Row, heavy}
use Rattle.words.specs.Layout.{count_word}
use Rattle.fields.specs.Answers.{Answer}
use Rattle.fields.specs.Answers.{refused, good}
use Rattle.fields.specs.Limits.{max_variables}
use Rattle.fields.specs.Padding.{lacking}
use Rattle.rows.specs.Form.{LaidIn, LeftIn}
use Rattle.table.specs.declared.Shape.{Shape}
use Rattle.table.specs.Form.{TableForm}
use Rattle.table.specs.Layout.{max_rows, rows_at, capacity_in, table_words_in}
use Rattle.table.specs.Meaning.{variables_of, table_sizes, row_count, rows_from_in, table_rows_in, own_rows_in}
use Rattle.table.specs.Valid.{valid_table_in}
use Rattle.table.specs.Check.{shape_of, check_table_in}
use Rattle.table.specs.TableLaws.{TableLaws}
use Rattle.table.proofs.FormTables.{PassedIn, passed, length_sizes, length_rows, passed_room, room_rows, length_words, twelve_is_canonical}
use Rattle.table.proofs.FormFinishing.{laid_words, finished}
use Rattle.table.proofs.Tested.{table_invalid_in}
use Rattle.table.proofs.Checking.{roomy}
use Rattle.table.proofs.Own.{own_widens_in, own_wide_in, own_count_in, words_wide_in}
use Rattle.conversion.proofs.Starting.{none-started}
use Rattle.conversion.specs.Calls.{ConvertReturned, convert_call}
use Rattle.conversion.proofs.Theorems.{of_good, light_above}

-- what the call returns and leaves
abbrev pub Converted : TableForm → TableForm → List ℕ → List ℕ → Answer → List ℕ → Type 0
Converted f g source target answer after = ◌≡◌ {A = ConvertReturned} (record { answer = answer; target = after }) (convert_call f g source target)

-- a refusal that the definition gives, too
refusing : {target : List ℕ} {call : ConvertReturned} (number : ℕ) (r : Answer) → r ≡ refused number
    → call ≡ record { answer = refused number; target = target } → ◌≡◌ {A = ConvertReturned} (record { answer = r; target = target }) call
refusing {target} number r e c = ap (λ a. record { answer = a; target = target }) e ∙ sym c

-- ---- 9

pub not_a_table : (f g : TableForm) (source target : List ℕ) (checked : Option Shape) → checked ≡ check_table_in f source → checked ≡ None
    → (r : Answer) → r ≡ refused 9 → Converted f g source target r target
unfolding convert_call
not_a_table f g source target checked told i r e = refusing 9 r e (rw (table_invalid_in f source checked told i))

-- ---- the room of a slice as long as the target, for rows as wide as the form's

pub target_room : (g : TableForm) (w l len n room : ℕ) → room ≡ min max_rows ((l - rows_at n) / w) → w ≡ g.rows.width → l ≡ len → room ≡ capacity_in g len n
target_room g w l len n room q wide long = roomy g w len n room (q ∙ ap (λ k. min max_rows ((k - rows_at n) / w)) long) wide

-- ---- a valid source, with its shape

module _ (f g : TableForm) (law : TableLaws f) (other : TableLaws g) (source target : List ℕ) (shape : Shape)
    (told : (valid_table_in f source ≡ true) × (shape ≡ shape_of source)) where
  valid : valid_table_in f source ≡ true
  valid = told.0

  tests : PassedIn f source
  tests = passed f source valid

  variables : shape.variables ≡ variables_of source
  variables = ap (λ (s : Shape). s.variables) told.1

  count : shape.count ≡ row_count source
  count = ap (λ (s : Shape). s.count) told.1

  sizes_long : length (table_sizes source) ≡ shape.variables
  sizes_long = length_sizes f law source tests ∙ sym variables

  own_long : length (own_rows_in f source) ≡ shape.count
  own_long = own_count_in f law source valid ∙ sym count

  pub few : shape.variables ≤ max_variables
  few = omega (arith, variables, tests.few)

  -- the source's rows end within it
  pub rows_there : shape.variables + 2 + f.rows.width * shape.count ≤ length source
  rows_there = rw (variables, count) (passed_room f law source tests)

  -- the rows that are read with the shape's numbers
  abbrev rows : List Row
  rows = rows_from_in f shape.count (drop (shape.variables + 2) source)

  rows_are : rows ≡ table_rows_in f source
  unfolding table_rows_in
  rows_are = ap₂ (λ k n. rows_from_in f k (drop (n + 2) source)) count variables

  heavy_own : (L : ℕ) → heavy L (own_rows_in f source) ≡ heavy L rows
  heavy_own L = sym ((own_widens_in f law source valid).heavy_as L) ∙ ap (heavy L) (sym rows_are)

  -- no row is heavy for a form with at least the source's limit
  pub light_enough : f.limit ≤ g.limit → heavy g.limit rows ≡ false
  light_enough h = light_above f.limit g.limit rows h (ap (heavy f.limit) rows_are ∙ (twelve_is_canonical f law source valid).holdable.light)

  -- ---- 10

  pub too_short : length target < shape.variables + 2 → (r : Answer) → r ≡ refused 10 → Converted f g source target r target
  unfolding convert_call
  too_short h r e =
      let short : length target < rows_at (variables_of source) = omega (arith, variables) in
      refusing 10 r e (rw (valid, lt-ltb (length target) (rows_at (variables_of source)) short))

  module _ (long : shape.variables + 2 ≤ length target) where
    place : rows_at (variables_of source) ≤ length target
    place = omega (arith, variables)

    -- ---- 16

    pub too_wide : heavy g.limit rows ≡ true → (r : Answer) → r ≡ refused 16 → Converted f g source target r target
    unfolding convert_call
    too_wide h r e = refusing 16 r e (rw (valid, le-ltb (length target) (rows_at (variables_of source)) place, heavy_own g.limit ∙ h))

    module _ (light : heavy g.limit rows ≡ false) (room : ℕ) (m : room ≡ capacity_in g (length target) shape.variables) where
      capacity_is : capacity_in g (length target) (variables_of source) ≡ room
      capacity_is = ap (capacity_in g (length target)) (sym variables) ∙ sym m

      -- ---- 12

      pub no_room : room < shape.count → (r : Answer) → r ≡ refused 12 → Converted f g source target r target
      unfolding convert_call
      no_room h r e =
          let full : capacity_in g (length target) (variables_of source) < length (own_rows_in f source) = omega (arith, capacity_is, own_long) in
          refusing 12 r e
          (rw (
            valid,
            le-ltb (length target) (rows_at (variables_of source)) place,
            heavy_own g.limit ∙ light,
            lt-ltb (capacity_in g (length target) (variables_of source)) (length (own_rows_in f source)) full,
          ))

      -- ---- the same sizes and rows

      module _ (fits : shape.count ≤ room) where
        pub room_there : shape.variables + 2 + g.rows.width * shape.count ≤ length target
        room_there = room_rows g (length target) shape.variables shape.count long (omega arith)

        module _ (t₁ : List ℕ) (s : t₁ ≡ take (shape.variables + 1) source ++ (count_word 0 ∷ replicate (length target - (shape.variables + 2)) 0)) where
          words_are : t₁ ≡ table_words_in g (length target) (table_sizes source) []
          words_are =
              none-started f g source (length target) (table_sizes source) (table_rows_in f source) (twelve_is_canonical f law source valid).words t₁
              (s ∙ ap (λ n. take (n + 1) source ++ (count_word 0 ∷ replicate (length target - (n + 2)) 0)) (sym sizes_long))

          none_fits : rows_at (length (table_sizes source)) + g.rows.width * 0 ≤ length target
          none_fits = omega (arith, mul-zero g.rows.width, sizes_long)

          pub started_long : length t₁ ≡ length target
          started_long = ap length words_are ∙ length_words g other.form (length target) (table_sizes source) [] none_fits

          words_own : t₁ ≡ table_words_in g (length t₁) (table_sizes source) []
          words_own = words_are ∙ ap (λ n. table_words_in g n (table_sizes source) []) (sym started_long)

          pub none_laid : LaidIn g.rows t₁ (shape.variables + 2) []
          none_laid = rw sizes_long at (laid_words g t₁ (table_sizes source) [] words_own (omega (arith, none_fits, started_long)))

          module _ (t₂ : List ℕ) (w : LeftIn g.rows t₁ (shape.variables + 2) t₂ (map g.raw_of rows)) where
            pub written_long : length t₂ ≡ length target
            written_long = w.long ∙ started_long

            left_rows : LeftIn g.rows t₁ (rows_at (length (table_sizes source))) t₂ (map g.raw_of (table_rows_in f source))
            left_rows =
                subst (λ n. LeftIn g.rows t₁ (n + 2) t₂ (map g.raw_of (table_rows_in f source))) (sym sizes_long)
                (subst (λ rs. LeftIn g.rows t₁ (shape.variables + 2) t₂ (map g.raw_of rs)) rows_are w)

            rows_long : length (table_rows_in f source) ≡ shape.count
            rows_long = length_rows f law source tests ∙ sym count

            table_done : (c : ℕ) → c ≡ count_word shape.count
                → set t₂ (shape.variables + 1) c ≡ table_words_in g (length target) (table_sizes source) (own_rows_in f source)
            table_done c e =
                ap₂ (λ n v. set t₂ (n + 1) v) (sym sizes_long) (e ∙ ap count_word (sym rows_long))
                ∙ finished g t₁ t₂ (table_sizes source) [] (table_rows_in f source) words_own left_rows
                ∙ ap₂ (λ n rs. table_words_in g n (table_sizes source) rs) started_long (own_wide_in f law source valid)
                ∙ words_wide_in g other (length target) (lacking (table_sizes source)) (table_sizes source) (own_rows_in f source)

            pub converted : (c : ℕ) → c ≡ count_word shape.count → (r : Answer) → r ≡ good shape.count
                → Converted f g source target r (set t₂ (shape.variables + 1) c)
            converted c e r h =
                ap₂ (λ a u. record { answer = a; target = u }) (h ∙ ap good (sym own_long)) (table_done c e)
                ∙ sym
                (of_good f g source target
                (record {
                  valid = valid;
                  place = place;
                  light = heavy_own g.limit ∙ light;
                  fits = omega (arith, capacity_is, own_long);
                }))
