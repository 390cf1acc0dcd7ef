-- A table's own rows: the rows that its words mean are these, widened to twelve signs; so valid tables are canonical over the table's own variables,
-- and what was written reads back.
use Prim.Native.Nat.{ℕ}
use native.Mathlib.Omega.{arith}
use mathlib.Core.Path.{◌≡◌, refl, sym, ap, ap₂, ◌∙◌}
use mathlib.Core.Bool.{true}
use mathlib.Core.List.{List, [], ◌∷◌, map}
use lib.ListN.{length}
use Rattle.wcsp.specs.Row.{Row, empty_weight, ValidRows}
use Rattle.wcsp.specs.Resolve.{next_pair}
use Rattle.wcsp.specs.Widening.{widened, wide_rows, trimmed, Widens}
use Rattle.wcsp.proofs.Widening.{trimming}
use Rattle.wcsp.proofs.WideningSearch.{widened-length}
use Rattle.wcsp.proofs.WideningRows.{length-wide, heavy-wide}
use Rattle.wcsp.proofs.WideningTables.{wide_valid, wide_trims, trimmed_valid, trimmed_wide, valid_spanning}
use Rattle.fields.specs.Limits.{max_variables}
use Rattle.fields.specs.Padding.{padded, lacking}
use Rattle.table.specs.Form.{TableForm}
use Rattle.table.specs.Raws.{standard_form}
use Rattle.table.specs.Layout.{table_words_in, table_words}
use Rattle.table.specs.Meaning.{variables_of, row_count, table_sizes, domains, table_rows_in, own_rows_in, table_rows, own_rows}
use Rattle.table.specs.Valid.{valid_table_in, valid_table}
use Rattle.table.specs.Theorems.{HoldableIn, ValidIsCanonicalIn, WrittenReadsBackIn, Holdable, ValidIsCanonical, WrittenReadsBack, NoSignBehind}
use Rattle.table.specs.Twelve.{TwelveHoldableIn}
use Rattle.table.specs.TableLaws.{TableLaws}
use Rattle.table.proofs.FormTables as forms
use Rattle.table.proofs.RawRows.{table_laws}
use Rattle.table.proofs.Finishing.{valid_variables}
use Rattle.table.proofs.Held.{HeldAs, held_as}

-- ---- in any form

module _ (f : TableForm) (law : TableLaws f) where
  raws_wide : (k : ℕ) (rs : List Row) → map f.raw_of (wide_rows k rs) ≡ map f.raw_of rs
  unfolding wide_rows
  raws_wide k [] = refl
  raws_wide k (r ∷ rs) = ap₂ ◌∷◌ (law.widens k r) (raws_wide k rs)

  -- widened rows are written as the same words
  pub words_wide_in : (len k : ℕ) (ds : List ℕ) (rs : List Row) → table_words_in f len ds (wide_rows k rs) ≡ table_words_in f len ds rs
  unfolding table_words_in
  words_wide_in len k ds rs = rw (length-wide k rs, raws_wide k rs)

  module _ (t : List ℕ) (v : valid_table_in f t ≡ true) where
    sizes_long : length (table_sizes t) ≡ variables_of t
    sizes_long = forms.length_sizes f law t (forms.passed f t v)

    valid_twelve : ValidRows (padded (table_sizes t)) (table_rows_in f t)
    valid_twelve = (forms.twelve_is_canonical f law t v).holdable.valid

    own_are : own_rows_in f t ≡ trimmed (length (table_sizes t)) (table_rows_in f t)
    unfolding own_rows_in
    own_are = ap (λ n. trimmed n (table_rows_in f t)) (sym sizes_long)

    pub own_widens_in : Widens (lacking (table_sizes t)) (table_sizes t) (own_rows_in f t) (table_rows_in f t)
    unfolding padded
    own_widens_in = rw own_are (trimming (lacking (table_sizes t)) (table_sizes t) (table_rows_in f t) valid_twelve)

    pub own_wide_in : table_rows_in f t ≡ wide_rows (lacking (table_sizes t)) (own_rows_in f t)
    unfolding padded
    own_wide_in = rw own_are (wide_trims (lacking (table_sizes t)) (table_sizes t) (table_rows_in f t) valid_twelve)

    pub own_count_in : length (own_rows_in f t) ≡ row_count t
    own_count_in = sym own_widens_in.count ∙ forms.length_rows f law t (forms.passed f t v)

  pub valid_is_canonical_in : ValidIsCanonicalIn f
  unfolding padded
  valid_is_canonical_in t v =
      let c = forms.twelve_is_canonical f law t v in
      let h = c.holdable in
      let w = own_widens_in t v in
      let n = w.count in
      record {
        words = c.words ∙ ap (table_words_in f (length t) (table_sizes t)) (own_wide_in t v)
            ∙ words_wide_in (length t) (lacking (table_sizes t)) (table_sizes t) (own_rows_in f t);
        holdable =
            record {
              head = h.head;
              few = h.few;
              sizes = h.sizes;
              room = h.room;
              fits = rw n at h.fits;
              valid = rw (own_are t v) (trimmed_valid (lacking (table_sizes t)) (table_sizes t) (table_rows_in f t) (valid_twelve t v));
              light = sym (w.heavy_as f.limit) ∙ h.light;
            };
      }

  -- what a slice can hold, with the rows widened
  widely : {len : ℕ} {ds : List ℕ} {rs : List Row} → HoldableIn f len ds rs → TwelveHoldableIn f len ds (wide_rows (lacking ds) rs)
  unfolding padded
  widely {len} {ds} {rs} h =
      let n = length-wide (lacking ds) rs in
      record {
        head = h.head;
        few = h.few;
        sizes = h.sizes;
        room = h.room;
        fits = rw n h.fits;
        valid = (wide_valid (lacking ds) ds rs).0 h.valid;
        light = heavy-wide (lacking ds) f.limit rs ∙ h.light;
      }

  pub written_reads_back_in : WrittenReadsBackIn f
  written_reads_back_in len ds rs h =
      let b = forms.twelve_written f law len ds (wide_rows (lacking ds) rs) (widely h) in
      let e = words_wide_in len (lacking ds) ds rs in
      let v = rw e at b.valid in
      let s = rw e at b.sizes in
      let r = rw e at b.rows in
      record {
        long = rw e at b.long;
        valid = v;
        sizes = s;
        rows =
            own_are (table_words_in f len ds rs) v ∙ ap₂ trimmed (ap length s) r
            ∙ trimmed_wide (lacking ds) (length ds) rs (valid_spanning h.valid);
      }

-- ---- in the form of six-word rows

pub valid_is_canonical : ValidIsCanonical
valid_is_canonical = valid_is_canonical_in standard_form table_laws

pub written_reads_back : WrittenReadsBack
written_reads_back = written_reads_back_in standard_form table_laws

pub words_wide : (len k : ℕ) (ds : List ℕ) (rs : List Row) → table_words len ds (wide_rows k rs) ≡ table_words len ds rs
words_wide len k ds rs = words_wide_in standard_form table_laws len k ds rs

pub own_widens : (t : List ℕ) → valid_table t ≡ true → Widens (lacking (table_sizes t)) (table_sizes t) (own_rows t) (table_rows t)
own_widens t v = own_widens_in standard_form table_laws t v

pub no_sign_behind : NoSignBehind
no_sign_behind t v = own_wide_in standard_form table_laws t v

-- the next pair of the twelve signs is that of the table's own variables
pub own_next : (t : List ℕ) → valid_table t ≡ true → next_pair (domains t) (table_rows t) ≡ next_pair (table_sizes t) (own_rows t)
unfolding domains padded
own_next t v = (own_widens t v).next

-- and so is the empty row's weight
pub own_empty : (t : List ℕ) → valid_table t ≡ true → empty_weight max_variables (table_rows t) ≡ empty_weight (variables_of t) (own_rows t)
own_empty t v =
    let n = valid_variables t v in
    let few = (valid_is_canonical t v).holdable.few in
    let long : length (widened (lacking (table_sizes t)) (table_sizes t)) ≡ max_variables
    = widened-length (lacking (table_sizes t)) (table_sizes t) ∙ omega arith in
    rw (long, n) at (own_widens t v).empty

pub own_valid : (t : List ℕ) → valid_table t ≡ true → ValidRows (table_sizes t) (own_rows t)
own_valid t v = (valid_is_canonical t v).holdable.valid

-- ---- a slice that holds sizes and rows as a table: what its words read as

abbrev pub Held : List ℕ → ℕ → List ℕ → List Row → Type 0
Held t len ds rs = HeldAs own_rows t len ds rs

own_count : (t : List ℕ) → valid_table t ≡ true → length (own_rows t) ≡ row_count t
own_count t v = own_count_in standard_form table_laws t v

pub held : (t : List ℕ) (len : ℕ) (ds : List ℕ) (rs : List Row) → Holdable len ds rs → t ≡ table_words len ds rs → Held t len ds rs
held t len ds rs h e = held_as own_rows own_count t len ds rs (written_reads_back len ds rs h) e
