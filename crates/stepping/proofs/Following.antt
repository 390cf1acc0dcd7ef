-- The table that a step on any permitted pair of a valid table leaves: a valid one of the same sizes and length, with the finished rows.
use Prim.Native.Nat.{ℕ}
use mathlib.Core.Path.{◌≡◌, ap, ◌∙◌}
use mathlib.Core.Bool.{true}
use mathlib.Core.List.{List}
use lib.ListN.{length}
use Rattle.wcsp.specs.Row.{Row}
use Rattle.wcsp.specs.Resolve.{Pair, resolve, MayResolve}
use Rattle.wcsp.proofs.Validity.{step_valid}
use Rattle.table.specs.Layout.{capacity}
use Rattle.fields.specs.Padding.{padded}
use Rattle.table.specs.Meaning.{variables_of, row_count, table_sizes, table_rows, domains, capacity_of}
use Rattle.table.specs.Valid.{valid_table}
use Rattle.table.specs.Twelve.{TwelveHoldable}
use Rattle.table.proofs.Canonical.{twelve_is_canonical}
use Rattle.table.proofs.Finishing.{valid_variables}
use Rattle.table.proofs.Held.{TwelveHeld, twelve_held}
use Rattle.stepping.proofs.Answers.{Advances}

pub record Following (t t' : List ℕ) (rs : List Row) : Type 0 where
  pub valid : valid_table t' ≡ true
  pub long : length t' ≡ length t
  pub sizes : table_sizes t' ≡ table_sizes t
  pub rows : table_rows t' ≡ rs
  pub variables : variables_of t' ≡ variables_of t
  pub domained : domains t' ≡ domains t
  pub capacious : capacity_of t' ≡ capacity_of t
  pub counted : row_count t' ≡ length rs

module _ (t : List ℕ) (v : valid_table t ≡ true) (pr : Pair) (m : MayResolve (domains t) (table_rows t) pr) (now : ℕ) (t' : List ℕ)
    (a : Advances t pr now t') where
  rs' : List Row
  rs' = resolve (domains t) pr (table_rows t)

  holdable : TwelveHoldable (length t) (table_sizes t) rs'
  unfolding rs' domains
  holdable =
      let h = (twelve_is_canonical t v).holdable in
      let n = valid_variables t v in
      record {
        head = h.head;
        few = h.few;
        sizes = h.sizes;
        room = h.room;
        fits = rw n a.fits;
        valid = step_valid (domains t) (table_rows t) pr h.valid m;
        light = a.light;
      }

  pub following : Following t t' (resolve (domains t) pr (table_rows t))
  unfolding rs' domains
  following =
      let h : TwelveHeld t' (length t) (table_sizes t) rs' = twelve_held t' (length t) (table_sizes t) rs' holdable a.table in
      let n = valid_variables t v in
      record {
        valid = h.valid;
        long = h.long;
        sizes = h.sizes;
        rows = h.rows;
        variables = h.variables ∙ n;
        domained = ap padded h.sizes;
        capacious = h.capacious ∙ ap (capacity (length t)) n;
        counted = h.counted;
      }
