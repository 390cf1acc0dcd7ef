-- A slice that holds sizes and rows as a table: what its words read as.
use Prim.Native.Nat.{ℕ}
use mathlib.Core.Path.{◌≡◌, sym, ap, ap₂, ◌∙◌}
use mathlib.Core.Bool.{true}
use mathlib.Core.List.{List}
use lib.ListN.{length}
use Rattle.wcsp.specs.Row.{Row}
use Rattle.table.specs.Layout.{capacity, table_words}
use Rattle.table.specs.Meaning.{variables_of, row_count, table_sizes, table_rows, capacity_of}
use Rattle.table.specs.Valid.{valid_table}
use Rattle.table.specs.Raws.{standard_form}
use Rattle.table.specs.Theorems.{ReadsBackAs}
use Rattle.table.specs.Twelve.{TwelveHoldable}
use Rattle.table.proofs.Canonical.{twelve_written}
use Rattle.table.proofs.Finishing.{valid_variables, valid_count}

-- the slice t holds these sizes and rows, as it is read
pub record HeldAs (rows_read : List ℕ → List Row) (t : List ℕ) (len : ℕ) (ds : List ℕ) (rs : List Row) : Type 0 where
  pub words : t ≡ table_words len ds rs
  pub valid : valid_table t ≡ true
  pub long : length t ≡ len
  pub sizes : table_sizes t ≡ ds
  pub rows : rows_read t ≡ rs
  pub variables : variables_of t ≡ length ds
  pub counted : row_count t ≡ length rs
  pub capacious : capacity_of t ≡ capacity len (length ds)

pub held_as : (rows_read : List ℕ → List Row) → ((t : List ℕ) → valid_table t ≡ true → length (rows_read t) ≡ row_count t) → (t : List ℕ) (len : ℕ)
    (ds : List ℕ) (rs : List Row) → ReadsBackAs standard_form rows_read len ds rs → t ≡ table_words len ds rs → HeldAs rows_read t len ds rs
held_as rows_read long t len ds rs b e =
    let v : valid_table t ≡ true = rw e b.valid in
    let l : length t ≡ len = rw e b.long in
    let s : table_sizes t ≡ ds = rw e b.sizes in
    let r : rows_read t ≡ rs = rw e b.rows in
    let n : variables_of t ≡ length ds = sym (valid_variables t v) ∙ ap length s in
    record {
      words = e;
      valid = v;
      long = l;
      sizes = s;
      rows = r;
      variables = n;
      counted = sym (long t v) ∙ ap length r;
      capacious = ap₂ capacity l n;
    }

-- in twelve signs
abbrev pub TwelveHeld : List ℕ → ℕ → List ℕ → List Row → Type 0
TwelveHeld t len ds rs = HeldAs table_rows t len ds rs

pub twelve_held : (t : List ℕ) (len : ℕ) (ds : List ℕ) (rs : List Row) → TwelveHoldable len ds rs → t ≡ table_words len ds rs → TwelveHeld t len ds rs
twelve_held t len ds rs h e = held_as table_rows valid_count t len ds rs (twelve_written len ds rs h) e
