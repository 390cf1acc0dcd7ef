-- A valid table as the functions that read it have it: its rows as raw rows in the words, valid and light, the full signs, and room.
use Prim.Native.Nat.{ℕ, ◌+◌, ◌*◌, ◌<◌, ◌≤◌}
use native.Mathlib.Omega.{arith}
use mathlib.Core.Path.{◌≡◌, refl, sym, ap, ◌∙◌}
use mathlib.Core.Bool.{true, false}
use mathlib.Core.List.{List, map}
use lib.ListN.{length, get_or}
use Rattle.wcsp.specs.Row.{ValidRows}
use Rattle.wcsp.specs.Resolve.{no_row}
use Rattle.clause.specs.Packed.{FitsBlocks, FullSigns}
use Rattle.fields.proofs.Padding.{padded-length}
use Rattle.table.proofs.FormTables.{holdable_carried}
use Rattle.table.specs.Carried.{AllCarried}
use Rattle.rows.specs.Raw.{row_width, raw_at, raws_in, Laid, weight_in}
use Rattle.table.specs.declared.Shape.{Shape}
use Rattle.table.specs.Layout.{too_heavy}
use Rattle.table.specs.Meaning.{variables_of, row_count, table_sizes, table_rows_in, table_rows, domains}
use Rattle.table.specs.Valid.{valid_table}
use Rattle.table.specs.Check.{full_clause, shape_of}
use Rattle.table.specs.Raws.{row_of, raw_of}
use Rattle.table.specs.TwelveSigns.{full_signs_padded, full-packed-padded}
use Rattle.table.proofs.RawRows as raws
use Rattle.table.proofs.Canonical.{passed, twelve_is_canonical}
use Rattle.table.proofs.Finishing.{valid_count, valid_room, valid_raws, valid_laid}

-- what a valid table of n variables and this many rows is to its readers
pub record Ready (t : List ℕ) (n count : ℕ) : Type 0 where
  pub variables : n ≡ variables_of t
  pub counted : count ≡ row_count t
  pub valid : ValidRows (domains t) (table_rows t)
  pub carried : AllCarried (table_rows t)
  pub light : too_heavy (table_rows t) ≡ false
  pub fulls : FullSigns (full_clause (domains t)) (domains t)
  pub packed : FitsBlocks (full_clause (domains t))
  pub twelve : length (domains t) ≡ 12
  pub raws : raws_in t (n + 2) count ≡ map raw_of (table_rows t)
  pub long : length (table_rows t) ≡ count
  pub room : n + 2 + row_width * count ≤ length t
  pub laid : Laid t (n + 2) (raws_in t (n + 2) count)
  pub few : n ≤ 12

pub ready : (t : List ℕ) → valid_table t ≡ true → Ready t (variables_of t) (row_count t)
unfolding domains
ready t v =
    let h = (twelve_is_canonical t v).holdable in
    record {
      variables = refl;
      counted = refl;
      valid = h.valid;
      carried = holdable_carried h;
      light = h.light;
      fulls = full_signs_padded (table_sizes t) h.few h.sizes;
      packed = full-packed-padded (table_sizes t) h.few h.sizes;
      twelve = padded-length (table_sizes t) h.few;
      raws = valid_raws t v;
      long = valid_count t v;
      room = valid_room t v;
      laid = rw (valid_raws t v) (valid_laid t v);
      few = (passed t v).few;
    }

pub ready_shape : (t : List ℕ) → valid_table t ≡ true → (shape : Shape) → shape ≡ shape_of t → Ready t shape.variables shape.count
ready_shape t v shape e = rw e (ready t v)

-- the row that is read at k
pub row_at : (t : List ℕ) (k : ℕ) → k < row_count t → get_or (table_rows t) k no_row ≡ row_of (raw_at t (variables_of t + 2 + row_width * k))
unfolding table_rows_in
row_at t k h = raws.row_at t (variables_of t + 2) (row_count t) k h

module _ (t : List ℕ) (v : valid_table t ≡ true) (base count : ℕ) (b : base ≡ variables_of t + 2) (n : count ≡ row_count t) where
  pub find_room : base + row_width * count ≤ length t
  find_room = rw (b, n) (ready t v).room

  -- row k's words, and the weight in them
  pub row_room : (k : ℕ) → k < row_count t → base + row_width * k + row_width ≤ length t
  row_room k h = omega (arith, find_room, n)

  pub row_weight : (k : ℕ) → k < row_count t → (w : ℕ) → w ≡ weight_in (raw_at t (base + row_width * k)) → w ≡ (get_or (table_rows t) k no_row).weight
  unfolding table_rows_in
  row_weight k h w p =
      p ∙ ap (λ m. weight_in (raw_at t (m + row_width * k))) b ∙ sym (raws.weight_at_lem t (variables_of t + 2) (row_count t) k h)
