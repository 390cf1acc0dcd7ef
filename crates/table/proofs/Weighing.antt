-- The empty row's weight is what the search for the empty clause gives: the weight of the row that it finds, 0 if it finds none.
use Prim.Native.Nat.{ℕ, zero, suc, ◌+◌, ◌*◌, ◌<◌, ◌≤◌}
use native.Mathlib.Omega.{arith}
use mathlib.Core.Path.{◌≡◌, sym, ap, ◌∙◌}
use mathlib.Core.Bool.{true}
use mathlib.Core.List.{List, [], ◌∷◌, map}
use lib.ListN.{length, get_or, replicate}
use Rattle.std.specs.Prelude.{Option, Some, None}
use Rattle.wcsp.specs.Row.{Row, weight_of, empty_weight}
use Rattle.wcsp.specs.Resolve.{no_row}
use Rattle.wcsp.proofs.EmptyRow.{weight_of-same, weight_of_other, weight_of_absent}
use Rattle.clause.specs.declared.Clause.{Clause}
use Rattle.clause.specs.Packed.{Holds}
use Rattle.rows.specs.Raw.{row_width, raw_at, raws_in, weight_in, raw_row, find_from}
use Rattle.table.specs.Meaning.{variables_of, row_count, table_rows}
use Rattle.table.specs.Valid.{valid_table}
use Rattle.table.specs.Raws.{raw_of}
use Rattle.table.proofs.Finding.{FirstWith, found_at, found_missing}
use Rattle.table.proofs.Reading.{ready, row_room, row_weight}

first_weight : (c : List ℕ) (rs : List Row) (k : ℕ) → FirstWith c rs k → weight_of c rs ≡ (get_or rs k no_row).weight
first_weight c [] k f = absurd (omega (arith, f.within))
first_weight c (r ∷ rs) zero f = weight_of-same c r rs f.has
first_weight c (r ∷ rs) (suc k) f =
    weight_of_other c r rs (f.before 0 (omega arith))
    ∙ first_weight c rs k (record { within = omega (arith, f.within); has = f.has; before = λ i l. f.before (suc i) (omega arith) })

module _ (t : List ℕ) (v : valid_table t ≡ true) (base count : ℕ) (b : base ≡ variables_of t + 2) (n : count ≡ row_count t) where
  module _ (x : Clause) (h : Holds x (replicate 12 0)) (found : Option ℕ) (e : found ≡ find_from (raw_row x 0) 0 (raws_in t base count)) where
    searched : found ≡ find_from (raw_row x 0) 0 (map raw_of (table_rows t))
    searched = e ∙ ap (find_from (raw_row x 0) 0) (rw (b, n) (ready t v).raws)

    pub no_empty : found ≡ None → 0 ≡ empty_weight 12 (table_rows t)
    unfolding empty_weight
    no_empty q = sym (weight_of_absent (replicate 12 0) (rw h.signs_are at (found_missing x (ready t v).carried (sym searched ∙ q))))

    module _ (k : ℕ) (q : found ≡ Some k) where
      first : FirstWith (replicate 12 0) (table_rows t) k
      first = rw h.signs_are at (found_at x (ready t v).carried k (sym searched ∙ q))

      in_count : k < row_count t
      in_count = omega (arith, first.within, (ready t v).long)

      pub weight_room : base + row_width * k + row_width ≤ length t
      weight_room = row_room t v base count b n k in_count

      pub empty_at : (w : ℕ) → w ≡ weight_in (raw_at t (base + row_width * k)) → w ≡ empty_weight 12 (table_rows t)
      unfolding empty_weight
      empty_at w p =
          row_weight t v base count b n k in_count w p ∙ sym (first_weight (replicate 12 0) (table_rows t) k first)
