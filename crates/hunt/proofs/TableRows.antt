-- The rows of a table one by one: the row at a place has the signs of the clause that its words hold there, and there are as many as are counted.
use Prim.Native.Nat.{ℕ, ◌+◌, ◌*◌, ◌<◌}
use native.Mathlib.Omega.{arith}
use mathlib.Core.Path.{◌≡◌, sym, ap, ◌∙◌}
use mathlib.Core.List.{List, map}
use lib.ListN.{length, drop, length-map}
use Rattle.wcsp.specs.Sign.{full}
use Rattle.wcsp.specs.Clause.{ValidClause}
use Rattle.wcsp.specs.Row.{Row, ValidRows}
use Rattle.wcsp.proofs.Validity.{valid_signs_lem}
use Rattle.wcsp.proofs.PairSearch.{signs_at}
use Rattle.clause.specs.declared.Clause.{Clause}
use Rattle.clause.specs.Packed.{signs_of, FullSigns}
use Rattle.clause.proofs.Signs12.{signs_of-length}
use Rattle.rows.specs.Raw.{row_width, raw_at, clause_in}
use Rattle.table.specs.Meaning.{rows_from}
use Rattle.table.proofs.RawRows.{signs_at_lem, length-rows_from}

abbrev pub rows_in : List ℕ → ℕ → ℕ → List Row
rows_in t base count = rows_from count (drop base t)

module _ (t : List ℕ) (base count j : ℕ) (h : j < count) where
  pub in_rows : j < length (rows_in t base count)
  in_rows = omega (arith, length-rows_from count (drop base t))

  -- y is the clause that was read at row j
  module _ (y : Clause) (e : y ≡ clause_in (raw_at t (base + row_width * j))) where
    pub signs_read : signs_at (rows_in t base count) j ≡ signs_of y
    signs_read = signs_at_lem t base count j h ∙ ap signs_of (sym e)

    pub valid_read : (ds : List ℕ) → ValidRows ds (rows_in t base count) → ValidClause ds (signs_of y)
    valid_read ds r = rw signs_read at (valid_signs_lem j r in_rows)

-- twelve full signs are those of twelve sizes
pub twelve_sizes : (f : Clause) (ds : List ℕ) → FullSigns f ds → length ds ≡ 12
twelve_sizes f ds e =
    let m : length (map full ds) ≡ length ds = length-map ds full in
    let s : length (signs_of f) ≡ 12 = signs_of-length f in
    let l : length (signs_of f) ≡ length (map full ds) = ap length e in
    omega arith
