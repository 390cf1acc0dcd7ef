-- The rows of a table of six-word rows, and what each says.
use Prim.Native.Nat.{ℕ, zero, suc, ◌+◌, ◌*◌, ◌<◌, ◌≤◌}
use mathlib.Core.Path.{◌≡◌, ap, ◌∙◌}
use mathlib.Core.List.{List, [], ◌∷◌, map}
use lib.ListN.{length, get_or, drop}
use Rattle.wcsp.specs.Row.{Row}
use Rattle.wcsp.specs.Resolve.{no_row}
use Rattle.clause.specs.Packed.{signs_of}
use Rattle.rows.specs.Raw.{row_width, max_weight, no_raw, raw_at, weight_in, clause_in}
use Rattle.rows.proofs.RowWords.{weight_raw_row, weight_none}
use Rattle.table.specs.Clauses.{clause_from}
use Rattle.table.specs.Raws.{row_of, raw_of, standard_form}
use Rattle.table.specs.Meaning.{rows_from}
use Rattle.table.specs.Carried.{AllCarried}
use Rattle.table.proofs.FormRows as forms
pub use Rattle.table.specs.SixLaws.{row_of_signs, row_of_weight, signs_front, row_of-raw_of, table_laws}

-- ---- so the rows of a table

pub length-rows_from : (k : ℕ) (ws : List ℕ) → length (rows_from k ws) ≡ k
length-rows_from k ws = forms.length-rows_from standard_form k ws

pub rows_raws : {rs : List Row} → AllCarried rs → map row_of (map raw_of rs) ≡ rs
rows_raws h = forms.rows_raws standard_form table_laws h

pub carried_rows_from : (k : ℕ) (ws : List ℕ) → AllCarried (rows_from k ws)
carried_rows_from k ws = forms.carried_rows_from standard_form table_laws k ws

-- the weight of a row and of the raw row that carries it; past the last both are 0
pub weight_raws : (rs : List Row) (k : ℕ) → (get_or rs k no_row).weight ≤ max_weight → weight_in (get_or (map raw_of rs) k no_raw) ≡ (get_or rs k no_row).weight
weight_raws [] k h = weight_none
weight_raws (r ∷ rs) zero h = weight_raw_row (clause_from r.signs) r.weight h
weight_raws (r ∷ rs) (suc k) h = weight_raws rs k h

-- row k of a table
module _ (t : List ℕ) (base count k : ℕ) (h : k < count) where
  pub row_at : get_or (rows_from count (drop base t)) k no_row ≡ row_of (raw_at t (base + row_width * k))
  row_at = forms.row_at standard_form table_laws t base count k h

  pub signs_at_lem : (get_or (rows_from count (drop base t)) k no_row).signs ≡ signs_of (clause_in (raw_at t (base + row_width * k)))
  signs_at_lem = ap (λ (r : Row). r.signs) row_at ∙ row_of_signs (raw_at t (base + row_width * k))

  pub weight_at_lem : (get_or (rows_from count (drop base t)) k no_row).weight ≡ weight_in (raw_at t (base + row_width * k))
  weight_at_lem = ap (λ (r : Row). r.weight) row_at ∙ row_of_weight (raw_at t (base + row_width * k))
