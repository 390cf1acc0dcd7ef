-- Inner: what the rows of a form owe, so that the code which reads the sign words of a row reads its signs, whatever stands behind them.
use Prim.Native.Nat.{ℕ, ◌≤◌}
use mathlib.Core.Path.{◌≡◌}
use mathlib.Core.List.{List}
use Rattle.clause.specs.Packed.{signs_of}
use Rattle.rows.specs.Raw.{raw_at, clause_in}
use Rattle.table.specs.Form.{TableForm}

pub record SignLaws (f : TableForm) : Type 0 where
  -- as many words as the sign words at least; and the signs of a row are those of its sign words, whatever the words' kinds
  pub wide : 4 ≤ f.rows.width
  pub signs : (t : List ℕ) (at : ℕ) → (f.row_of (f.rows.read t at)).signs ≡ signs_of (clause_in (raw_at t at))
