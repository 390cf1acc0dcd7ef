-- The empty row's weight in a valid table, read with twelve signs, against a forbidden entry's.
use Prim.Native.Nat.{ℕ, ◌≤◌, ◌<◌}
use native.Mathlib.Omega.{arith}
use mathlib.Core.Path.{◌≡◌, ◌∙◌}
use mathlib.Core.Bool.{true, false}
use mathlib.Core.List.{List}
use borrow.Author.Tests.{le-leb, lt-leb}
use Rattle.wcsp.specs.Row.{empty_weight}
use Rattle.fields.specs.Limits.{max_variables, forbidden_cost}
use Rattle.table.specs.Meaning.{variables_of, table_rows, own_rows}
use Rattle.table.specs.Valid.{valid_table}
use Rattle.table.proofs.Own.{own_empty}
use Rattle.assignment.specs.Calls.{empty_forbids}

module _ (t : List ℕ) (v : valid_table t ≡ true) (w : ℕ) (e : w ≡ empty_weight max_variables (table_rows t)) where
  own_weight : w ≡ empty_weight (variables_of t) (own_rows t)
  own_weight = e ∙ own_empty t v

  pub forbids : forbidden_cost ≤ w → empty_forbids t ≡ true
  unfolding empty_forbids
  forbids h = le-leb forbidden_cost (empty_weight (variables_of t) (own_rows t)) (omega (arith, own_weight))

  pub forbids_not : w < forbidden_cost → empty_forbids t ≡ false
  unfolding empty_forbids
  forbids_not h = lt-leb forbidden_cost (empty_weight (variables_of t) (own_rows t)) (omega (arith, own_weight))
