-- What the answer of a table's test says: a valid table and its shape, or no valid table.
use Prim.Native.Nat.{ℕ}
use native.Mathlib.Omega.{arith}
use mathlib.Core.Path.{◌≡◌, refl, sym, ap, ◌∙◌}
use mathlib.Core.Bool.{Bool, true, false, cond}
use mathlib.Core.List.{List}
use Rattle.std.specs.Prelude.{Option, Some, None}
use Rattle.table.specs.declared.Shape.{Shape}
use Rattle.table.specs.Form.{TableForm}
use Rattle.table.specs.Raws.{standard_form}
use Rattle.table.specs.Valid.{valid_table_in, valid_table}
use Rattle.table.specs.Check.{shape_of, check_table_in, check_table}

module _ (f : TableForm) (t : List ℕ) (checked : Option Shape) (e : checked ≡ check_table_in f t) where
  pub table_valid_in : (shape : Shape) → checked ≡ Some shape → (valid_table_in f t ≡ true) × (shape ≡ shape_of t)
  unfolding check_table_in
  table_valid_in shape q = go (valid_table_in f t) refl (sym q ∙ e)
    where
      shape_in : Option Shape → Shape
      shape_in (Some s) = s
      shape_in None = shape

      go : (b : Bool) → valid_table_in f t ≡ b → Some shape ≡ cond b (Some (shape_of t)) None → (valid_table_in f t ≡ true) × (shape ≡ shape_of t)
      go true v r = (v, ap shape_in r)
      go false v r = absurd (let z : ◌≡◌ {A = ℕ} 0 1 = cc in omega arith)

  pub table_invalid_in : checked ≡ None → valid_table_in f t ≡ false
  unfolding check_table_in
  table_invalid_in q = go (valid_table_in f t) refl (sym q ∙ e)
    where
      go : (b : Bool) → valid_table_in f t ≡ b → None ≡ cond b (Some (shape_of t)) None → b ≡ false
      go true v r = absurd (let z : ◌≡◌ {A = ℕ} 0 1 = cc in omega arith)
      go false v r = refl

-- ---- in the form of six-word rows

module _ (t : List ℕ) (checked : Option Shape) (e : checked ≡ check_table t) where
  pub table_valid : (shape : Shape) → checked ≡ Some shape → (valid_table t ≡ true) × (shape ≡ shape_of t)
  table_valid = table_valid_in standard_form t checked e

  pub table_invalid : checked ≡ None → valid_table t ≡ false
  table_invalid = table_invalid_in standard_form t checked e
