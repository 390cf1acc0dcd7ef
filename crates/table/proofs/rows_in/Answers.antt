-- `rows_in` answers the lesser of 4,096 and the rows that the words behind the front take.
use Prim.Native.Nat.{ℕ, ◌-◌, ◌/◌, ◌≤◌, ◌<◌, min}
use native.Mathlib.Omega.{arith}
use mathlib.Core.Path.{◌≡◌, refl, ap, ◌∙◌}
use Rattle.table.specs.Layout.{max_rows, rows_at}
use Rattle.table.proofs.rows_in.Goals as goal

module _ (len n width rows : ℕ) (e : rows ≡ (len - n - 2) / width) where
  behind : rows ≡ (len - rows_at n) / width
  behind = e ∙ ap (λ m. m / width) (let z : len - n - 2 ≡ len - rows_at n = omega arith in z)

  most : max_rows < rows → (max_rows ≡ min max_rows ((len - rows_at n) / width)) × (max_rows ≤ max_rows)
  most h = (omega (arith, behind), omega arith)

  few : rows ≤ max_rows → (rows ≡ min max_rows ((len - rows_at n) / width)) × (rows ≤ max_rows)
  few h = (omega (arith, behind), h)

pub returns-then-rows-gt-MAX_ROWS : goal.returns-then-rows-gt-MAX_ROWS
returns-then-rows-gt-MAX_ROWS c = most c.args.len c.args.n c.args.width _ refl (omega arith)

pub returns : goal.returns
returns c = few c.args.len c.args.n c.args.width _ refl (omega arith)
