-- Whether a pair is left in a valid table: the hunt over its words finds what the definition finds among its own rows.
use Prim.Native.Nat.{ℕ, ◌+◌, ◌-◌, ◌*◌, ◌≤◌}
use native.Mathlib.Omega.{arith}
use mathlib.Core.Path.{◌≡◌, refl, sym, ap, ◌∙◌}
use mathlib.Core.List.{List}
use mathlib.Core.Option as math
use Rattle.std.specs.Prelude.{Option, is_some, true}
use lib.ListN.{length, drop}
use Rattle.wcsp.specs.Resolve.{Pair, pair_from}
use Rattle.wcsp.proofs.Unsettled.{hunt_from}
use Rattle.clause.specs.Packed.{FitsBlocks}
use Rattle.rows.specs.Raw.{row_width}
use Rattle.table.specs.declared.Shape.{Shape}
use Rattle.table.specs.Meaning.{rows_from, table_rows, domains}
use Rattle.table.specs.Valid.{valid_table}
use Rattle.table.specs.Check.{shape_of}
use Rattle.table.proofs.Own.{own_next}
use Rattle.hunt.specs.declared.Next.{Next}
use Rattle.hunt.specs.Hunt.{hunted_of}
use Rattle.hunt.proofs.Climbing as climbing
use Rattle.assignment.specs.Order.{is_left, table_pair}
use Rattle.assignment.proofs.Tables.{rows_valid_lem, rows_within, rows_are, fulls_are, fulls_packed}

-- what a hunt's answer says of whether a pair is left
some_left : (o : math.Option Pair) → is_some (hunted_of 0 o) ≡ is_left o
unfolding hunted_of is_left
some_left math.none = refl
some_left (math.some pr) = refl

module _ (t : List ℕ) (v : valid_table t ≡ true) (shape : Shape) (s : shape ≡ shape_of t) where
  rows : rows_from shape.count (drop (shape.variables + 2) t) ≡ table_rows t
  rows = rows_are t v shape s

  pub may_hunt : (shape.variables + 2 + row_width * shape.count ≤ length t) × FitsBlocks shape.fulls
  may_hunt = (rows_within t v shape s, fulls_packed t v shape s)

  module _ (found : Option Next)
      (sought : climbing.Over t (shape.variables + 2) shape.count 0 0 0 shape.fulls
      (λ ds. found ≡ hunted_of 0 (pair_from ds (length ds - 0) 0 (rows_from shape.count (drop (shape.variables + 2) t))))) where
    hunted : hunted_of 0 (table_pair t) ≡ found
    hunted =
        sym
        (sought (domains t)
        (fulls_are t v shape s)
        (rw rows (rows_valid_lem t v))
        (omega arith, omega arith, λ k l a. absurd (omega arith), λ l a b. absurd (omega arith))
        ∙ ap (λ rs. hunted_of 0 (pair_from (domains t) (length (domains t) - 0) 0 rs)) rows
        ∙ ap (hunted_of 0) (hunt_from (domains t) (table_rows t) (table_rows t) 0 (omega arith) refl ∙ own_next t v))

    pub found_left : is_some found ≡ is_left (table_pair t)
    found_left = ap is_some (sym hunted) ∙ some_left (table_pair t)

-- the same, by the shape that the table has
pub left_at : (t : List ℕ) (found : Option Next) → valid_table t ≡ true
    → climbing.Over t ((shape_of t).variables + 2) (shape_of t).count 0 0 0 (shape_of t).fulls
    (λ ds. found ≡ hunted_of 0 (pair_from ds (length ds - 0) 0 (rows_from (shape_of t).count (drop ((shape_of t).variables + 2) t))))
    → is_left (table_pair t) ≡ is_some found
left_at t found v sought = sym (found_left t v (shape_of t) refl found sought)
