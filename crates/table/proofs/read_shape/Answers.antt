-- `read_shape` meets its contract: a valid table's words are where its shape is read.
use Prim.Native.Nat.{ℕ, ◌+◌, ◌≤◌}
use native.Mathlib.Omega.{arith}
use mathlib.Core.Path.{◌≡◌, refl, ap, ◌∙◌}
use mathlib.Core.Bool.{true}
use mathlib.Core.List.{List}
use lib.ListN.{length, get_or, drop}
use Rattle.std.specs.Prelude.{Option}
use Rattle.words.specs.Layout.{payload_of}
use Rattle.clause.specs.declared.Clause.{Clause}
use Rattle.fields.specs.Limits.{max_variables}
use Rattle.table.specs.declared.Shape.{Shape}
use Rattle.table.specs.Layout.{rows_at}
use Rattle.table.specs.Meaning.{table_sizes, domains, row_count}
use Rattle.table.specs.Valid.{valid_table}
use Rattle.table.specs.Check.{fulls_from, fulls_in, shape_of}
use Rattle.table.proofs.Canonical.{passed}
use Rattle.table.proofs.read_shape.Goals as goal

module _ (t : List ℕ) (v : valid_table t ≡ true) (n : ℕ) (e : n ≡ payload_of (get_or t 0 0)) where
  there : (rows_at n ≤ length t) × (n ≤ max_variables)
  there = let p = passed t v in rw e (p.room, p.few)

  shape_is : (count : ℕ) → count ≡ payload_of (get_or t (n + 1) 0) → (read : Option Clause) → read ≡ fulls_from n (drop 1 t) → (fulls : Clause) → fulls ≡ fulls_in read
      → ◌≡◌ {A = Shape} (record { variables = n; count = count; fulls = fulls }) (shape_of t)
  unfolding fulls_from fulls_in domains table_sizes
  shape_is count f read g fulls h =
      let s = (passed t v).stations in
      let c : count ≡ row_count t = f ∙ ap (λ m. payload_of (get_or t (m + 1) 0)) e in
      let r : fulls_in (fulls_from n (drop 1 t)) ≡ (shape_of t).fulls = rw (e, s) in
      let k : fulls ≡ (shape_of t).fulls = h ∙ ap fulls_in g ∙ r in
      λ i. record { variables = e i; count = c i; fulls = k i }

pub bounds-t-0 : goal.bounds-t-0
bounds-t-0 c =
    let h = there c.args.t.now c.requires _ refl in
    omega (arith, h.0)

pub bounds-t-n : goal.bounds-t-n
bounds-t-n c =
    let h = there c.args.t.now c.requires _ c.payload-n.ensures.0 in
    omega (arith, h.0)

pub read_fulls-requires : goal.read_fulls-requires
read_fulls-requires c =
    let h = there c.args.t.now c.requires _ c.payload-n.ensures.0 in
    (omega (arith, h.0), h.1)

pub returns : goal.returns
returns c =
    shape_is c.args.t.now c.requires _ c.payload-n.ensures.0 _ c.payload-count.ensures.0 _ c.read_fulls.ensures _
    c.fulls_in-fulls.ensures
