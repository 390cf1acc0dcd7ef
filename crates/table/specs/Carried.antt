-- Inner: rows that raw rows can carry: twelve signs, each a byte, and a weight up to the limit of their form. The rows of valid tables are.
use Prim.Native.Nat.{ℕ, zero, suc, ◌≤◌}
use native.Mathlib.Omega.{arith}
use mathlib.Core.Path.{◌≡◌, refl}
use mathlib.Core.Bool.{false}
use mathlib.Core.List.{List, [], ◌∷◌}
use lib.ListN.{length, get_or}
use lib.Dec.{ltb}
use borrow.Author.Tests.{ltb-false, le-ltb}
use Rattle.wcsp.specs.Row.{Row, heavy, ValidRows, nil_rows, cons_rows}
use Rattle.wcsp.specs.Resolve.{no_row}
use Rattle.wcsp.proofs.Lists.{or_left, or_right}
use Rattle.fields.specs.Entries.{EachSize}
use Rattle.rows.specs.Raw.{max_weight}
use Rattle.table.specs.TwelveSigns.{Twelve, twelve_valid}

pub record CarriedIn (limit : ℕ) (r : Row) : Type 0 where
  pub twelve : Twelve r.signs
  pub light : r.weight ≤ limit

pub data AllCarriedIn (limit : ℕ) : List Row → Type 0 where
  nil_carried : AllCarriedIn limit []
  cons_carried : {r : Row} {rs : List Row} → CarriedIn limit r → AllCarriedIn limit rs → AllCarriedIn limit (r ∷ rs)

-- in the form of six-word rows
abbrev pub Carried : Row → Type 0
Carried r = CarriedIn max_weight r

abbrev pub AllCarried : List Row → Type 0
AllCarried rs = AllCarriedIn max_weight rs

-- past the last row the weight is 0
pub carried_weight : {limit : ℕ} {rs : List Row} → AllCarriedIn limit rs → (k : ℕ) → (get_or rs k no_row).weight ≤ limit
carried_weight nil_carried k = omega arith
carried_weight (cons_carried h t) zero = h.light
carried_weight (cons_carried h t) (suc k) = carried_weight t k

pub carried_valid : {limit : ℕ} {ds : List ℕ} {rs : List Row} → length ds ≡ 12 → EachSize ds → ValidRows ds rs → heavy limit rs ≡ false → AllCarriedIn limit rs
unfolding heavy
carried_valid h s nil_rows e = nil_carried
carried_valid {limit} {ds} h s (cons_rows {r = r} {rs = rs} v p a t) e =
    cons_carried {r = r} (record { twelve = twelve_valid ds h s v; light = ltb-false limit r.weight (or_left (ltb limit r.weight) (heavy limit rs) e) })
    (carried_valid h s t (or_right (ltb limit r.weight) (heavy limit rs) e))

pub carried_light : {limit : ℕ} {rs : List Row} → AllCarriedIn limit rs → heavy limit rs ≡ false
unfolding heavy
carried_light nil_carried = refl
carried_light {limit} (cons_carried {r = r} h t) = rw (le-ltb limit r.weight h.light) (carried_light t)
