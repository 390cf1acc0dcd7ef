-- Where a value of an accepted sheet lies: within the range, and what travelling there costs.
use Prim.Native.Nat.{ℕ, zero, suc, ◌≤◌}
use native.Mathlib.Omega.{arith}
use mathlib.Core.Path.{◌≡◌}
use mathlib.Core.List.{List}
use lib.ListN.{get_or}
use Rattle.distance.specs.Metres.{metres_between}
use Rattle.fields.specs.Entries.{Each, nil_each, cons_each}
use Rattle.sheet.specs.declared.Place.{Place}
use Rattle.sheet.specs.Sheet.{sheet_fault}
use Rattle.sheet.specs.Accepted.{PlacedPoint}
use Rattle.sheet.specs.Places.{point_of}
use Rattle.sheet.specs.Calls.{position_in, travel}
use Rattle.sheet.proofs.Acceptance.{accepted_sheet}

each_at : {A : Type 0} {P : A → Type 0} {xs : List A} {d : A} → Each P xs → P d → (i : ℕ) → P (get_or xs i d)
each_at nil_each h i = h
each_at (cons_each p r) h zero = p
each_at (cons_each p r) h (suc i) = each_at r h i

value_placed : (sheet : List ℕ) (v a : ℕ) → sheet_fault sheet ≡ 0 → PlacedPoint (position_in sheet v a)
unfolding position_in
value_placed sheet v a e =
    each_at (each_at (accepted_sheet sheet e).positions nil_each v) (record { easting = omega arith; northing = omega arith }) a

module _ (sheet : List ℕ) (v a : ℕ) (place : Place) (e : point_of place ≡ position_in sheet v a) where
  pub value_within : sheet_fault sheet ≡ 0 → (place.easting ≤ 2000000) × (place.northing ≤ 2000000)
  value_within f = let p : PlacedPoint (point_of place) = rw e (value_placed sheet v a f) in (p.easting, p.northing)

  pub travel_is : (m east north : ℕ) → m ≡ metres_between east north place.easting place.northing
      → m ≡ travel (record { easting = east; northing = north }) (position_in sheet v a)
  travel_is m east north f = rw (← e) f
