-- The metres to a variable's value: 0 for the first variable, else the travel from the value of the variable before it.
use Prim.Native.Nat.{ℕ, zero, suc, ◌-◌, ◌<◌}
use native.Mathlib.Omega.{arith}
use mathlib.Core.Path.{◌≡◌, refl, ◌∙◌}
use mathlib.Core.List.{List}
use lib.ListN.{length, get_or}
use Rattle.distance.specs.Metres.{metres_between}
use Rattle.sheet.specs.Sheet.{sheet_fault, sheet_sizes}
use Rattle.sheet.specs.declared.Place.{Place}
use Rattle.sheet.specs.Places.{point_of}
use Rattle.sheet.specs.Calls.{position_in}
use Rattle.listing.specs.Listed.{metres_to}
use Rattle.listing.specs.Plans.{HoldsPlan}

module _ (sheet plan : List ℕ) where
  -- what a position asks: the sheet is accepted, and the value is one of its variable's
  pub asked : HoldsPlan sheet plan → (v a : ℕ) → v < length (sheet_sizes sheet) → a ≡ get_or plan v 0
      → (sheet_fault sheet ≡ 0) × ((v < length (sheet_sizes sheet)) × (a < get_or (sheet_sizes sheet) v 0))
  asked p v a h e = (p.fine, (h, omega (arith, p.values v h)))

  pub first_metres : (v : ℕ) → v ≡ 0 → 0 ≡ metres_to sheet plan v
  unfolding metres_to
  first_metres v e = rw e

  pub next-metres : (v : ℕ) (start stop : Place) (a b m : ℕ) → (v ≡ 0 → ⊥) → a ≡ get_or plan (v - 1) 0 → b ≡ get_or plan v 0
      → point_of start ≡ position_in sheet (v - 1) a → point_of stop ≡ position_in sheet v b
      → m ≡ metres_between start.easting start.northing stop.easting stop.northing → m ≡ metres_to sheet plan v
  unfolding metres_to
  next-metres zero start stop a b m n e f g h k = absurd (n refl)
  next-metres (suc v) start stop a b m n e f g h k =
      let last : suc v - 1 ≡ v = omega arith in
      let from : point_of start ≡ position_in sheet v (get_or plan v 0) = g ∙ rw (e, last) in
      let to : point_of stop ≡ position_in sheet (suc v) (get_or plan (suc v) 0) = rw f at h in
      rw (← from, ← to) k
