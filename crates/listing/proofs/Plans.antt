-- An assignment of an accepted sheet's sizes holds a value of every variable; and the sheet's first word, if it has one, is its number of variables.
use Prim.Native.Nat.{ℕ, ◌≤◌, ◌<◌}
use native.Mathlib.Omega.{arith}
use mathlib.Core.Path.{◌≡◌, refl, sym}
use mathlib.Core.List.{List, [], ◌∷◌}
use lib.ListN.{length, get_or, take, length-take}
use lib.Seq.{get_or-take}
use Rattle.wcsp.specs.Clause.{InRange}
use Rattle.wcsp.proofs.Lists.{along_length, along_at}
use Rattle.words.specs.Layout.{payload_of}
use Rattle.sheet.proofs.Acceptance.{accepted_sheet}
use Rattle.sheet.specs.Sheet.{sheet_fault, sheet_sizes}
use Rattle.listing.specs.Plans.{HoldsPlan}

module _ (sheet plan : List ℕ) (fine : sheet_fault sheet ≡ 0) (within : InRange (sheet_sizes sheet) (take (length (sheet_sizes sheet)) plan)) where
  value_in : (v : ℕ) → v < length (sheet_sizes sheet) → get_or plan v 0 < get_or (sheet_sizes sheet) v 0
  value_in v h = let below = along_at within v h in rw (get_or-take (length (sheet_sizes sheet)) plan v 0 h) at below

  pub range_holds : HoldsPlan sheet plan
  range_holds =
      let few = along_length within in
      record { fine = fine; long = omega (arith, length-take (length (sheet_sizes sheet)) plan); values = value_in }

pub variables_read : (sheet : List ℕ) → sheet_fault sheet ≡ 0
    → (payload_of (get_or sheet 0 0) ≡ length (sheet_sizes sheet)) × (length (sheet_sizes sheet) ≤ 12)
variables_read sheet fine =
    let a = accepted_sheet sheet fine in
    (sym a.head, a.sizes.most)

-- no words have no head, and the word in its place is taken to be 0
pub variables_none : (sheet : List ℕ) → length sheet ≡ 0 → 0 ≡ payload_of (get_or sheet 0 0)
variables_none [] e = refl
variables_none (w ∷ ws) e = absurd (omega arith)
