-- The readout call answers the first of its tests that applies.
use Prim.Native.Nat.{ℕ}
use mathlib.Core.Path.{◌≡◌, refl}
use mathlib.Core.Bool.{Bool, true, false, not, ◌&&◌, cond}
use lib.ListN.{length}
use lib.Dec.{eqb, ltb}
use Rattle.fields.specs.Answers.{Answer}
use Rattle.fields.specs.Answers.{refused, good}
use Rattle.fields.specs.Assignment.{is_assignment}
use Rattle.fields.specs.Order.{in_order, first_of}
use Rattle.fields.proofs.Order.{after_faults}
use Rattle.sheet.specs.Sheet.{is_easting, is_northing, sheet_fault, sheet_sizes}
use Rattle.sheet.proofs.Faults.{sheet_small}
use Rattle.readout.specs.Calls.{readout_call}
use Rattle.readout.specs.Order.{ReadoutInOrder}

pub readout_in_order : ReadoutInOrder
unfolding readout_call in_order first_of
readout_in_order sheet plan v easting northing =
    record {
      order = refl;
      decides =
          rw (after_faults f (sheet_small sheet) _)
          (go (eqb f 0) (ltb v (length (sheet_sizes sheet)) && is_easting easting && is_northing northing && is_assignment (sheet_sizes sheet) plan) _);
    }
  where
    f : ℕ
    f = sheet_fault sheet

    go : (fine ok : Bool) (metres : ℕ)
        → ◌≡◌ {A = ℕ} (cond {A = Answer} fine (cond ok (good metres) (refused 8)) (refused f)).number (cond fine (cond (not ok) 8 0) f)
    go true true metres = refl
    go true false metres = refl
    go false ok metres = refl
