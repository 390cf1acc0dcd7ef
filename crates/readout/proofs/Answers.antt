-- The readout's answer after each of its tests, in the call's order; the facts that the later calls ask for come with the tests passed.
use Prim.Native.Nat.{ℕ, ◌≤◌, ◌<◌}
use native.Mathlib.Omega.{arith}
use mathlib.Core.Path.{◌≡◌, sym, ap, ◌∙◌}
use mathlib.Core.Bool.{Bool, true, false}
use mathlib.Core.List.{List}
use lib.ListN.{length, get_or}
use borrow.Author.Tests.{lt-ltb, le-ltb, ne_eqb}
use Rattle.wcsp.specs.Clause.{InRange}
use Rattle.wcsp.proofs.Lists.{along_length, along_at}
use Rattle.std.specs.Prelude.{Option, Some, None}
use Rattle.fields.specs.Assignment.{is_assignment}
use Rattle.fields.specs.Answers.{refused, good}
use Rattle.fields.proofs.Assigning.{in_range_of}
use Rattle.distance.specs.Metres.{max_offset}
use Rattle.fields.specs.Numbers.{fault_number}
use Rattle.fields.specs.declared.refusals.Fault.{Fault}
use Rattle.sheet.specs.Sheet.{coordinate_in, sheet_fault, sheet_sizes}
use Rattle.sheet.specs.Calls.{position_in, travel}
use Rattle.sheet.proofs.Coordinates.{place_found, place_missed}
use Rattle.sheet.proofs.Sheets.{fault_some}
use Rattle.readout.specs.Calls.{readout_call}

module _ (sheet plan : List ℕ) (v easting northing : ℕ) where
  pub sheet_refused : (f : Fault) → fault_number f ≡ sheet_fault sheet → refused (fault_number f) ≡ readout_call sheet plan v easting northing
  unfolding readout_call
  sheet_refused f e = rw (← e, ne_eqb (fault_number f) 0 (fault_some f))

  -- the sheet is accepted, and has these sizes
  module _ (fine : sheet_fault sheet ≡ 0) (sizes : List ℕ) (d : sizes ≡ sheet_sizes sheet) where
    number : length sizes ≡ length (sheet_sizes sheet)
    number = ap length d

    pub no_variable : length sizes ≤ v → refused 8 ≡ readout_call sheet plan v easting northing
    unfolding readout_call
    no_variable h = rw (fine, le-ltb v (length (sheet_sizes sheet)) (omega (arith, number)))

    -- it has the variable
    module _ (h : v < length sizes) (q : Option ℕ) (e : q ≡ coordinate_in 8 easting) where
      inside : v < length (sheet_sizes sheet)
      inside = omega (arith, number)

      pub no_east : q ≡ None → refused 8 ≡ readout_call sheet plan v easting northing
      unfolding readout_call
      no_east o = rw (fine, lt-ltb v (length (sheet_sizes sheet)) inside, (place_missed 8 easting q e o).0)

      -- the easting is good
      module _ (east : ℕ) (f : q ≡ Some east) (q' : Option ℕ) (e' : q' ≡ coordinate_in 9 northing) where
        pub no_north : q' ≡ None → refused 8 ≡ readout_call sheet plan v easting northing
        unfolding readout_call
        no_north o =
            let x = place_found 8 easting q e east f in
            rw (fine, lt-ltb v (length (sheet_sizes sheet)) inside, x.0, (place_missed 9 northing q' e' o).0)

        -- the northing is good
        module _ (north : ℕ) (f' : q' ≡ Some north) (b : Bool) (t : b ≡ is_assignment sizes plan) where
          tested : is_assignment (sheet_sizes sheet) plan ≡ b
          tested = sym (t ∙ ap (λ ds. is_assignment ds plan) d)

          pub no_assignment : b ≡ false → refused 8 ≡ readout_call sheet plan v easting northing
          unfolding readout_call
          no_assignment s =
              let x = place_found 8 easting q e east f in
              let y = place_found 9 northing q' e' north f' in
              rw (fine, lt-ltb v (length (sheet_sizes sheet)) inside, x.0, y.0, tested, s)

          -- the bytes are an assignment
          module _ (s : b ≡ true) where
            chosen : InRange (sheet_sizes sheet) plan
            chosen = in_range_of (sheet_sizes sheet) plan (tested ∙ s)

            pub value_inside : v < length plan
            value_inside = omega (arith, along_length chosen, inside)

            pub asked : (sheet_fault sheet ≡ 0)
                × (((v < length (sheet_sizes sheet)) × (get_or plan v 0 < get_or (sheet_sizes sheet) v 0)) × ((east ≤ max_offset) × (north ≤ max_offset)))
            asked =
                let x = place_found 8 easting q e east f in
                let y = place_found 9 northing q' e' north f' in
                (fine, ((inside, along_at chosen v inside), (x.2, y.2)))

            pub metres_read : (m : ℕ) → m ≡ travel (record { easting = east; northing = north }) (position_in sheet v (get_or plan v 0))
                → good m ≡ readout_call sheet plan v easting northing
            unfolding readout_call
            metres_read m k =
                let x = place_found 8 easting q e east f in
                let y = place_found 9 northing q' e' north f' in
                rw (fine, lt-ltb v (length (sheet_sizes sheet)) inside, x.0, y.0, tested, s, ← x.1, ← y.1, ← k)
