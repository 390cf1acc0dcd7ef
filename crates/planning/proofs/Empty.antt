-- A sheet with no variables: of all that a value can mean, the plan at the sum of the costs is left, and 15 where one forbids.
use Prim.Native.Nat.{ℕ, ◌+◌, ◌≤◌, ◌<◌}
use native.Mathlib.Omega.{arith}
use mathlib.Core.Path.{◌≡◌, refl, sym, ap, subst, ◌∙◌}
use mathlib.Core.Bool.{Bool, true, false, cond}
use mathlib.Core.List.{List, [], ◌∷◌}
use lib.ListN.{length}
use lib.Dec.{eqb}
use borrow.Author.Tests.{leb-true, leb-false}
use Rattle.wcsp.specs.Clause.{nil}
use Rattle.wcsp.specs.Row.{Row, ◌weighted◌}
use Rattle.wcsp.specs.Entry.{cost}
use Rattle.wcsp.specs.Empty.{all_costs}
use Rattle.wcsp.proofs.Empty.{constants_add, encodes_to_one}
use Rattle.fields.specs.Limits.{forbidden_cost}
use Rattle.fields.specs.Forbidden.{has_forbidden}
use Rattle.fields.specs.Entries.{Entries}
use Rattle.fields.proofs.Forbidden.{forbidden_is_dear}
use Rattle.fields.specs.Front.{head_in, headed}
use Rattle.entries.specs.Entries.{entries_fault, scan_word, scan_cost, scan_forbidden, scan_closing, resume}
use Rattle.sheet.specs.Sheet.{leg_count, sheet_stations_fault, sheet_fault, stations_from, positions_of, sheet_sizes}
use Rattle.input.specs.Instance.{instance_fault, sizes_of, entries_of}
use Rattle.input.proofs.Acceptance.{faultless_is_accepted}
use Rattle.rows.specs.Raw.{row_width}
use Rattle.table.specs.Layout.{rows_at, capacity_in, capacity}
use Rattle.littleendian.specs.Words.{words_in}
use Rattle.littleendian.proofs.Writing.{length_words}
use Rattle.making.specs.Made.{made_words}
use Rattle.making.proofs.Reading.{made_accepted}
use Rattle.making.proofs.Empty.{empty_made}
use Rattle.encoding.specs.Calls.{encoded_rows}
use Rattle.checker.specs.Theorems.{Best}
use Rattle.calls.specs.Calls.{Derives}
use Rattle.calls.specs.Demand.{RunEnds, none_left, limit_met, no_room}
use Rattle.calls.proofs.Empty.{none_left_lem, no_steps, best_empty}
use Rattle.planning.specs.Values.{Solved}
use Rattle.planning.specs.Solving.{buffer_words, solved_of}
use Rattle.planning.specs.Theorems.{Room, program_room, RunIn, SheetMeansIn, faulty, long_instance, many_rows, none_allowed, planned, paused, full, MeansIn, too_long, no_words, of_words}
use Rattle.planning.specs.Empty.{EmptySheet, EmptySolved, EmptySolves, EmptyBytes}
use Rattle.planning.proofs.Meaning.{solved_means}

one_at_most : (b : Bool) (r : Row) → length (cond b [] (r ∷ [])) ≤ 1
one_at_most true r = omega arith
one_at_most false r = omega arith

-- without a pair a run is done
must_end : (cap most steps : ℕ) (rs : List Row) (a b : ℕ) → RunEnds [] cap most steps rs a b → b ≡ 0
must_end cap most steps rs a b (none_left e) = refl
must_end cap most steps rs a b (limit_met m pr e) = absurd (none_left_lem rs pr e)
must_end cap most steps rs a b (no_room m pr e f) = absurd (none_left_lem rs pr e)

-- in a room whose table takes a row
module _ (room : Room) (takes : rows_at 0 + row_width ≤ room.table) (sheet : List ℕ) (short : length sheet ≤ room.instance) (fine : sheet_fault sheet ≡ 0)
    (empty : sheet_sizes sheet ≡ []) where
  sizes_none : sizes_of (made_words sheet) ≡ []
  sizes_none = (made_accepted sheet fine).sizes ∙ empty

  own : made_words sheet ≡ sheet
  own = empty_made sheet fine empty

  entries_own : entries_of (made_words sheet) ≡ entries_of sheet
  entries_own = ap entries_of own

  accepted : Entries [] 0 (entries_of sheet)
  accepted =
      subst (λ ds. Entries ds 0 (entries_of sheet)) (ap sizes_of (sym own) ∙ sizes_none)
      (faultless_is_accepted sheet (ap instance_fault (sym own) ∙ (made_accepted sheet fine).accepted)).entries

  cost_all : cost (entries_of sheet) [] ≡ all_costs (entries_of sheet)
  cost_all = constants_add (entries_of sheet) accepted.well_formed

  -- one row at most
  few : length (encoded_rows (made_words sheet)) ≤ capacity room.table (length (sheet_sizes sheet))
  unfolding capacity_in
  few =
      rw (sizes_none, entries_own, empty, encodes_to_one (entries_of sheet) accepted.well_formed)
      (omega (arith, one_at_most (eqb (all_costs (entries_of sheet)) 0) ([] weighted all_costs (entries_of sheet))))

  dear : has_forbidden (entries_of sheet) [] ≡ true → forbidden_cost ≤ all_costs (entries_of sheet)
  dear f = omega (arith, leb-true forbidden_cost (cost (entries_of sheet) []) (forbidden_is_dear [] 0 (entries_of sheet) accepted [] ∙ f), cost_all)

  cheap : has_forbidden (entries_of sheet) [] ≡ false → all_costs (entries_of sheet) < forbidden_cost
  cheap f = omega (arith, leb-false forbidden_cost (cost (entries_of sheet) []) (forbidden_is_dear [] 0 (entries_of sheet) accepted [] ∙ f), cost_all)

  -- a run from the sheet's encoding makes no step, and is done
  none_made : (steps b number field : ℕ) → RunIn room (made_words sheet) steps b number field → (steps ≡ 0) × (field ≡ 0)
  none_made steps b number field r = (
    sym r.made ∙ ap length (no_steps r.words (subst (λ ds. Derives ds (encoded_rows (made_words sheet)) r.words r.rows) sizes_none r.derived)),
    must_end _ _ _ _ _ _ (subst (λ ds. RunEnds ds (capacity room.table (length (sizes_of (made_words sheet)))) room.most steps r.rows number field) sizes_none r.ends),
  )

  solves : (s : Solved) → SheetMeansIn room sheet s → EmptySolved (entries_of sheet) s
  solves _ (faulty k e low high) = absurd (omega arith)
  solves _ (long_instance e h) = absurd (omega (arith, ap length own))
  solves _ (many_rows e h m) = absurd (omega (arith, few))
  solves _ (none_allowed steps b h all r) =
      let d = dear (rw (sizes_none, entries_own) at all [] nil) in
      record { planned = λ l. absurd (omega arith); refused = λ l. refl }
  solves _ (planned plan steps least h best f r) =
      let free : has_forbidden (entries_of sheet) [] ≡ false = rw (entries_own, empty) at f in
      let b : Best [] (entries_of sheet) [] least = rw (sizes_none, entries_own, empty) at best in
      let c = cheap free in
      record {
        planned = λ l. (refl, (none_made steps least 0 0 r).0, (best_empty (entries_of sheet) [] least accepted.well_formed b).1);
        refused = λ l. absurd (omega arith);
      }
  solves _ (paused steps b h n r) = absurd (omega (arith, (none_made steps b 0 1 r).1))
  solves _ (full steps b h n r) = absurd (omega (arith, (none_made steps b 12 2 r).1))

-- and whose instance's buffer takes every sheet
pub bytes_solve : (room : Room) → rows_at 0 + row_width ≤ room.table → buffer_words ≤ room.instance → (bytes : List ℕ) → EmptySheet bytes
    → (s : Solved) → MeansIn room bytes s → EmptySolved (entries_of (words_in bytes)) s
bytes_solve room takes long bytes e _ (too_long h) = absurd (omega (arith, e.short))
bytes_solve room takes long bytes e _ (no_words h n) = absurd (n e.words)
bytes_solve room takes long bytes e _ (of_words s h m means) =
    solves room takes (words_in bytes) (omega (arith, length_words bytes, e.short)) e.fine e.empty s means

pub empty_solves : EmptySolves
empty_solves bytes e = bytes_solve program_room (omega arith) (omega arith) bytes e (solved_of bytes) (solved_means bytes)

pub empty_bytes : EmptyBytes
unfolding words_in sheet_fault head_in headed sheet_stations_fault leg_count entries_fault scan_word scan_cost scan_forbidden scan_closing resume positions_of stations_from sheet_sizes
empty_bytes =
    record {
      nothing = record { short = omega arith; words = refl; fine = refl; empty = refl };
      constants = record { short = omega arith; words = refl; fine = refl; empty = refl };
      forbidden = record { short = omega arith; words = refl; fine = refl; empty = refl };
    }
