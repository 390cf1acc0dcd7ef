-- No variable lies below 0.
use native.Mathlib.Omega.{arith}
use mathlib.Core.Path.{refl}
use borrow.Author.Tests.{eq-eqb, le-ltb}
use Rattle.fields.specs.Front.{head_in, headed}
use Rattle.entries.specs.Entries.{entries_fault}
use Rattle.sheet.specs.Sheet.{sheet_stations_fault, sheet_fault, stations_from, positions_of, sheet_sizes}
use Rattle.readout.specs.Calls.{readout_call}
use Rattle.readout.specs.Empty.{NothingToReadOut, EmptySheets}

pub nothing_to_read_out : NothingToReadOut
unfolding readout_call
nothing_to_read_out sheet plan v easting northing fine none = rw (eq-eqb (sheet_fault sheet) 0 fine, none, le-ltb v 0 (omega arith))

pub empty_sheets : EmptySheets
unfolding sheet_fault head_in headed sheet_stations_fault entries_fault positions_of stations_from sheet_sizes
empty_sheets = record { nothing = (refl, refl); head = (refl, refl) }
