-- What the sheet reader's result is as an answer of numbers.
use Rattle.std.specs.Prelude.{length, Result, Ok, Err}
use Rattle.fields.specs.declared.refusals.Fault.{Fault}
use Rattle.fields.specs.Numbers.{fault_number}
use Rattle.fields.specs.Padding.{padded}
use Rattle.sheet.specs.declared.Sheet.{Sheet}
use Rattle.sheet.specs.Calls.{SheetRead, refused_sheet}

abbrev pub read_of : Result Sheet Fault → SheetRead
read_of (Ok s) = record { number = 0; variables = length s.sizes.items; entries_at = s.entries_at; sizes = padded s.sizes.items }
read_of (Err f) = refused_sheet (fault_number f)
