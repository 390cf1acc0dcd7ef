-- Inner: what a scan of entries' words answers in code, the state behind a word or a fault; no statement for users rests on it.
use Rattle.std.specs.Prelude.{ℕ, cond, Result, Ok, Err, eqb}
use Rattle.fields.specs.declared.refusals.Fault.{Fault}
use Rattle.fields.specs.declared.refusals.Fault.TheVariants.{BadEntry}
use Rattle.fields.specs.Numbers.{fault_number}
use Rattle.entries.specs.declared.Scan.{Scan}
use Rattle.entries.specs.Entries.{Scanned, goes, stops}

-- what a result says of a scan and where it is behind a word: it goes on from there, or stops at the number of the fault
abbrev pub scanned_at : {T : Type 0} → Scan → Result T Fault → Scanned
scanned_at s (Ok _) = goes s.from s.count
scanned_at s (Err f) = stops (fault_number f)

-- where the words end: the number of entries, or a fault inside an entry
abbrev pub scan_end : Scan → Result ℕ Fault
scan_end s = cond (eqb s.from 0) (Ok s.count) (Err BadEntry)
