-- Valid tables of six-word rows are canonical, and what is written reads back.
use Prim.Native.Nat.{ℕ, ◌+◌, ◌*◌, ◌≤◌}
use mathlib.Core.Path.{◌≡◌}
use mathlib.Core.Bool.{true}
use mathlib.Core.List.{List}
use lib.ListN.{length}
use Rattle.wcsp.specs.Row.{Row}
use Rattle.rows.specs.Raw.{row_width}
use Rattle.rows.proofs.Flat.{row_laws}
use Rattle.table.specs.Raws.{standard_form}
use Rattle.table.specs.Layout.{rows_at, capacity, table_words}
use Rattle.table.specs.Valid.{valid_table}
use Rattle.table.specs.Twelve.{TwelveIsCanonical, TwelveWritten}
use Rattle.table.proofs.RawRows.{table_laws}
use Rattle.table.proofs.FormTables.{ApartIn, PassedIn}
use Rattle.table.proofs.FormTables as forms
pub use Rattle.table.proofs.FormTables.{put_together, take_apart, holdable_carried}

abbrev pub Apart : List ℕ → ℕ → List ℕ → List Row → Type 0
Apart t len ds rs = ApartIn standard_form t len ds rs

abbrev pub Passed : List ℕ → Type 0
Passed t = PassedIn standard_form t

pub passed : (t : List ℕ) → valid_table t ≡ true → Passed t
passed t v = forms.passed standard_form t v

pub room_rows : (len n k : ℕ) → rows_at n ≤ len → k ≤ capacity len n → rows_at n + row_width * k ≤ len
room_rows len n k h l = forms.room_rows standard_form len n k h l

pub length_words : (len : ℕ) (ds : List ℕ) (rs : List Row) → rows_at (length ds) + row_width * length rs ≤ len → length (table_words len ds rs) ≡ len
length_words len ds rs h = forms.length_words standard_form row_laws len ds rs h

pub twelve_is_canonical : TwelveIsCanonical
twelve_is_canonical = forms.twelve_is_canonical standard_form table_laws

pub twelve_written : TwelveWritten
twelve_written = forms.twelve_written standard_form table_laws
