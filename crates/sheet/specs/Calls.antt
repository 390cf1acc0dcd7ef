-- The calls on sheets: read one, where a value lies, and what going on to another costs. A refusal has its number, its other fields 0.
use Rattle.std.specs.Prelude.{ℕ, ◌-◌, cond, List, [], length, get_or, replicate, eqb}
use Rattle.fields.specs.Limits.{max_variables}
use Rattle.fields.specs.Padding.{padded}
use Rattle.distance.specs.Metres.{metres_between}
use Rattle.sheet.specs.Sheet.{Point, sheet_fault, sheet_sizes, positions_of, entry_words_of}

-- a sheet's number (0: accepted), its variables, the index of its first entry word, and the sizes of twelve variables, those it lacks being 1
pub record SheetRead : Type 0 where
  pub number : ℕ
  pub variables : ℕ
  pub entries_at : ℕ
  pub sizes : List ℕ

abbrev pub refused_sheet : ℕ → SheetRead
refused_sheet k = record { number = k; variables = 0; entries_at = 0; sizes = replicate max_variables 0 }

-- read a sheet: its number of variables, where its entries start, and the sizes of twelve variables
unfoldable pub sheet_call : List ℕ → SheetRead
sheet_call ws =
    let f = sheet_fault ws in
    cond (eqb f 0)
    (record {
      number = 0;
      variables = length (sheet_sizes ws);
      entries_at = length ws - length (entry_words_of ws);
      sizes = padded (sheet_sizes ws);
    })
    (refused_sheet f)

-- the position of a value of an accepted sheet
unfoldable pub position_in : List ℕ → ℕ → ℕ → Point
position_in sheet v a = get_or (get_or (positions_of sheet) v []) a (record { easting = 0; northing = 0 })

-- the cost of going on from one position to another (document 01: a leg's cost): whole metres
abbrev pub travel : Point → Point → ℕ
travel a b = metres_between a.easting a.northing b.easting b.northing
