-- A season's bytes taken one by one (document 02, wish 1): the length of a sheet, four bytes as a plain little-endian word; the sheet's bytes, kept in
-- a buffer; or bytes that are passed over.
use Rattle.std.specs.Prelude.{ℕ, ◌+◌, ◌*◌, ◌-◌, Bool, false, cond, ◌&&◌, List, set, eqb, ltb, leb}
use Rattle.littleendian.specs.Words.{word_at}
use Rattle.cutting.specs.declared.Phase.{Phase}
use Rattle.cutting.specs.declared.Found.{Found}

-- the longest sheet that is planned, in words
abbrev pub longest_sheet : ℕ
longest_sheet = 16000

-- a phase, the buffer, and what came to its end
pub record Cut : Type 0 where
  pub phase : Phase
  pub body : List ℕ
  pub found : Found

-- behind a length of so many words: a sheet of none has come too; too many are passed over
unfoldable pub opened : ℕ → List ℕ → Cut
opened words body =
    cond (eqb words 0) (record { phase = Phase.Length 0; body = body; found = Found.Sheet 0 })
    (cond (ltb longest_sheet words) (record { phase = Phase.Passing (4 * words); body = body; found = Found.Length })
    (record { phase = Phase.Body 0 (4 * words); body = body; found = Found.Length }))

-- one byte taken; those of a length are kept in front of the buffer as a sheet's are
unfoldable pub byte_cut : Phase → List ℕ → ℕ → Cut
byte_cut (Phase.Length at) body b =
    let filled = set body at b in
    cond (eqb (at + 1) 4) (opened (word_at filled 0) filled) (record { phase = Phase.Length (at + 1); body = filled; found = Found.Nothing })
byte_cut (Phase.Body at end) body b =
    let filled = set body at b in
    cond (eqb (at + 1) end) (record { phase = Phase.Length 0; body = filled; found = Found.Sheet end })
    (record { phase = Phase.Body (at + 1) end; body = filled; found = Found.Nothing })
byte_cut (Phase.Passing left) body b =
    cond (eqb left 1) (record { phase = Phase.Length 0; body = body; found = Found.PassedOver })
    (record { phase = Phase.Passing (left - 1); body = body; found = Found.Nothing })
byte_cut Phase.Over body b = record { phase = Phase.Over; body = body; found = Found.Nothing }

-- the phases that take a byte: fewer bytes than a length has, fewer than a sheet of at most 64,000 has, or some left to pass over
unfoldable pub takes_in : Phase → Bool
takes_in (Phase.Length at) = ltb at 4
takes_in (Phase.Body at end) = ltb at end && leb end (4 * longest_sheet)
takes_in (Phase.Passing left) = ltb 0 left
takes_in Phase.Over = false

-- and the buffer has room for the longest sheet
abbrev pub takes_byte : Phase → ℕ → Bool
takes_byte phase room = leb (4 * longest_sheet) room && takes_in phase

-- how many bytes there are to the end of a phase
unfoldable pub wanted_in : Phase → ℕ
wanted_in (Phase.Length at) = 4 - at
wanted_in (Phase.Body at end) = end - at
wanted_in (Phase.Passing left) = left
wanted_in Phase.Over = 0
