-- What the converter's answer means: which answers are refusals, what a table that was made has, and that there and back is the same bytes.
use Rattle.std.specs.Prelude.{ℕ, ◌+◌, ◌*◌, ◌/◌, ◌<◌, ◌≤◌, ◌≡◌, ◌≢◌, List, [], ◌∷◌, ◌++◌, length, get_or}
use Rattle.fields.specs.Limits.{max_variables}
use Rattle.fields.specs.Entries.{Each}
use Rattle.littleendian.specs.Words.{words_in, bytes_of}
use Rattle.table.specs.Form.{TableForm}
use Rattle.table.specs.Raws.{standard_form}
use Rattle.table.specs.Meaning.{variables_of}
use Rattle.table.specs.Five.{five_form}
use Rattle.conversion.specs.Theorems.{Same}
use Rattle.text.specs.Text.{refused_line}
use Rattle.converter.specs.Converted.{wanted_form, wanted_words, table_in, converted_bytes}

-- ---- the two kinds of answers

-- the first byte of an answer that is a refusal, the letter R; a table begins with its number of stations
abbrev pub letter_r : ℕ
letter_r = 82

-- a table: the answer is as long as was wanted, its first byte is the number of stations, and its words are a valid table of form g with the
-- sizes and the rows of the request's table
pub record Made (f g : TableForm) (bytes answer : List ℕ) : Type 0 where
  pub long : length answer ≡ 4 * wanted_words bytes
  pub first : get_or answer 0 0 ≡ variables_of (words_in answer)
  pub few : get_or answer 0 0 ≤ max_variables
  pub same : Same f g (table_in bytes) (words_in answer)

pub data Answers (bytes answer : List ℕ) : Type 0 where
  refuses : (k : ℕ) → k ≢ 0 → answer ≡ refused_line k → get_or answer 0 0 ≡ letter_r → Answers bytes answer
  makes_six : wanted_form bytes ≡ 6 → Made five_form standard_form bytes answer → Answers bytes answer
  makes_five : wanted_form bytes ≡ 5 → Made standard_form five_form bytes answer → Answers bytes answer

-- for all bytes, one of the three; the first byte tells a refusal from a table
abbrev pub ConvertedMeans : Type 0
ConvertedMeans = (bytes : List ℕ) → Answers bytes (converted_bytes bytes)

-- ---- there and back

-- the bytes of a request: a form, the target's length in words, and a file
abbrev pub request : ℕ → ℕ → List ℕ → List ℕ
request form words file = bytes_of ((form * 268435456 + words) ∷ []) ++ file

-- a file that was converted to one form, and the answer to the other in a file as long as it was, is the file
abbrev pub RestoredFrom : ℕ → ℕ → Type 0
RestoredFrom there back =
    (file : List ℕ) (words : ℕ) → Each (λ b. b < 256) file → words < 268435456
    → get_or (converted_bytes (request there words file)) 0 0 ≢ letter_r
    → converted_bytes (request back (length file / 4) (converted_bytes (request there words file))) ≡ file

pub record ThereAndBack : Type 0 where
  pub six_and_back : RestoredFrom 6 5
  pub five_and_back : RestoredFrom 5 6
