-- What the converter answers. A request is one word, the form wanted in its top four bits (6 or 5, the words to a row) and the target's length
-- in words in the low 28, and then the words of a table in the other form. The answer is the bytes of the target or the line of a refusal.
use Rattle.std.specs.Prelude.{ℕ, ◌+◌, ◌*◌, ◌%◌, not, cond, List, [], ◌∷◌, length, drop, replicate, eqb, ltb}
use Rattle.converter.specs.declared.Form.{Form}
use Rattle.converter.specs.declared.Form.TheVariants.{Five, Six}
use Rattle.words.specs.Layout.{kind_of, payload_of}
use Rattle.fields.specs.Limits.{max_variables, between}
use Rattle.fields.specs.Order.{◌if◌, first_of}
use Rattle.littleendian.specs.Words.{words_in, word_at, bytes_of}
use Rattle.text.specs.Text.{refused_line}
use Rattle.rows.specs.Raw.{row_width}
use Rattle.table.specs.Layout.{max_rows, rows_at}
use Rattle.conversion.specs.Calls.{ConvertReturned, to_six_call, to_five_call}

-- the words of the longest table, 24,590, and the bytes of the longest request
abbrev pub most_words : ℕ
most_words = rows_at max_variables + row_width * max_rows

abbrev pub most_bytes : ℕ
most_bytes = 4 + 4 * most_words

-- the words to a row of a form
abbrev pub form_number : Form → ℕ
form_number Five = 5
form_number Six = 6

-- the parts of a request
abbrev pub wanted_form : List ℕ → ℕ
wanted_form bytes = kind_of (word_at bytes 0)

abbrev pub wanted_words : List ℕ → ℕ
wanted_words bytes = payload_of (word_at bytes 0)

abbrev pub table_in : List ℕ → List ℕ
table_in bytes = words_in (drop 4 bytes)

-- what is wrong with a request, before its table is looked at: 10, above the limit; 9, no whole words, no first word, or no form; 10, a target
-- above the limit
unfoldable pub request_fault : List ℕ → ℕ
request_fault bytes =
    first_of (10 if ltb most_bytes (length bytes)
    ∷ 9 if not (eqb (length bytes % 4) 0)
    ∷ 9 if eqb (length bytes) 0
    ∷ 9 if not (between 5 (wanted_form bytes) 6)
    ∷ 10 if ltb most_words (wanted_words bytes)
    ∷ [])

-- the call that makes a form
unfoldable pub converted_in : ℕ → List ℕ → List ℕ → ConvertReturned
converted_in form source target = cond (eqb form 6) (to_six_call source target) (to_five_call source target)

-- the bytes of the target for a good answer, the line of its number for a refusal
unfoldable pub answer_bytes : ConvertReturned → List ℕ
answer_bytes c = cond (eqb c.answer.number 0) (bytes_of c.target) (refused_line c.answer.number)

-- a table in a form, in a target of so many words
abbrev pub table_bytes : ℕ → ℕ → List ℕ → List ℕ
table_bytes form words source = answer_bytes (converted_in form source (replicate words 0))

unfoldable pub converted_bytes : List ℕ → List ℕ
converted_bytes bytes =
    let k = request_fault bytes in
    cond (eqb k 0) (table_bytes (wanted_form bytes) (wanted_words bytes) (table_in bytes)) (refused_line k)
