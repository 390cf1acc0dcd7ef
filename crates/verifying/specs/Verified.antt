-- The text that is printed for a sheet's bytes and a certificate's bytes: ACCEPTED with cost, steps and the assignment's lines, or REFUSED and a number.
-- 1 to 5 speak of the sheet, 6 and 7 of the certificate.
use Rattle.std.specs.Prelude.{ℕ, ◌+◌, ◌*◌, ◌%◌, cond, List, ◌++◌, length, take, drop, replicate, eqb, ltb}
use Rattle.fields.specs.Limits.{max_variables}
use Rattle.littleendian.specs.Words.{words_in, word_at}
use Rattle.rows.specs.Raw.{row_width}
use Rattle.table.specs.Layout.{max_rows, rows_at}
use Rattle.making.specs.Made.{made_words}
use Rattle.making.specs.Calls.{make_call}
use Rattle.checker.specs.Answer.{CheckAnswer}
use Rattle.checker.specs.Calls.{check_call}
use Rattle.certificate.specs.Certificate.{stated_plan, stated_cost, stated_derivation, has_claim}
use Rattle.text.specs.Text.{refused_line, accepted_head}
use Rattle.listing.specs.Listed.{assignment_lines}

-- the most words of a sheet and of its instance (document 01: the program's buffers); of a derivation, and of a certificate; the words of the work
-- table, which takes 4,096 rows over twelve variables
abbrev pub sheet_words : ℕ
sheet_words = 16000

abbrev pub most_derivation : ℕ
most_derivation = 200000

abbrev pub certificate_room : ℕ
certificate_room = max_variables + 3 + most_derivation

abbrev pub work_words : ℕ
work_words = rows_at max_variables + row_width * max_rows

-- ---- the verdict

-- bytes that are to be at most so many words: 10 if they are more, else a given number if they are no whole words
unfoldable pub length_fault : ℕ → ℕ → List ℕ → ℕ
length_fault most odd bytes = cond (ltb (4 * most) (length bytes)) 10 (cond (eqb (length bytes % 4) 0) 0 odd)

-- a number that is not 0 ends it
unfoldable pub unless : ℕ → CheckAnswer → CheckAnswer
unless k a = cond (eqb k 0) a (record { number = k; steps = 0 })

-- a certificate's words against an instance: 7 if they have no claim, else the check call's answer in a work table of zeros
unfoldable pub checked_words : List ℕ → List ℕ → CheckAnswer
checked_words inst ws =
    cond (has_claim ws) (check_call inst (stated_derivation ws) (stated_plan ws) (stated_cost ws) (replicate work_words 0)).answer
    (record { number = 7; steps = 0 })

-- a sheet's words and a certificate's bytes: 1 to 5 and 10 for the instance made from the sheet; 10 and 7 for the certificate's length
unfoldable pub sheet_verdict : List ℕ → List ℕ → CheckAnswer
sheet_verdict sheet certificate =
    unless (make_call sheet (replicate sheet_words 0)).answer.number
    (unless (length_fault certificate_room 7 certificate) (checked_words (made_words sheet) (words_in certificate)))

-- and of both as bytes: first 10 and 1 for the sheet's length, as where it is planned
unfoldable pub verdict_of : List ℕ → List ℕ → CheckAnswer
verdict_of sheet certificate = unless (length_fault sheet_words 1 sheet) (sheet_verdict (words_in sheet) certificate)

-- ---- its text

-- ACCEPTED, cost, steps, and a line for each variable
abbrev pub accepted_text : List ℕ → List ℕ → ℕ → ℕ → List ℕ
accepted_text sheet plan steps cost = accepted_head cost steps ++ assignment_lines sheet plan

-- the text of a check's answer, for a sheet, a plan and its cost
unfoldable pub outcome_text : List ℕ → List ℕ → ℕ → CheckAnswer → List ℕ
outcome_text sheet plan cost a = cond (eqb a.number 0) (accepted_text sheet plan a.steps cost) (refused_line a.number)

-- the text of an answer, for a sheet's and a certificate's words
unfoldable pub answer_text : List ℕ → List ℕ → CheckAnswer → List ℕ
answer_text sheet ws a = cond (eqb a.number 0) (accepted_text sheet (stated_plan ws) a.steps (stated_cost ws)) (refused_line a.number)

abbrev pub verified_text : List ℕ → List ℕ → List ℕ
verified_text sheet certificate = answer_text (words_in sheet) (words_in certificate) (verdict_of sheet certificate)

-- ---- the program's input

-- the sheet's length in bytes as one word, the sheet, and the certificate to the end; where bytes are missing, they are missing in these
abbrev pub sheet_in : List ℕ → List ℕ
sheet_in bytes = take (word_at bytes 0) (drop 4 bytes)

abbrev pub certificate_in : List ℕ → List ℕ
certificate_in bytes = drop (word_at bytes 0) (drop 4 bytes)

abbrev pub verified : List ℕ → List ℕ
verified bytes = verified_text (sheet_in bytes) (certificate_in bytes)
