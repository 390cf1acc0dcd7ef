-- The two conversions: the answer and the target, for good and refused calls alike. The source is only read.
use Rattle.std.specs.Prelude.{ℕ, cond, List, length, ltb}
use Rattle.wcsp.specs.Row.{heavy}
use Rattle.fields.specs.Answers.{Answer}
use Rattle.fields.specs.Answers.{refused, good}
use Rattle.table.specs.Form.{TableForm}
use Rattle.table.specs.Raws.{standard_form}
use Rattle.table.specs.Layout.{rows_at, capacity_in, table_words_in}
use Rattle.table.specs.Meaning.{variables_of, table_sizes, own_rows_in}
use Rattle.table.specs.Valid.{valid_table_in}
use Rattle.table.specs.Five.{five_form}

-- an answer and the target as the call returns
pub record ConvertReturned : Type 0 where
  pub answer : Answer
  pub target : List ℕ

-- from one form to another: 9, no valid table of the first form; 10, a target shorter than head, sizes and row count; 16, a weight that the
-- second form has no words for; 12, by the target's own form; else the whole target is the table of the same sizes and the same rows, in their
-- order, and the answer the number of rows
unfoldable pub convert_call : TableForm → TableForm → List ℕ → List ℕ → ConvertReturned
convert_call f g source target =
    let n = variables_of source in
    let rs = own_rows_in f source in
    cond (valid_table_in f source)
    (cond (ltb (length target) (rows_at n))
    (record { answer = refused 10; target = target })
    (cond (heavy g.limit rs)
    (record { answer = refused 16; target = target })
    (cond (ltb (capacity_in g (length target) n) (length rs))
    (record { answer = refused 12; target = target })
    (record { answer = good (length rs); target = table_words_in g (length target) (table_sizes source) rs }))))
    (record { answer = refused 9; target = target })

-- "Turn such a table into the six-word form": 9, 10, 12; never 16 (`SixInOrder`)
abbrev pub to_six_call : List ℕ → List ℕ → ConvertReturned
to_six_call source target = convert_call five_form standard_form source target

-- "and a six-word table back": 9, 10, 16, 12
abbrev pub to_five_call : List ℕ → List ℕ → ConvertReturned
to_five_call source target = convert_call standard_form five_form source target
