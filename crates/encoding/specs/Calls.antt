-- The encode call: its answer and its table, for good and refused calls alike.
use Rattle.std.specs.Prelude.{ℕ, cond, List, length, eqb, ltb}
use Rattle.wcsp.specs.Row.{Row}
use Rattle.wcsp.specs.Entry.{encoded}
use Rattle.fields.specs.Answers.{Answer}
use Rattle.fields.specs.Answers.{refused, good}
use Rattle.input.specs.Instance.{instance_fault, sizes_of, entries_of}
use Rattle.table.specs.Layout.{rows_at, capacity, table_words}

-- an answer and the table as the call returns
pub record EncodeReturned : Type 0 where
  pub answer : Answer
  pub table : List ℕ

-- the rows of an instance's encoding
abbrev pub encoded_rows : List ℕ → List Row
encoded_rows inst = encoded (sizes_of inst) (entries_of inst)

-- encode: 1 to 5, 10 for a slice shorter than head, sizes and row count, 12; else the whole slice is the table of the encoding,
-- and the answer the number of its rows
unfoldable pub encode_call : List ℕ → List ℕ → EncodeReturned
encode_call inst t =
    let f = instance_fault inst in
    let ds = sizes_of inst in
    let rs = encoded_rows inst in
    cond (eqb f 0)
    (cond (ltb (length t) (rows_at (length ds)))
    (record { answer = refused 10; table = t })
    (cond (ltb (capacity (length t) (length ds)) (length rs))
    (record { answer = refused 12; table = t })
    (record { answer = good (length rs); table = table_words (length t) ds rs })))
    (record { answer = refused f; table = t })
