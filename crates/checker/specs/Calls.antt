-- The check call: its answer and its work table, for accepted and refused claims alike.
use Rattle.std.specs.Prelude.{ℕ, Bool, ◌&&◌, cond, List, length, eqb}
use Rattle.wcsp.specs.Row.{empty_weight}
use Rattle.wcsp.specs.Entry.{cost}
use Rattle.fields.specs.Assignment.{is_assignment}
use Rattle.input.specs.Instance.{sizes_of, entries_of}
use Rattle.table.specs.Layout.{capacity, table_words}
use Rattle.encoding.specs.Calls.{encoded_rows, encode_call}
use Rattle.checker.specs.Answer.{CheckAnswer}
use Rattle.checker.specs.Replay.{Replayed, replay}

-- an answer and the work table as the call returns
pub record CheckReturned : Type 0 where
  pub answer : CheckAnswer
  pub table : List ℕ

-- the claim holds: the bytes are an assignment, and the claimed cost is the empty row's weight and the assignment's cost
unfoldable pub claim_holds : List ℕ → List ℕ → ℕ → ℕ → Bool
claim_holds inst plan claimed empty =
    is_assignment (sizes_of inst) plan && eqb claimed empty && eqb claimed (cost (entries_of inst) plan)

-- after the replay: its number, then 7; the table after the last good step
unfoldable pub judged : List ℕ → List ℕ → ℕ → ℕ → Replayed → CheckReturned
unfolding claim_holds
judged inst plan claimed len done =
    record {
      answer =
          record {
            number = cond (eqb done.number 0) (cond (claim_holds inst plan claimed (empty_weight (length (sizes_of inst)) done.rows)) 0 7) done.number;
            steps = done.steps;
          };
      table = table_words len (sizes_of inst) done.rows;
    }

-- check: 1 to 5, 10, 12 for the encoding with memory unchanged; then each step word 6, 11, 12; then 7
unfoldable pub check_call : List ℕ → List ℕ → List ℕ → ℕ → List ℕ → CheckReturned
unfolding judged
check_call inst derivation plan claimed t =
    let coded = encode_call inst t in
    cond (eqb coded.answer.number 0)
    (judged inst plan claimed (length t)
    (replay (sizes_of inst) (capacity (length t) (length (sizes_of inst))) (encoded_rows inst) 0 derivation))
    (record { answer = record { number = coded.answer.number; steps = 0 }; table = t })
