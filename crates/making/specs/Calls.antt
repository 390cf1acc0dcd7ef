-- The make call: its answer and its target, for good and refused calls alike.
use Rattle.std.specs.Prelude.{cond, List, ◌++◌, ℕ, length, drop, eqb, leb}
use Rattle.fields.specs.Answers.{Answer}
use Rattle.fields.specs.Answers.{refused, good}
use Rattle.sheet.specs.Sheet.{sheet_fault}
use Rattle.making.specs.Made.{made_words}

-- what making an instance leaves: the answer, and the content of the lent slice
pub record Made : Type 0 where
  pub answer : Answer
  pub target : List ℕ

-- make an instance: 1 to 5, then 10; the number of words written, the rest of the target kept
unfoldable pub make_call : List ℕ → List ℕ → Made
make_call sheet target =
    let f = sheet_fault sheet in
    let ws = made_words sheet in
    cond (eqb f 0)
    (cond (leb (length ws) (length target))
    (record { answer = good (length ws); target = ws ++ drop (length ws) target })
    (record { answer = refused 10; target = target }))
    (record { answer = refused f; target = target })
