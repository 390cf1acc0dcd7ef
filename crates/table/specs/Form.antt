-- A form of tables: the form of their rows, the greatest weight, what a raw row says, the raw row that says it, and what may stand behind the sign words.
use Rattle.std.specs.Prelude.{ℕ, Bool, List}
use Rattle.wcsp.specs.Row.{Row}
use Rattle.rows.specs.Form.{Form}

pub record TableForm : Type 1 where
  pub rows : Form
  pub limit : ℕ
  pub row_of : rows.Raw → Row
  pub raw_of : Row → rows.Raw
  -- the row in front of the words has the words of a weight of at least 1 behind its sign words
  pub weighs : List ℕ → Bool
