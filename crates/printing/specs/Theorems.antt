-- What the printed text means.
use Rattle.std.specs.Prelude.{ℕ, List}
use Rattle.text.specs.Text.{refused_line, paused_line, full_line}
use Rattle.planning.specs.Values.{Ending, Solved}
use Rattle.littleendian.specs.Words.{words_in}
use Rattle.planning.specs.Solving.{refused_solved, stopped_solved, planned_solved}
use Rattle.planning.specs.Theorems.{Means}
use Rattle.printing.specs.Printed.{plan_text, printed}

-- the text that a value has: each ending its own
pub data Prints (sheet : List ℕ) : Solved → List ℕ → Type 0 where
  -- REFUSED number
  refused_prints : (k : ℕ) → Prints sheet (refused_solved k) (refused_line k)
  -- PLAN, cost, steps, and a line for each station
  planned_prints : (plan : List ℕ) (steps least : ℕ) → Prints sheet (planned_solved plan steps least) (plan_text sheet plan steps least)
  -- PAUSED steps BOUND b
  paused_prints : (steps b : ℕ) → Prints sheet (stopped_solved Ending.Paused steps b) (paused_line steps b)
  -- FULL steps BOUND b
  full_prints : (steps b : ℕ) → Prints sheet (stopped_solved Ending.Full steps b) (full_line steps b)

-- for all bytes: a value that means one of the cases of `Means`, and its text
abbrev pub PrintedMeans : Type 0
PrintedMeans = (bytes : List ℕ) → (s : Solved) × Means bytes s × Prints (words_in bytes) s (printed bytes)
