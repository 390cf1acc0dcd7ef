-- Inner: a run on the twelve signs that every row of a table has, and where its hunts go on. No statement for users rests on it.
use Rattle.std.specs.Prelude.{ℕ, cond, List, [], get_or, ltb}
use Rattle.wcsp.specs.Row.{Row}
use Rattle.wcsp.specs.Resolve.{no_row}
use Rattle.fields.specs.Limits.{max_variables}
use Rattle.table.specs.Meaning.{table_rows, domains, capacity_of}
use Rattle.resolution.specs.Run.{run_rows}
use Rattle.resolution.specs.Calls.{RunReturned, run_returns}

-- a run of up to so many steps on a valid table
abbrev pub run_twelve : List ℕ → ℕ → List ℕ → RunReturned
run_twelve t most slice = run_returns max_variables t slice (run_rows (domains t) (capacity_of t) most (table_rows t) [])

-- where the hunt for a second row goes on after a step on rows i and j: a heavier row i stays, and the hunt goes on at row j's place; else anew
unfoldable pub resumed : List Row → ℕ → ℕ → ℕ
resumed rs i j = cond (ltb (get_or rs j no_row).weight (get_or rs i no_row).weight) j 0
