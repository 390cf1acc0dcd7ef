-- Inner: the replay on the twelve signs that every row of a table has, as the code answers it.
use Rattle.std.specs.Prelude.{ℕ, List, Option, Some, None}
use Rattle.std.proofs.Math.Option.{Option as Maybe, none, some}
use Rattle.wcsp.specs.Resolve.{Pair}
use Rattle.table.specs.Meaning.{table_rows, domains, capacity_of}
use Rattle.stepping.specs.Step.{with_rows}
use Rattle.checker.specs.declared.Pair.{Pair as Named}
use Rattle.checker.specs.Answer.{CheckAnswer}
use Rattle.checker.specs.Replay.{Replayed, replay}

-- the pair that a word names, as the code has it
unfoldable pub named_of : Maybe Pair → Option Named
named_of none = None
named_of (some pr) = Some (record { variable = pr.variable; first = pr.first; second = pr.second })

-- a replay's answer, and its table as it returns
pub record ReplayReturned : Type 0 where
  pub answer : CheckAnswer
  pub table : List ℕ

abbrev pub replay_returns : List ℕ → Replayed → ReplayReturned
replay_returns t done = record { answer = record { number = done.number; steps = done.steps }; table = with_rows t done.rows }

-- the replay of step words in a valid table
abbrev pub replay_call : List ℕ → List ℕ → ReplayReturned
replay_call t ws = replay_returns t (replay (domains t) (capacity_of t) (table_rows t) 0 ws)
