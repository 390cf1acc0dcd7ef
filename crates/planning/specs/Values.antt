-- The value that planning a sheet comes to, as definitions and theorems have it: a refusal by its number. And the program's own, taken to it.
use Rattle.std.specs.Prelude.{ℕ, List}
use Rattle.fields.specs.Numbers.{number_of}
use Rattle.planning.specs.declared.Ending.{Ending as Told}
use Rattle.planning.specs.declared.Solved.{Solved as Answered}

-- how planning a sheet ended: a refusal, a plan, the limit, or a table that is full
pub data Ending : Type 0 where
  Refused : ℕ → Ending
  Planned : Ending
  Paused : Ending
  Full : Ending

-- what it came to: the run's steps and bound, and the plan, whose cost the bound then is
pub record Solved : Type 0 where
  pub ending : Ending
  pub steps : ℕ
  pub bound : ℕ
  pub plan : List ℕ

abbrev pub ending_as : Told → Ending
ending_as (Told.Refused r) = Refused (number_of r)
ending_as Told.Planned = Planned
ending_as Told.Paused = Paused
ending_as Told.Full = Full

abbrev pub solved_as : Answered → Solved
solved_as s = record { ending = ending_as s.ending; steps = s.steps; bound = s.bound; plan = s.plan }
