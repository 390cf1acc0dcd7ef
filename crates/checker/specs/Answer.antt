-- A check's answer: its number, 0 for an accepted claim, and the steps replayed; and that of a result.
use Rattle.std.specs.Prelude.{ℕ, Result, Ok, Err}
use Rattle.fields.specs.Numbers.{number_of}
use Rattle.checker.specs.declared.Stopped.{Stopped}

pub record CheckAnswer : Type 0 where
  pub number : ℕ
  pub steps : ℕ

abbrev pub checked_as : Result ℕ Stopped → CheckAnswer
checked_as (Ok steps) = record { number = 0; steps = steps }
checked_as (Err s) = record { number = number_of s.refusal; steps = s.steps }
