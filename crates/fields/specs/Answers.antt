-- The answers of the calls that give one value: a refusal has its number, its value 0.
use Rattle.std.specs.Prelude.{ℕ, Result, Ok, Err}
use Rattle.fields.specs.declared.refusals.Refusal.{Refusal}
use Rattle.fields.specs.Numbers.{number_of}

-- a number, 0 for success, and a value, 0 where refused
pub record Answer : Type 0 where
  pub number : ℕ
  pub value : ℕ

abbrev pub refused : ℕ → Answer
refused k = record { number = k; value = 0 }

abbrev pub good : ℕ → Answer
good v = record { number = 0; value = v }

-- the answer of a call whose result this is
abbrev pub answer_of : Result ℕ Refusal → Answer
answer_of (Ok v) = good v
answer_of (Err r) = refused (number_of r)
