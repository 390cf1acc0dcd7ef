-- Inner: a step on a given pair of a valid table, in twelve signs: what it answers and what it leaves in the slice.
use Rattle.std.specs.Prelude.{ℕ, List, length, Result, Ok, Err}
use Rattle.wcsp.specs.Resolve.{Pair, resolve}
use Rattle.table.specs.Meaning.{table_rows, domains, capacity_of}
use Rattle.fields.specs.declared.refusals.Refusal.{Refusal}
use Rattle.fields.specs.Numbers.{number_of}
use Rattle.stepping.specs.Step.{Stepping, refusing, steps_to, allowed, with_rows}

-- a step made, with the number of rows after it; or the number of a refusal
pub data Advanced : Type 0 where
  Made : ℕ → Advanced
  Refused : ℕ → Advanced

abbrev pub advanced_of : Result ℕ Refusal → Advanced
advanced_of (Ok count) = Made count
advanced_of (Err r) = Refused (number_of r)

pub record AdvanceReturned : Type 0 where
  pub answer : Advanced
  pub table : List ℕ

unfoldable pub advance_returns : List ℕ → Stepping → AdvanceReturned
advance_returns t (refusing k) = record { answer = Refused k; table = t }
advance_returns t (steps_to pr rs) = record { answer = Made (length rs); table = with_rows t rs }

unfoldable pub advance_call : List ℕ → Pair → AdvanceReturned
unfolding advance_returns
advance_call t pr =
    advance_returns t (allowed (capacity_of t) pr (resolve (domains t) pr (table_rows t)))
