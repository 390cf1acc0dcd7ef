-- A step that is refused leaves the table as it was, and is answered by the refusal's number, which is not 0.
use Prim.Native.Nat.{ℕ, ◌<◌}
use native.Mathlib.Omega.{arith}
use mathlib.Core.Path.{◌≡◌, ap}
use mathlib.Core.List.{List}
use Rattle.wcsp.specs.Resolve.{Pair, resolve}
use Rattle.fields.specs.declared.refusals.Fault.{Fault}
use Rattle.fields.specs.declared.refusals.Fault.TheVariants.{BadHead, BadVariable, BadEntry, CostTooHigh, TooManyEntries}
use Rattle.fields.specs.declared.refusals.Refusal.{Refusal}
use Rattle.fields.specs.declared.refusals.Refusal.TheVariants.{Input, BadStep, BadClaim, BadReadout, BadTable, TargetTooShort, WeightTooHigh, TableFull, PairLeft, BadFixed, Forbidden, WeightTooWide}
use Rattle.fields.specs.Numbers.{fault_number, number_of}
use Rattle.table.specs.Meaning.{table_rows, domains, capacity_of}
use Rattle.stepping.specs.Step.{Stepping, refusing, steps_to, allowed, refusal_of}
use Rattle.stepping.specs.Advance.{Refused, AdvanceReturned, advance_returns, advance_call}

fault_counts : (f : Fault) → 0 < fault_number f
fault_counts BadHead = omega arith
fault_counts BadVariable = omega arith
fault_counts BadEntry = omega arith
fault_counts CostTooHigh = omega arith
fault_counts TooManyEntries = omega arith

pub refusal_counts : (r : Refusal) → 0 < number_of r
refusal_counts (Input f) = fault_counts f
refusal_counts BadStep = omega arith
refusal_counts BadClaim = omega arith
refusal_counts BadReadout = omega arith
refusal_counts BadTable = omega arith
refusal_counts TargetTooShort = omega arith
refusal_counts WeightTooHigh = omega arith
refusal_counts TableFull = omega arith
refusal_counts PairLeft = omega arith
refusal_counts BadFixed = omega arith
refusal_counts Forbidden = omega arith
refusal_counts WeightTooWide = omega arith

refused_call : (t : List ℕ) (number : ℕ) (s : Stepping) → number ≡ refusal_of s → 0 < number
    → ◌≡◌ {A = AdvanceReturned} (record { answer = Refused number; table = t }) (advance_returns t s)
unfolding refusal_of advance_returns
refused_call t number (refusing k) e n = ap (λ m. record { answer = Refused m; table = t }) e
refused_call t number (steps_to pr rs) e n = absurd (omega arith)

pub refused : (t : List ℕ) (pr : Pair) (r : Refusal) → number_of r ≡ refusal_of (allowed (capacity_of t) pr (resolve (domains t) pr (table_rows t)))
    → ◌≡◌ {A = AdvanceReturned} (record { answer = Refused (number_of r); table = t }) (advance_call t pr)
unfolding advance_call
refused t pr r e = refused_call t (number_of r) (allowed (capacity_of t) pr (resolve (domains t) pr (table_rows t))) e (refusal_counts r)
