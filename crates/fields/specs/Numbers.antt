-- The number of each fault and of each refusal, 0 for what is not refused.
use Rattle.std.specs.Prelude.{ℕ, Result, Ok, Err}
use Rattle.fields.specs.declared.refusals.Fault.{Fault}
use Rattle.fields.specs.declared.refusals.Fault.TheVariants.{BadHead, BadVariable, BadEntry, CostTooHigh, TooManyEntries}
use Rattle.fields.specs.declared.refusals.Refusal.{Refusal}
use Rattle.fields.specs.declared.refusals.Refusal.TheVariants.{Input, BadStep, BadClaim, BadReadout, BadTable, TargetTooShort, WeightTooHigh, TableFull, PairLeft, BadFixed, Forbidden, WeightTooWide}

abbrev pub fault_number : Fault → ℕ
fault_number BadHead = 1
fault_number BadVariable = 2
fault_number BadEntry = 3
fault_number CostTooHigh = 4
fault_number TooManyEntries = 5

abbrev pub number_of : Refusal → ℕ
number_of (Input f) = fault_number f
number_of BadStep = 6
number_of BadClaim = 7
number_of BadReadout = 8
number_of BadTable = 9
number_of TargetTooShort = 10
number_of WeightTooHigh = 11
number_of TableFull = 12
number_of PairLeft = 13
number_of BadFixed = 14
number_of Forbidden = 15
number_of WeightTooWide = 16

-- the number that a result has, 0 where it is good
abbrev pub fault_in : {A : Type 0} → Result A Fault → ℕ
fault_in (Ok v) = 0
fault_in (Err f) = fault_number f

abbrev pub refusal_in : {A : Type 0} → Result A Refusal → ℕ
refusal_in (Ok v) = 0
refusal_in (Err r) = number_of r
