-- The make call by its tests: the instance written, a target that is too short, a fault of the sheet.
use Rattle.fields.specs.Numbers.{number_of}
use Rattle.fields.specs.declared.refusals.Refusal.{Refusal}
use Rattle.fields.specs.declared.refusals.Refusal.TheVariants.{Input, BadStep, BadClaim, BadReadout, BadTable, TargetTooShort, WeightTooHigh, TableFull, PairLeft, BadFixed, Forbidden, WeightTooWide}
use Rattle.sheet.proofs.Sheets.{fault_some}
use Prim.Native.Nat.{ℕ, ◌≤◌, ◌<◌}
use native.Mathlib.Omega.{arith}
use mathlib.Core.Path.{◌≡◌, refl}
use mathlib.Core.Bool.{Bool, true, false, cond}
use mathlib.Core.List.{List, ◌++◌}
use lib.ListN.{length, take, drop}
use lib.Seq.{take_at}
use lib.Dec.{eqb, leb}
use borrow.Author.Tests.{eqb-true, eqb-false, leb-true, leb-false}
use Rattle.fields.specs.Answers.{refused, good}
use Rattle.sheet.specs.Sheet.{sheet_fault}
use Rattle.making.specs.Made.{made_words}
use Rattle.making.specs.Calls.{Made, make_call}

pub data Making (sheet target : List ℕ) : Made → Type 0 where
  written : sheet_fault sheet ≡ 0 → length (made_words sheet) ≤ length target
      → Making sheet target
      (record { answer = good (length (made_words sheet)); target = made_words sheet ++ drop (length (made_words sheet)) target })
  too_short : sheet_fault sheet ≡ 0 → length target < length (made_words sheet) → Making sheet target (record { answer = refused 10; target = target })
  at_fault : (sheet_fault sheet ≡ 0 → ⊥) → Making sheet target (record { answer = refused (sheet_fault sheet); target = target })

pub making : (sheet target : List ℕ) → Making sheet target (make_call sheet target)
unfolding make_call
making sheet target = go (eqb (sheet_fault sheet) 0) (leb (length (made_words sheet)) (length target)) refl refl
  where
    go : (b c : Bool) → eqb (sheet_fault sheet) 0 ≡ b → leb (length (made_words sheet)) (length target) ≡ c
        → Making sheet target
        (cond b
        (cond c
        (record { answer = good (length (made_words sheet)); target = made_words sheet ++ drop (length (made_words sheet)) target })
        (record { answer = refused 10; target = target }))
        (record { answer = refused (sheet_fault sheet); target = target }))
    go true true f g = written (eqb-true (sheet_fault sheet) 0 f) (leb-true (length (made_words sheet)) (length target) g)
    go true false f g = too_short (eqb-true (sheet_fault sheet) 0 f) (leb-false (length (made_words sheet)) (length target) g)
    go false c f g = at_fault (eqb-false (sheet_fault sheet) 0 f)

-- a call that answered 0: the instance stands in front
pub record MadeIn (sheet target : List ℕ) (long : ℕ) (target' : List ℕ) : Type 0 where
  pub fine : sheet_fault sheet ≡ 0
  pub room : length (made_words sheet) ≤ length target
  pub whole : long ≡ length (made_words sheet)
  pub made : take long target' ≡ made_words sheet

pub made_in : (sheet target : List ℕ) (r : Made) → Making sheet target r → r.answer.number ≡ 0
    → MadeIn sheet target r.answer.value r.target
made_in sheet target _ (written fine room) z =
    record {
      fine = fine;
      room = room;
      whole = refl;
      made = take_at (made_words sheet) (drop (length (made_words sheet)) target) (length (made_words sheet)) refl;
    }
made_in sheet target _ (too_short fine over) z = absurd (omega arith)
made_in sheet target _ (at_fault some) z = absurd (some z)

-- a refusal has a number
pub refusal_some : (r : Refusal) → number_of r ≡ 0 → ⊥
refusal_some (Input f) e = fault_some f e
refusal_some BadStep e = omega arith
refusal_some BadClaim e = omega arith
refusal_some BadReadout e = omega arith
refusal_some BadTable e = omega arith
refusal_some TargetTooShort e = omega arith
refusal_some WeightTooHigh e = omega arith
refusal_some TableFull e = omega arith
refusal_some PairLeft e = omega arith
refusal_some BadFixed e = omega arith
refusal_some Forbidden e = omega arith
refusal_some WeightTooWide e = omega arith
