-- The numbers that can be printed: every stage's is one of a check's.
use Prim.Native.Nat.{ℕ, ◌*◌, ◌%◌}
use native.Mathlib.Omega.{arith}
use mathlib.Core.Bool.{Bool, true, false, cond}
use mathlib.Core.List.{List}
use lib.ListN.{length, replicate}
use lib.Dec.{eqb, ltb}
use Rattle.littleendian.specs.Words.{words_in}
use Rattle.sheet.specs.Sheet.{sheet_fault}
use Rattle.sheet.proofs.Faults.{sheet_small}
use Rattle.making.specs.Made.{made_words}
use Rattle.making.specs.Calls.{Made, make_call}
use Rattle.making.proofs.MakeTests.{Making, written, too_short, at_fault, making}
use Rattle.checker.specs.Answer.{CheckAnswer}
use Rattle.checker.specs.Theorems.{CheckNumber, success, fault, claim_fails, too_short as too_long}
use Rattle.checker.proofs.Numbers.{check_numbers}
use Rattle.certificate.specs.Certificate.{stated_plan, stated_cost, stated_derivation, has_claim}
use Rattle.verifying.specs.Verified.{sheet_words, certificate_room, work_words, length_fault, unless, checked_words, sheet_verdict, verdict_of}
use Rattle.verifying.specs.Theorems.{VerdictNumbers}
use Rattle.verifying.proofs.Verdicts.{claim_check}

-- a test's, and that of what comes behind it
unless_number : (k : ℕ) (a : CheckAnswer) → CheckNumber k → CheckNumber a.number → CheckNumber (unless k a).number
unfolding unless
unless_number k a h n = go (eqb k 0)
  where
    go : (b : Bool) → CheckNumber (cond b a (record { number = k; steps = 0 })).number
    go true = n
    go false = h

-- a length's
length_number : (most odd : ℕ) (bytes : List ℕ) → CheckNumber odd → CheckNumber (length_fault most odd bytes)
unfolding length_fault
length_number most odd bytes h = go (ltb (4 * most) (length bytes)) (eqb (length bytes % 4) 0)
  where
    go : (b c : Bool) → CheckNumber (cond b 10 (cond c 0 odd))
    go true c = too_long
    go false true = success
    go false false = h

-- the make call's
made_number : (sheet target : List ℕ) (r : Made) → Making sheet target r → CheckNumber r.answer.number
made_number sheet target _ (written fine room) = success
made_number sheet target _ (too_short fine over) = too_long
made_number sheet target _ (at_fault some) = fault (sheet_fault sheet) (omega arith) (sheet_small sheet)

-- the certificate's
checked_number : (inst ws : List ℕ) → CheckNumber (checked_words inst ws).number
unfolding checked_words
checked_number inst ws = go (has_claim ws)
  where
    go : (b : Bool) → CheckNumber (cond b (claim_check inst ws).answer (record { number = 7; steps = 0 })).number
    go true = check_numbers inst (stated_derivation ws) (stated_plan ws) (stated_cost ws) (replicate work_words 0)
    go false = claim_fails

pub verdict_numbers : VerdictNumbers
unfolding verdict_of sheet_verdict
verdict_numbers sheet certificate =
    unless_number (length_fault sheet_words 1 sheet) (sheet_verdict (words_in sheet) certificate) (length_number sheet_words 1 sheet (fault 1 (omega arith) (omega arith)))
    (unless_number (make_call (words_in sheet) (replicate sheet_words 0)).answer.number _
    (made_number (words_in sheet) (replicate sheet_words 0) _ (making (words_in sheet) (replicate sheet_words 0)))
    (unless_number (length_fault certificate_room 7 certificate) (checked_words (made_words (words_in sheet)) (words_in certificate))
    (length_number certificate_room 7 certificate claim_fails) (checked_number (made_words (words_in sheet)) (words_in certificate))))
