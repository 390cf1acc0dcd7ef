-- What an accepted certificate means: a text that begins with ACCEPTED is that of a number 0, and this that of a check of the instance made from the sheet.
use Prim.Native.Nat.{ℕ, ◌*◌, ◌%◌, ◌≤◌, ◌<◌}
use native.Mathlib.Omega.{arith}
use mathlib.Core.Path.{◌≡◌, refl, sym, ap, ◌∙◌}
use mathlib.Core.Bool.{Bool, true, false}
use mathlib.Core.List.{List}
use lib.ListN.{length, get_or, replicate}
use lib.Seq.{take_at, drop-append_seam}
use lib.Dec.{eqb}
use borrow.Author.Tests.{eqb-true, eqb-false, lt-leb}
use Rattle.wcsp.specs.Entry.{cost}
use Rattle.fields.specs.Limits.{forbidden_cost}
use Rattle.fields.specs.Entries.{Entries}
use Rattle.fields.specs.Forbidden.{has_forbidden}
use Rattle.fields.proofs.Forbidden.{forbidden_is_dear, bound_forbids}
use Rattle.littleendian.specs.Words.{words_in, bytes_of}
use Rattle.littleendian.proofs.Writing.{one_back}
use Rattle.input.proofs.Acceptance.{faultless_is_accepted}
use Rattle.sheet.specs.Sheet.{sheet_fault, sheet_sizes}
use Rattle.making.specs.Made.{made_words, made_entries}
use Rattle.making.specs.Calls.{make_call}
use Rattle.making.proofs.Reading.{made_accepted}
use Rattle.making.proofs.MakeTests.{making, made_in}
use Rattle.checker.specs.Answer.{CheckAnswer}
use Rattle.checker.specs.Theorems.{Best}
use Rattle.checker.proofs.Claims.{accepted_is_least}
use Rattle.certificate.specs.Certificate.{stated_plan, stated_cost}
use Rattle.text.specs.Text.{line, refused_line}
use Rattle.verifying.specs.Verified.{sheet_words, certificate_room, work_words, length_fault, checked_words, sheet_verdict, verdict_of, answer_text, verified_text, sheet_in, certificate_in}
use Rattle.verifying.specs.Theorems.{Accepted, SaysAccepted, AcceptedMeans, AcceptedInput, RequestIsRead}
use Rattle.verifying.proofs.Verdicts.{whole_length, goes_on, unless-zero, refused_text, accepted_text_lem, claim_check, checked_answer, checked_good}
use Rattle.verifying.proofs.Counted.{check_counts}

-- ---- the letters

-- a refusal does not begin with ACCEPTED
refused_differs : (k : ℕ) → SaysAccepted (refused_line k) → ⊥
unfolding line
refused_differs k e = let z = ap (λ (l : List ℕ). get_or l 0 0) e in omega (arith, z)

says_zero : (sheet ws : List ℕ) (a : CheckAnswer) → SaysAccepted (answer_text sheet ws a) → a.number ≡ 0
says_zero sheet ws a = go (eqb a.number 0) refl
  where
    go : (b : Bool) → eqb a.number 0 ≡ b → SaysAccepted (answer_text sheet ws a) → a.number ≡ 0
    go true e h = eqb-true a.number 0 e
    go false e h = absurd (refused_differs a.number (rw (refused_text sheet ws a a.number refl (eqb-false a.number 0 e)) at h))

-- ---- a good verdict

module _ (sheet certificate : List ℕ) (z : (verdict_of sheet certificate).number ≡ 0) where
  lengths : (length sheet ≤ 4 * sheet_words) × (length sheet % 4 ≡ 0)
  unfolding verdict_of
  lengths = whole_length sheet_words 1 sheet (λ z. omega (arith, z)) (unless-zero (length_fault sheet_words 1 sheet) (sheet_verdict (words_in sheet) certificate) z).0

  passes : (sheet_verdict (words_in sheet) certificate).number ≡ 0
  unfolding verdict_of
  passes = (unless-zero (length_fault sheet_words 1 sheet) (sheet_verdict (words_in sheet) certificate) z).1

  behind : ((make_call (words_in sheet) (replicate sheet_words 0)).answer.number ≡ 0) × ((checked_words (made_words (words_in sheet)) (words_in certificate)).number ≡ 0)
  unfolding sheet_verdict
  behind =
      let (made, rest) = unless-zero _ _ passes in
      (made, (unless-zero (length_fault certificate_room 7 certificate) (checked_words (made_words (words_in sheet)) (words_in certificate)) rest).1)

  accepted_sheet : sheet_fault (words_in sheet) ≡ 0
  accepted_sheet = (made_in (words_in sheet) (replicate sheet_words 0) _ (making (words_in sheet) (replicate sheet_words 0)) behind.0).fine

  best : Best (sheet_sizes (words_in sheet)) (made_entries (words_in sheet)) (stated_plan (words_in certificate)) (stated_cost (words_in certificate))
  best =
      let m = made_accepted (words_in sheet) accepted_sheet in
      rw (m.sizes, m.entries) at
      (accepted_is_least (made_words (words_in sheet)) _ (stated_plan (words_in certificate)) (stated_cost (words_in certificate)) (replicate work_words 0)
      (checked_good (made_words (words_in sheet)) (words_in certificate) behind.1))

  entries : Entries (sheet_sizes (words_in sheet)) 0 (made_entries (words_in sheet))
  entries =
      let m = made_accepted (words_in sheet) accepted_sheet in
      rw (m.sizes, m.entries) at (faultless_is_accepted (made_words (words_in sheet)) m.accepted).entries

  free : stated_cost (words_in certificate) < forbidden_cost → has_forbidden (made_entries (words_in sheet)) (stated_plan (words_in certificate)) ≡ false
  free h = sym (forbidden_is_dear _ 0 (made_entries (words_in sheet)) entries (stated_plan (words_in certificate))) ∙ lt-leb forbidden_cost (cost (made_entries (words_in sheet)) (stated_plan (words_in certificate))) (omega (arith, best.attained))

  -- the answer is that of the claim's check
  answered : (verdict_of sheet certificate).steps ≡ (claim_check (made_words (words_in sheet)) (words_in certificate)).answer.steps
  unfolding verdict_of sheet_verdict
  answered =
      let (first, rest) = unless-zero (length_fault sheet_words 1 sheet) (sheet_verdict (words_in sheet) certificate) z in
      let (made, others) = unless-zero _ _ passes in
      let (fits, checked) = unless-zero (length_fault certificate_room 7 certificate) (checked_words (made_words (words_in sheet)) (words_in certificate)) others in
      ap (λ (a : CheckAnswer). a.steps)
      (goes_on (length_fault sheet_words 1 sheet) _ first
      ∙ goes_on (make_call (words_in sheet) (replicate sheet_words 0)).answer.number _ made
      ∙ goes_on (length_fault certificate_room 7 certificate) _ fits
      ∙ checked_answer (made_words (words_in sheet)) (words_in certificate) checked)

  means : Accepted sheet certificate (verified_text sheet certificate)
  means =
      record {
        plan = stated_plan (words_in certificate);
        cost = stated_cost (words_in certificate);
        steps = (verdict_of sheet certificate).steps;
        prints = accepted_text_lem (words_in sheet) (words_in certificate) (verdict_of sheet certificate) z;
        short = lengths.0;
        whole = lengths.1;
        fine = accepted_sheet;
        best = best;
        free = λ h. free (omega (arith, h));
        claimed = (refl, refl);
        counted = answered ∙ check_counts (made_words (words_in sheet)) _ (stated_plan (words_in certificate)) _ (replicate work_words 0) (checked_good (made_words (words_in sheet)) (words_in certificate) behind.1);
        barred = λ h. bound_forbids _ 0 _ entries (stated_cost (words_in certificate)) h best.least;
      }

pub accepted_means : AcceptedMeans
accepted_means sheet certificate h = means sheet certificate (says_zero (words_in sheet) (words_in certificate) (verdict_of sheet certificate) h)

pub accepted_input : AcceptedInput
accepted_input bytes h = accepted_means (sheet_in bytes) (certificate_in bytes) h

-- ---- the program's input

pub request_is_read : RequestIsRead
unfolding bytes_of
request_is_read sheet certificate =
    rw (one_back (length sheet), take_at sheet certificate (length sheet) refl, drop-append_seam sheet certificate)
