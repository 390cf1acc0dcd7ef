-- Every certificate that is written is accepted with its sheet: what was written is read back, and the checker accepts it.
use Prim.Native.Nat.{ℕ, zero, suc, ◌+◌, ◌≤◌, ◌<◌}
use native.Mathlib.Omega.{arith}
use mathlib.Core.Path.{◌≡◌, refl, ap, ap₂, ◌∙◌}
use mathlib.Core.Logic.{◌≢◌}
use mathlib.Core.List.{List, [], ◌++◌}
use lib.ListN.{length, get_or, take, replicate, length-append}
use lib.Seq.{get_or-take}
use Rattle.sheet.specs.Sheet.{sheet_sizes}
use Rattle.littleendian.specs.Words.{words_in, bytes_of}
use Rattle.littleendian.proofs.Writing.{length_bytes, written_reads_back}
use Rattle.making.specs.Made.{made_words}
use Rattle.planning.specs.Values.{Ending}
use Rattle.planning.specs.Theorems.{ClaimAccepted}
use Rattle.text.specs.Text.{line, variable_line, accepted_head}
use Rattle.listing.specs.Listed.{metres_to, variable_lines, assignment_lines}
use Rattle.printing.specs.Printed.{ending_text}
use Rattle.printing.proofs.Meaning.{bytes_print}
use Rattle.certificate.specs.Certificate.{certificate_words, claim_words}
use Rattle.certificate.specs.Theorems.{States}
use Rattle.certificate.proofs.Reading.{written_is_stated}
use Rattle.verifying.specs.Verified.{most_derivation, certificate_room, work_words, checked_words, verdict_of, verified_text}
use Rattle.verifying.proofs.Verdicts.{accepted_text_lem, checked_claim, behind_both}
use Rattle.certifying.specs.Certified.{ample_room, amply_solved, ending_certificate, certificate_of}
use Rattle.certifying.specs.Theorems.{PrintedAlike, CertifiedIsAccepted, SaysPlan, PlannedIsCertified, NoPlanNoCertificate, CertifiedMeans}
use Rattle.certifying.specs.Certifiable.{CertifiablePlan}
use Rattle.certifying.proofs.Writing.{length_claim}
use Rattle.certifying.proofs.Planned.{claim_taken, amply_means, planned_claim}

-- ---- lines

-- the lines take no value behind the sheet's variables
module _ (sheet plan : List ℕ) (n : ℕ) where
  metres-front : (v : ℕ) → v < n → metres_to sheet (take n plan) v ≡ metres_to sheet plan v
  unfolding metres_to
  metres-front zero h = refl
  metres-front (suc v) h = rw (get_or-take n plan v 0 (omega arith), get_or-take n plan (suc v) 0 h)

  lines_front : (v k : ℕ) → v + k ≤ n → variable_lines sheet (take n plan) v k ≡ variable_lines sheet plan v k
  unfolding variable_lines
  lines_front v zero h = refl
  lines_front v (suc k) h =
      ap₂ (λ (a b : List ℕ). a ++ b)
      (ap₂ (λ a m. variable_line v a m) (get_or-take n plan v 0 (omega arith)) (metres-front v (omega arith)))
      (lines_front (suc v) k (omega arith))

-- ---- the certificate of a plan

module _ (bytes : List ℕ) (planned : (amply_solved bytes).answer.ending ≡ Ending.Planned) where
  plan : List ℕ
  plan = take (length (sheet_sizes (words_in bytes))) (amply_solved bytes).answer.plan

  steps : List ℕ
  steps = take (amply_solved bytes).answer.steps (amply_solved bytes).steps

  claim : ClaimAccepted most_derivation (words_in bytes) (replicate work_words 0) (amply_solved bytes).answer (amply_solved bytes).steps
  claim = (planned_claim bytes planned).3

  taken : CertifiablePlan (words_in bytes) (amply_solved bytes).answer (amply_solved bytes).steps
  taken = claim_taken most_derivation (words_in bytes) (replicate work_words 0) (amply_solved bytes).answer (amply_solved bytes).steps claim

  ws : List ℕ
  ws = certificate_words plan (amply_solved bytes).answer.bound steps

  written : certificate_of bytes ≡ bytes_of ws
  unfolding ending_certificate ws plan steps
  written = rw planned

  stated : States ws plan (amply_solved bytes).answer.bound steps
  unfolding ws plan
  stated = written_is_stated plan (amply_solved bytes).answer.bound steps taken.claim

  length_words : length ws ≤ certificate_room
  unfolding ws steps plan
  length_words =
      omega (arith, length-append (claim_words plan (amply_solved bytes).answer.bound) steps, length_claim plan (amply_solved bytes).answer.bound, taken.claim.few, claim.written, claim.few)

  checked : checked_words (made_words (words_in bytes)) ws ≡ record { number = 0; steps = (amply_solved bytes).answer.steps }
  unfolding plan steps
  checked =
      let e = stated in
      checked_claim (made_words (words_in bytes)) ws e.claim
      ∙ rw (e.plan, e.cost, e.derivation) claim.accepted

  verdict : verdict_of bytes (bytes_of ws) ≡ record { number = 0; steps = (amply_solved bytes).answer.steps }
  verdict =
      let (short, whole, fits, c) = planned_claim bytes planned in
      let n = length_bytes ws in
      behind_both bytes (bytes_of ws) short whole claim.fine fits (omega (arith, n, length_words)) (omega (arith, n)) ∙ rw (written_reads_back ws) checked

  accepted : verified_text bytes (certificate_of bytes)
      ≡ accepted_head (amply_solved bytes).answer.bound (amply_solved bytes).answer.steps ++ assignment_lines (words_in bytes) (amply_solved bytes).answer.plan
  unfolding plan
  accepted =
      let n = length (sheet_sizes (words_in bytes)) in
      rw (written, verdict, written_reads_back ws)
      (accepted_text_lem (words_in bytes) ws (record { number = 0; steps = (amply_solved bytes).answer.steps }) refl
      ∙ rw (stated.plan, stated.cost, lines_front (words_in bytes) (amply_solved bytes).answer.plan n 0 n (omega arith)))

  alike : PrintedAlike bytes
  unfolding ending_text
  alike =
      record {
        cost = (amply_solved bytes).answer.bound;
        steps = (amply_solved bytes).answer.steps;
        lines = assignment_lines (words_in bytes) (amply_solved bytes).answer.plan;
        planned = rw planned;
        accepted = accepted;
      }

-- ---- which bytes have a certificate

-- what is printed and written of an ending
module _ (bytes : List ℕ) where
  abbrev text_for : Ending → List ℕ
  text_for e = ending_text (words_in bytes) (amply_solved bytes).answer.plan (amply_solved bytes).answer.steps (amply_solved bytes).answer.bound e

  abbrev kept_for : Ending → List ℕ
  kept_for e = bytes_of (ending_certificate (words_in bytes) (amply_solved bytes).answer.plan (amply_solved bytes).answer.steps (amply_solved bytes).answer.bound (amply_solved bytes).steps e)

pub certified_is_accepted : CertifiedIsAccepted
unfolding ending_certificate bytes_of
certified_is_accepted bytes some = go (amply_solved bytes).answer.ending refl some
  where
    go : (e : Ending) → (amply_solved bytes).answer.ending ≡ e → kept_for bytes e ≢ [] → PrintedAlike bytes
    go (Ending.Refused k) h n = absurd (n refl)
    go Ending.Planned h n = alike bytes h
    go Ending.Paused h n = absurd (n refl)
    go Ending.Full h n = absurd (n refl)

pub planned_is_certified : PlannedIsCertified
unfolding ending_text ending_certificate bytes_of line
planned_is_certified bytes = go (amply_solved bytes).answer.ending
  where
    go : (e : Ending) → SaysPlan (text_for bytes e) → kept_for bytes e ≢ []
    go (Ending.Refused k) h n = let z = ap (λ (l : List ℕ). get_or l 0 0) h in omega (arith, z)
    go Ending.Planned h n = let z = ap length n in omega (arith, z)
    go Ending.Paused h n = let z = ap (λ (l : List ℕ). get_or l 1 0) h in omega (arith, z)
    go Ending.Full h n = let z = ap (λ (l : List ℕ). get_or l 0 0) h in omega (arith, z)

pub no_plan_no_certificate : NoPlanNoCertificate
unfolding ending_text ending_certificate bytes_of line
no_plan_no_certificate bytes = go (amply_solved bytes).answer.ending
  where
    go : (e : Ending) → (SaysPlan (text_for bytes e) → ⊥) → kept_for bytes e ≡ []
    go (Ending.Refused k) h = refl
    go Ending.Planned h = absurd (h refl)
    go Ending.Paused h = refl
    go Ending.Full h = refl

pub certified_means : CertifiedMeans
certified_means bytes = ((amply_solved bytes).answer, amply_means bytes, bytes_print ample_room bytes (amply_solved bytes).answer (amply_means bytes))
