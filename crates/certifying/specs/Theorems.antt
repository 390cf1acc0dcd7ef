-- Every certificate that is written is accepted with its sheet; and what the text means.
use Rattle.std.specs.Prelude.{ℕ, ◌≡◌, ◌≢◌, List, [], ◌++◌, take}
use Rattle.littleendian.specs.Words.{words_in}
use Rattle.planning.specs.Values.{Solved}
use Rattle.planning.specs.Theorems.{MeansIn}
use Rattle.text.specs.Text.{text_plan, plan_head, accepted_head}
use Rattle.printing.specs.Theorems.{Prints}
use Rattle.verifying.specs.Verified.{verified_text}
use Rattle.certifying.specs.Certified.{ample_room, certified_text, certificate_of}

-- of the same bytes: PLAN with a cost, steps and lines is printed, and with the certificate ACCEPTED with that cost, those steps and those lines
pub record PrintedAlike (bytes : List ℕ) : Type 0 where
  pub cost : ℕ
  pub steps : ℕ
  pub lines : List ℕ
  pub planned : certified_text bytes ≡ plan_head cost steps ++ lines
  pub accepted : verified_text bytes (certificate_of bytes) ≡ accepted_head cost steps ++ lines

abbrev pub CertifiedIsAccepted : Type 0
CertifiedIsAccepted = (bytes : List ℕ) → certificate_of bytes ≢ [] → PrintedAlike bytes

-- the text begins with the four letters PLAN
abbrev pub SaysPlan : List ℕ → Type 0
SaysPlan text = take 4 text ≡ text_plan

-- a certificate is written exactly where there is a plan
abbrev pub PlannedIsCertified : Type 0
PlannedIsCertified = (bytes : List ℕ) → SaysPlan (certified_text bytes) → certificate_of bytes ≢ []

abbrev pub NoPlanNoCertificate : Type 0
NoPlanNoCertificate = (bytes : List ℕ) → (SaysPlan (certified_text bytes) → ⊥) → certificate_of bytes ≡ []

-- for all bytes: a value that means, in this room, one of the cases of `MeansIn`, and its text
abbrev pub CertifiedMeans : Type 0
CertifiedMeans = (bytes : List ℕ) → (s : Solved) × MeansIn ample_room bytes s × Prints (words_in bytes) s (certified_text bytes)
