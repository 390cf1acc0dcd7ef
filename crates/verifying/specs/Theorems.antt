-- What an accepted certificate means, whoever wrote it.
use Rattle.std.specs.Prelude.{ℕ, ◌*◌, ◌%◌, ◌≤◌, ◌<◌, ◌≡◌, false, List, [], ◌∷◌, ◌++◌, length, take}
use Rattle.fields.specs.Limits.{forbidden_cost}
use Rattle.fields.specs.Forbidden.{has_forbidden, AllForbidden}
use Rattle.littleendian.specs.Words.{words_in, bytes_of}
use Rattle.sheet.specs.Sheet.{sheet_fault, sheet_sizes}
use Rattle.making.specs.Made.{made_entries}
use Rattle.checker.specs.Theorems.{Best, CheckNumber}
use Rattle.certificate.specs.Certificate.{stated_plan, stated_cost, stated_derivation}
use Rattle.text.specs.Text.{text_accepted}
use Rattle.verifying.specs.Verified.{sheet_words, accepted_text, verdict_of, verified_text, sheet_in, certificate_in, verified}

-- what a text says of the bytes of a sheet and of a certificate
pub record Accepted (sheet certificate text : List ℕ) : Type 0 where
  pub plan : List ℕ
  pub cost : ℕ
  pub steps : ℕ
  pub prints : text ≡ accepted_text (words_in sheet) plan steps cost
  -- the sheet is whole words, no more than there may be, and without a fault
  pub short : length sheet ≤ 4 * sheet_words
  pub whole : length sheet % 4 ≡ 0
  pub fine : sheet_fault (words_in sheet) ≡ 0
  -- the lines are those of an assignment of the sheet's values whose cost, over its legs and its entries, is the one printed; none costs less
  pub best : Best (sheet_sizes (words_in sheet)) (made_entries (words_in sheet)) plan cost
  -- it has no forbidden combination, or every assignment has one
  pub free : cost < forbidden_cost → has_forbidden (made_entries (words_in sheet)) plan ≡ false
  pub barred : forbidden_cost ≤ cost → AllForbidden (sheet_sizes (words_in sheet)) (made_entries (words_in sheet))
  -- assignment and cost are those that the certificate claims, and every word behind its claim is a step
  pub claimed : (plan ≡ stated_plan (words_in certificate)) × (cost ≡ stated_cost (words_in certificate))
  pub counted : steps ≡ length (stated_derivation (words_in certificate))

-- the text begins with the eight letters
abbrev pub SaysAccepted : List ℕ → Type 0
SaysAccepted text = take 8 text ≡ text_accepted

-- for all bytes of a sheet and of a certificate
abbrev pub AcceptedMeans : Type 0
AcceptedMeans = (sheet certificate : List ℕ) → SaysAccepted (verified_text sheet certificate) → Accepted sheet certificate (verified_text sheet certificate)

-- and for all bytes that the program reads
abbrev pub AcceptedInput : Type 0
AcceptedInput = (bytes : List ℕ) → SaysAccepted (verified bytes) → Accepted (sheet_in bytes) (certificate_in bytes) (verified bytes)

-- the program's input for two files: these are the bytes that it takes for the sheet and for the certificate
abbrev pub request_of : List ℕ → List ℕ → List ℕ
request_of sheet certificate = bytes_of (length sheet ∷ []) ++ (sheet ++ certificate)

abbrev pub RequestIsRead : Type 0
RequestIsRead = (sheet certificate : List ℕ) → verified (request_of sheet certificate) ≡ verified_text sheet certificate

-- the numbers that can be printed: those of a check
abbrev pub VerdictNumbers : Type 0
VerdictNumbers = (sheet certificate : List ℕ) → CheckNumber (verdict_of sheet certificate).number
