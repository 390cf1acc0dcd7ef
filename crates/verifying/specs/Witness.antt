-- Sheets and certificates on which the promises say something: accepted ones, and refusals of what is changed in them.
use Rattle.std.specs.Prelude.{ℕ, ◌≡◌, List, [], ◌∷◌, ◌++◌}
use Rattle.words.specs.Layout.{head_word, size_word, binding_word, cost_word, step_word, easting_word, northing_word, forbidden_word}
use Rattle.fields.specs.Limits.{forbidden_cost}
use Rattle.littleendian.specs.Words.{words_in, bytes_of}
use Rattle.making.specs.Made.{made_words}
use Rattle.certificate.specs.Certificate.{certificate_words}
use Rattle.text.specs.Text.{refused_line, accepted_head, variable_line}
use Rattle.verifying.specs.Verified.{verified_text, verified}
use Rattle.verifying.specs.Theorems.{SaysAccepted}

-- a certificate's bytes
abbrev pub claim_bytes : List ℕ → ℕ → List ℕ → List ℕ
claim_bytes plan cost derivation = bytes_of (certificate_words plan cost derivation)

-- a sheet with one variable, whose two values lie at the same place and cost 3 and 1 (document 01: P1)
abbrev pub two_values : List ℕ
two_values =
    bytes_of
    (head_word 1 ∷ size_word 2 ∷ easting_word 1000000 ∷ northing_word 1000000 ∷ easting_word 1000000 ∷ northing_word 1000000
    ∷ binding_word 0 0 ∷ cost_word 3 ∷ binding_word 0 1 ∷ cost_word 1 ∷ [])

-- the instance made from it
abbrev pub two_made : List ℕ
two_made = head_word 1 ∷ size_word 2 ∷ binding_word 0 0 ∷ cost_word 3 ∷ binding_word 0 1 ∷ cost_word 1 ∷ []

-- a sheet with no variables, where a word forbids every plan
abbrev pub none_allowed : List ℕ
none_allowed = bytes_of (head_word 0 ∷ forbidden_word ∷ [])

pub record Verdicts : Type 0 where
  -- no bytes of a sheet: the empty assignment costs nothing
  pub nothing : verified_text [] (claim_bytes [] 0 []) ≡ accepted_head 0 0
  pub nothing_says : SaysAccepted (verified_text [] (claim_bytes [] 0 []))
  pub nothing_read : verified (0 ∷ 0 ∷ 0 ∷ 0 ∷ claim_bytes [] 0 []) ≡ accepted_head 0 0
  -- another cost; a value too many; a word that is no step; no certificate; one byte of a certificate; three bytes of a sheet
  pub nothing_dearer : verified_text [] (claim_bytes [] 1 []) ≡ refused_line 7
  pub nothing_longer : verified_text [] (claim_bytes (0 ∷ []) 0 []) ≡ refused_line 7
  pub nothing_derived : verified_text [] (claim_bytes [] 0 (0 ∷ [])) ≡ refused_line 6
  pub no_claim : verified_text [] [] ≡ refused_line 7
  pub odd_claim : verified_text [] (0 ∷ []) ≡ refused_line 7
  pub odd_sheet : verified_text (0 ∷ 0 ∷ 0 ∷ []) (claim_bytes [] 0 []) ≡ refused_line 1
  -- the sheet of two values: value 1 costs 1, and one step proves that none costs less
  pub made : made_words (words_in two_values) ≡ two_made
  pub least : verified_text two_values (claim_bytes (1 ∷ []) 1 (step_word 0 0 1 ∷ [])) ≡ accepted_head 1 1 ++ variable_line 0 1 0
  pub least_says : SaysAccepted (verified_text two_values (claim_bytes (1 ∷ []) 1 (step_word 0 0 1 ∷ [])))
  -- another cost; another value, with the least cost and with its own; no step; the step made again
  pub other_cost : verified_text two_values (claim_bytes (1 ∷ []) 2 (step_word 0 0 1 ∷ [])) ≡ refused_line 7
  pub other_value : verified_text two_values (claim_bytes (0 ∷ []) 1 (step_word 0 0 1 ∷ [])) ≡ refused_line 7
  pub dearer : verified_text two_values (claim_bytes (0 ∷ []) 3 (step_word 0 0 1 ∷ [])) ≡ refused_line 7
  pub unproved : verified_text two_values (claim_bytes (1 ∷ []) 1 []) ≡ refused_line 7
  pub twice : verified_text two_values (claim_bytes (1 ∷ []) 1 (step_word 0 0 1 ∷ step_word 0 0 1 ∷ [])) ≡ refused_line 6
  -- a cost from which on every assignment has a forbidden combination
  pub barred : verified_text none_allowed (claim_bytes [] forbidden_cost []) ≡ accepted_head forbidden_cost 0
