-- Bytes on which the promises say something: sheets that have a certificate, and bytes that have none.
use Rattle.std.specs.Prelude.{◌≡◌, ◌≢◌, [], ◌∷◌, ◌++◌}
use Rattle.words.specs.Layout.{step_word}
use Rattle.text.specs.Text.{refused_line, plan_head, variable_line}
use Rattle.planning.specs.Empty.{constant_bytes, forbidden_bytes}
use Rattle.verifying.specs.Witness.{claim_bytes, two_values}
use Rattle.certifying.specs.Certified.{certified_text, certificate_of}

pub record Witnesses : Type 0 where
  -- no bytes: the empty assignment costs nothing
  pub nothing : certificate_of [] ≡ claim_bytes [] 0 []
  pub nothing_made : certificate_of [] ≢ []
  pub nothing_text : certified_text [] ≡ plan_head 0 0
  -- a constant cost of 12
  pub constants : certificate_of constant_bytes ≡ claim_bytes [] 12 []
  pub constants_made : certificate_of constant_bytes ≢ []
  pub constants_text : certified_text constant_bytes ≡ plan_head 12 0
  -- one variable, of whose two values the second costs less: its certificate is that of `Verdicts`
  pub two : certificate_of two_values ≡ claim_bytes (1 ∷ []) 1 (step_word 0 0 1 ∷ [])
  pub two_made : certificate_of two_values ≢ []
  pub two_text : certified_text two_values ≡ plan_head 1 1 ++ variable_line 0 1 0
  -- a word that forbids every plan; three bytes
  pub forbidden : certificate_of forbidden_bytes ≡ []
  pub forbidden_text : certified_text forbidden_bytes ≡ refused_line 15
  pub odd : certificate_of (0 ∷ 0 ∷ 0 ∷ []) ≡ []
  pub odd_text : certified_text (0 ∷ 0 ∷ 0 ∷ []) ≡ refused_line 1
