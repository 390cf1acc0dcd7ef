-- Inner: what the code reads of a certificate's front.
use Rattle.std.specs.Prelude.{ℕ, cond, List}
use Rattle.certificate.specs.declared.Claim.{Claim}
use Rattle.certificate.specs.Certificate.{stated_variables, stated_cost, has_claim}

-- the number of variables and the claimed cost, if the words have a claim
unfoldable pub claim_of : List ℕ → Claim
claim_of ws = cond (has_claim ws) (Claim.Stated (stated_variables ws) (stated_cost ws)) Claim.Nothing
