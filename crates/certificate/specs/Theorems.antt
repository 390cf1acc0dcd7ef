-- Certificates that were written are read, and only what could have been written has a claim.
use Rattle.std.specs.Prelude.{ℕ, ◌<◌, ◌≤◌, ◌≡◌, true, List, length}
use Rattle.fields.specs.Limits.{max_variables, max_values}
use Rattle.fields.specs.Entries.{Each}
use Rattle.certificate.specs.Certificate.{certificate_words, stated_variables, stated_plan, stated_cost, stated_derivation, has_claim}

-- an assignment of at most twelve values below eight; a cost has 56 bits
pub record Claimable (plan : List ℕ) (cost : ℕ) : Type 0 where
  pub few : length plan ≤ max_variables
  pub values : Each (λ a. a < max_values) plan
  pub small : cost < 72057594037927936

-- words state this assignment, this cost and this derivation
pub record States (ws p : List ℕ) (c : ℕ) (d : List ℕ) : Type 0 where
  pub claim : has_claim ws ≡ true
  pub variables : stated_variables ws ≡ length p
  pub plan : stated_plan ws ≡ p
  pub cost : stated_cost ws ≡ c
  pub derivation : stated_derivation ws ≡ d

abbrev pub WrittenIsStated : Type 0
WrittenIsStated = (plan : List ℕ) (cost : ℕ) (derivation : List ℕ) → Claimable plan cost
    → States (certificate_words plan cost derivation) plan cost derivation

-- words that have a claim are the certificate of what they state, so no word and no bit is passed over
abbrev pub StatedIsWritten : Type 0
StatedIsWritten = (ws : List ℕ) → has_claim ws ≡ true
    → Claimable (stated_plan ws) (stated_cost ws) × (ws ≡ certificate_words (stated_plan ws) (stated_cost ws) (stated_derivation ws))
