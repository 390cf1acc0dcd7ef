-- Inner: a value whose certificate can be put.
use Rattle.std.specs.Prelude.{ℕ, ◌≤◌, ◌≡◌, List, length, take}
use Rattle.sheet.specs.Sheet.{sheet_fault, sheet_sizes}
use Rattle.littleendian.specs.Words.{words_in}
use Rattle.planning.specs.Values.{Ending, Solved}
use Rattle.certificate.specs.Theorems.{Claimable}

-- where it has a plan, a certificate takes it and its cost, and the step words are there
pub record CertifiablePlan (sheet : List ℕ) (s : Solved) (words : List ℕ) : Type 0 where
  pub fine : sheet_fault sheet ≡ 0
  pub long : length (sheet_sizes sheet) ≤ length s.plan
  pub claim : Claimable (take (length (sheet_sizes sheet)) s.plan) s.bound
  pub made : s.steps ≤ length words

abbrev pub Certifiable : List ℕ → Solved → List ℕ → Type 0
Certifiable bytes s words = s.ending ≡ Ending.Planned → CertifiablePlan (words_in bytes) s words
