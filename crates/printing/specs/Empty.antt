-- Document 02, a field with no stations: "its printed plan has no station lines".
use Rattle.std.specs.Prelude.{ℕ, ◌≤◌, ◌<◌, ◌≡◌, List, [], ◌∷◌}
use Rattle.wcsp.specs.Empty.{all_costs}
use Rattle.fields.specs.Limits.{forbidden_cost}
use Rattle.input.specs.Instance.{entries_of}
use Rattle.text.specs.Text.{refused_line, plan_head}
use Rattle.littleendian.specs.Words.{words_in}
use Rattle.planning.specs.Empty.{EmptySheet, constant_bytes, forbidden_bytes}
use Rattle.printing.specs.Printed.{printed}

-- the text of a sheet with no variables: PLAN, the sum of its costs and no steps, or REFUSED 15 where a constant cost forbids every plan
pub record EmptyPrinted (bytes : List ℕ) : Type 0 where
  pub planned : all_costs (entries_of (words_in bytes)) < forbidden_cost → printed bytes ≡ plan_head (all_costs (entries_of (words_in bytes))) 0
  pub refused : forbidden_cost ≤ all_costs (entries_of (words_in bytes)) → printed bytes ≡ refused_line 15

abbrev pub EmptyPrints : Type 0
EmptyPrints = (bytes : List ℕ) → EmptySheet bytes → EmptyPrinted bytes

-- no bytes print PLAN / COST 0 / STEPS 0; a cost of 12 behind a head of 0, and a word that forbids there
pub record EmptyTexts : Type 0 where
  pub nothing : printed []
      ≡ 80 ∷ 76 ∷ 65 ∷ 78 ∷ 10 ∷ 67 ∷ 79 ∷ 83 ∷ 84 ∷ 32 ∷ 48 ∷ 10 ∷ 83 ∷ 84 ∷ 69 ∷ 80 ∷ 83 ∷ 32 ∷ 48 ∷ 10 ∷ []
  pub constants : printed constant_bytes ≡ plan_head 12 0
  pub forbidden : printed forbidden_bytes ≡ refused_line 15
