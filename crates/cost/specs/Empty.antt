-- Worked by hand: the cost call on instances with no variables (document 02: a field with no stations), whose one assignment has no bytes.
use Rattle.std.specs.Prelude.{◌≡◌, [], ◌∷◌}
use Rattle.words.specs.Layout.{head_word, cost_word, forbidden_word}
use Rattle.fields.specs.Limits.{forbidden_cost}
use Rattle.fields.specs.Answers.{refused, good}
use Rattle.cost.specs.Calls.{cost_call}

pub record EmptyCosts : Type 0 where
  pub nothing : cost_call [] [] ≡ good 0
  pub head : cost_call (head_word 0 ∷ []) [] ≡ good 0
  pub constants : cost_call (head_word 0 ∷ cost_word 5 ∷ cost_word 7 ∷ []) [] ≡ good 12
  pub forbidden : cost_call (head_word 0 ∷ forbidden_word ∷ []) [] ≡ good forbidden_cost
  pub byte : cost_call [] (0 ∷ []) ≡ refused 7
