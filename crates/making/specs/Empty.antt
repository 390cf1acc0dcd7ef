-- Sheets with no variables (document 02: a field with no stations): the instance has the sheet's own words, and none where the sheet has none.
use Rattle.std.specs.Prelude.{ℕ, ◌≡◌, List, [], ◌∷◌}
use Rattle.words.specs.Layout.{head_word, size_word, binding_word, cost_word, forbidden_word}
use Rattle.fields.specs.Answers.{refused, good}
use Rattle.sheet.specs.Sheet.{sheet_fault, sheet_sizes}
use Rattle.making.specs.Made.{made_words}
use Rattle.making.specs.Calls.{make_call}

abbrev pub EmptyMade : Type 0
EmptyMade = (sheet : List ℕ) → sheet_fault sheet ≡ 0 → sheet_sizes sheet ≡ [] → made_words sheet ≡ sheet

-- worked by hand: no words; a head of 0, alone and with constant costs; words that are refused; heads of 12 and 13
pub record EmptyMakes : Type 0 where
  pub nothing : make_call [] [] ≡ record { answer = good 0; target = [] }
  pub kept : make_call [] (9 ∷ 8 ∷ []) ≡ record { answer = good 0; target = 9 ∷ 8 ∷ [] }
  pub head : make_call (head_word 0 ∷ []) (9 ∷ 8 ∷ []) ≡ record { answer = good 1; target = head_word 0 ∷ 8 ∷ [] }
  pub short : make_call (head_word 0 ∷ []) [] ≡ record { answer = refused 10; target = [] }
  pub constants : make_call (head_word 0 ∷ cost_word 5 ∷ forbidden_word ∷ []) (9 ∷ 9 ∷ 9 ∷ 8 ∷ [])
      ≡ record { answer = good 3; target = head_word 0 ∷ cost_word 5 ∷ forbidden_word ∷ 8 ∷ [] }
  pub binding : sheet_fault (head_word 0 ∷ binding_word 0 0 ∷ cost_word 5 ∷ []) ≡ 3
  pub station : sheet_fault (head_word 0 ∷ size_word 1 ∷ []) ≡ 3
  pub no_head : sheet_fault (cost_word 5 ∷ []) ≡ 1
  pub twelve : sheet_fault (head_word 12 ∷ []) ≡ 2
  pub thirteen : sheet_fault (head_word 13 ∷ []) ≡ 1
