-- Worked by hand: the same rows in tables of either form, a table with a weight of 2 to the 28th, one with two equal rows and one without rows, and
-- what the conversions make of each in targets with room, without room and too short.
use Rattle.std.specs.Prelude.{ℕ, ◌≡◌, List, [], ◌∷◌, ◌++◌, replicate}
use Rattle.words.specs.Layout.{head_word, size_word, count_word, signs_word, weight_word, high_word}
use Rattle.fields.specs.Answers.{refused, good}
use Rattle.conversion.specs.Calls.{ConvertReturned, to_six_call, to_five_call}

-- the sign words of a row over one variable
abbrev pub signed : ℕ → List ℕ
signed S = signs_word 0 S ∷ signs_word 1 0 ∷ signs_word 2 0 ∷ signs_word 3 0 ∷ []

-- the front of a table over one variable of two values, with so many rows
abbrev pub front : ℕ → List ℕ
front k = head_word 1 ∷ size_word 2 ∷ count_word k ∷ []

-- two rows, of weights 3 and 268,435,455: in five-word rows with two words left over, and in six-word rows
abbrev pub old_table : List ℕ
old_table = front 2 ++ (signed 2 ++ (weight_word 3 ∷ (signed 1 ++ (weight_word 268435455 ∷ 0 ∷ 0 ∷ []))))

abbrev pub new_table : List ℕ
new_table = front 2 ++ (signed 2 ++ (weight_word 3 ∷ high_word 0 ∷ (signed 1 ++ (weight_word 268435455 ∷ high_word 0 ∷ []))))

-- one row of weight 268,435,456
abbrev pub wide_table : List ℕ
wide_table = front 1 ++ (signed 2 ++ (weight_word 0 ∷ high_word 1 ∷ []))

-- two rows with equal signs
abbrev pub twin_table : List ℕ
twin_table = front 2 ++ (signed 2 ++ (weight_word 3 ∷ (signed 2 ++ (weight_word 1 ∷ []))))

-- a target of so many words, whatever lay in it, and a call that refused it
abbrev pub lent : ℕ → List ℕ
lent n = replicate n 7

abbrev pub Refuses : ConvertReturned → ℕ → ℕ → Type 0
Refuses r n k = r ≡ record { answer = refused k; target = lent n }

pub record Worked : Type 0 where
  -- there: word for word, and zeros behind the rows
  pub six : to_six_call old_table (lent 15) ≡ record { answer = good 2; target = new_table }
  pub six_longer : to_six_call old_table (lent 17) ≡ record { answer = good 2; target = new_table ++ (0 ∷ 0 ∷ []) }
  pub six_full : Refuses (to_six_call old_table (lent 14)) 14 12
  pub six_no_room : Refuses (to_six_call old_table (lent 3)) 3 12
  pub six_short : Refuses (to_six_call old_table (lent 2)) 2 10
  pub six_of_new : Refuses (to_six_call new_table (lent 15)) 15 9
  pub six_of_twins : Refuses (to_six_call twin_table (lent 15)) 15 9
  -- and back
  pub five : to_five_call new_table (lent 15) ≡ record { answer = good 2; target = old_table }
  pub five_full : Refuses (to_five_call new_table (lent 12)) 12 12
  pub five_short : Refuses (to_five_call new_table (lent 2)) 2 10
  pub five_of_old : Refuses (to_five_call old_table (lent 15)) 15 9
  -- 16 from 268,435,456 on, after 10 and before 12
  pub too_wide : Refuses (to_five_call wide_table (lent 8)) 8 16
  pub wide_before_full : Refuses (to_five_call wide_table (lent 3)) 3 16
  pub short_before_wide : Refuses (to_five_call wide_table (lent 2)) 2 10
  -- without rows both ways
  pub bare_to_six : to_six_call (front 0) (lent 3) ≡ record { answer = good 0; target = front 0 }
  pub bare_to_five : to_five_call (front 0) (lent 3) ≡ record { answer = good 0; target = front 0 }
