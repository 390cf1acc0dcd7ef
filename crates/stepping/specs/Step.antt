-- What a step on rows comes to, and what may stop it: 11 and 12 are facts of the finished step.
use Rattle.std.specs.Prelude.{ℕ, cond, List, length, ltb}
use Rattle.wcsp.specs.Row.{Row}
use Rattle.wcsp.specs.Resolve.{Pair}
use Rattle.words.specs.Layout.{step_word, step_variable_in, first_row_in, second_row_in}
use Rattle.table.specs.Layout.{table_words, too_heavy}
use Rattle.table.specs.Meaning.{table_sizes}

-- what a step on a given pair comes to: a refusal, or the pair and the rows after it
pub data Stepping : Type 0 where
  refusing : ℕ → Stepping
  steps_to : Pair → List Row → Stepping

-- a step on this pair whose finished rows are these: 11 for a weight that passes the limit, then 12 for more rows than the capacity
unfoldable pub allowed : ℕ → Pair → List Row → Stepping
allowed cap pr rs = cond (too_heavy rs) (refusing 11) (cond (ltb cap (length rs)) (refusing 12) (steps_to pr rs))

-- the number of a refusal, 0 for none
unfoldable pub refusal_of : Stepping → ℕ
refusal_of (refusing k) = k
refusal_of (steps_to pr rs) = 0

-- the step word of a pair
abbrev pub pair_word : Pair → ℕ
pair_word pr = step_word pr.variable pr.first pr.second

-- the pair that a step word names
abbrev pub word_pair : ℕ → Pair
word_pair w = record { variable = step_variable_in w; first = first_row_in w; second = second_row_in w }

-- the slice of a table with other rows
abbrev pub with_rows : List ℕ → List Row → List ℕ
with_rows t rs = table_words (length t) (table_sizes t) rs
