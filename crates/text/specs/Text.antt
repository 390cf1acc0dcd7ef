-- The printed text (document 01: the printed plan) as bytes: numbers as plain digits, lines of words parted by a space.
use Rattle.std.specs.Prelude.{ℕ, zero, suc, ◌+◌, ◌/◌, ◌%◌, cond, List, [], ◌∷◌, ◌++◌, ltb}
use Rattle.text.specs.declared.Stop.{Stop}
use Rattle.text.specs.declared.Head.{Head}

-- the decimal digits of a number of at most k digits, the most significant first, none in vain
unfoldable pub digits_in : ℕ → ℕ → List ℕ
digits_in zero n = []
digits_in (suc k) n = cond (ltb n 10) ((48 + n) ∷ []) (digits_in k (n / 10) ++ ((48 + n % 10) ∷ []))

-- 20 digits hold every number of 64 bits
abbrev pub decimal : ℕ → List ℕ
decimal n = digits_in 20 n

-- the fixed words: PLAN, COST, STEPS, REFUSED, PAUSED, FULL, BOUND, and ACCEPTED of a verified certificate
abbrev pub text_plan : List ℕ
text_plan = 80 ∷ 76 ∷ 65 ∷ 78 ∷ []

abbrev pub text_cost : List ℕ
text_cost = 67 ∷ 79 ∷ 83 ∷ 84 ∷ []

abbrev pub text_steps : List ℕ
text_steps = 83 ∷ 84 ∷ 69 ∷ 80 ∷ 83 ∷ []

abbrev pub text_refused : List ℕ
text_refused = 82 ∷ 69 ∷ 70 ∷ 85 ∷ 83 ∷ 69 ∷ 68 ∷ []

abbrev pub text_paused : List ℕ
text_paused = 80 ∷ 65 ∷ 85 ∷ 83 ∷ 69 ∷ 68 ∷ []

abbrev pub text_full : List ℕ
text_full = 70 ∷ 85 ∷ 76 ∷ 76 ∷ []

abbrev pub text_bound : List ℕ
text_bound = 66 ∷ 79 ∷ 85 ∷ 78 ∷ 68 ∷ []

abbrev pub text_accepted : List ℕ
text_accepted = 65 ∷ 67 ∷ 67 ∷ 69 ∷ 80 ∷ 84 ∷ 69 ∷ 68 ∷ []

-- the words of a line, a space between two and a line end (byte 10) behind the last
unfoldable pub line : List (List ℕ) → List ℕ
line [] = 10 ∷ []
line (w ∷ []) = w ++ (10 ∷ [])
line (w ∷ (v ∷ ws)) = w ++ (32 ∷ line (v ∷ ws))

-- REFUSED number
abbrev pub refused_line : ℕ → List ℕ
refused_line k = line (text_refused ∷ decimal k ∷ [])

-- PAUSED steps BOUND b; FULL steps BOUND b
abbrev pub paused_line : ℕ → ℕ → List ℕ
paused_line steps bound = line (text_paused ∷ decimal steps ∷ text_bound ∷ decimal bound ∷ [])

abbrev pub full_line : ℕ → ℕ → List ℕ
full_line steps bound = line (text_full ∷ decimal steps ∷ text_bound ∷ decimal bound ∷ [])

-- COST c, STEPS k
abbrev pub cost_lines : ℕ → ℕ → List ℕ
cost_lines cost steps = line (text_cost ∷ decimal cost ∷ []) ++ line (text_steps ∷ decimal steps ∷ [])

-- PLAN, COST c, STEPS k; ACCEPTED, COST c, STEPS k
abbrev pub plan_head : ℕ → ℕ → List ℕ
plan_head cost steps = line (text_plan ∷ []) ++ cost_lines cost steps

abbrev pub accepted_head : ℕ → ℕ → List ℕ
accepted_head cost steps = line (text_accepted ∷ []) ++ cost_lines cost steps

-- the line of a run that stopped, and the head of an assignment, by their first words
abbrev pub stopped_line : Stop → ℕ → ℕ → List ℕ
stopped_line Stop.Paused steps bound = paused_line steps bound
stopped_line Stop.Full steps bound = full_line steps bound

abbrev pub head_lines : Head → ℕ → ℕ → List ℕ
head_lines Head.Plan cost steps = plan_head cost steps
head_lines Head.Accepted cost steps = accepted_head cost steps

-- three numbers
abbrev pub three_line : ℕ → ℕ → ℕ → List ℕ
three_line a b c = line (decimal a ∷ decimal b ∷ decimal c ∷ [])

-- a variable, its value, and the metres to it (document 01: station, spot, metres from the previous chosen spot)
abbrev pub variable_line : ℕ → ℕ → ℕ → List ℕ
variable_line variable value metres = three_line variable value metres
