-- A certificate: an assignment, its claimed cost, and the derivation that is to prove both, as words. It is the head with the number of variables, a
-- binding word for each variable in order, the claimed cost in two words of 28 bits, and the derivation's words to the end.
use Rattle.std.specs.Prelude.{ℕ, suc, ◌+◌, ◌*◌, ◌/◌, ◌%◌, Bool, true, ◌&&◌, List, [], ◌∷◌, ◌++◌, map, length, get_or, take, drop, eqb, ltb, leb}
use Rattle.words.specs.Layout.{kind_of, payload_of, head_word, binding_word, value_in, weight_word, high_word}
use Rattle.fields.specs.Limits.{max_variables, max_values}

-- ---- written

-- a binding word for each value, from variable v on (document 01: pair)
unfoldable pub binding_words : ℕ → List ℕ → List ℕ
binding_words v [] = []
binding_words v (a ∷ plan) = binding_word v a ∷ binding_words (suc v) plan

-- the low 28 bits of a cost in a word of kind 6, those above in one of kind 12, as a row's weight
abbrev pub cost_unit : ℕ
cost_unit = 268435456

-- what is claimed: the assignment and its cost
abbrev pub claim_words : List ℕ → ℕ → List ℕ
claim_words plan cost =
    head_word (length plan) ∷ (binding_words 0 plan ++ (weight_word (cost % cost_unit) ∷ (high_word (cost / cost_unit) ∷ [])))

abbrev pub certificate_words : List ℕ → ℕ → List ℕ → List ℕ
certificate_words plan cost derivation = claim_words plan cost ++ derivation

-- ---- read

-- the parts that words have, whatever they are: the number of variables, the words that bind them, the assignment, its cost, and the derivation
abbrev pub stated_variables : List ℕ → ℕ
stated_variables ws = payload_of (get_or ws 0 0)

abbrev pub stated_bindings : List ℕ → List ℕ
stated_bindings ws = take (stated_variables ws) (drop 1 ws)

abbrev pub stated_plan : List ℕ → List ℕ
stated_plan ws = map value_in (stated_bindings ws)

abbrev pub low_at : List ℕ → ℕ
low_at ws = get_or ws (stated_variables ws + 1) 0

abbrev pub high_at : List ℕ → ℕ
high_at ws = get_or ws (stated_variables ws + 2) 0

abbrev pub stated_cost : List ℕ → ℕ
stated_cost ws = payload_of (low_at ws) + payload_of (high_at ws) * cost_unit

abbrev pub stated_derivation : List ℕ → List ℕ
stated_derivation ws = drop (stated_variables ws + 3) ws

-- each word binds the variable of its place to one of eight values, and has no other bit set
unfoldable pub binds_in_order : ℕ → List ℕ → Bool
binds_in_order v [] = true
binds_in_order v (w ∷ ws) = eqb w (binding_word v (value_in w)) && ltb (value_in w) max_values && binds_in_order (suc v) ws

-- a head of at most twelve variables, a binding for each of them and two words of the cost stand in front
unfoldable pub has_claim : List ℕ → Bool
has_claim ws =
    eqb (kind_of (get_or ws 0 0)) 1 && leb (stated_variables ws) max_variables && leb (stated_variables ws + 3) (length ws)
    && binds_in_order 0 (stated_bindings ws) && eqb (kind_of (low_at ws)) 6 && eqb (kind_of (high_at ws)) 12
