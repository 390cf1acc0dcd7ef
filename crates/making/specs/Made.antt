-- The instance made from a sheet: one entry for each leg, then the sheet's entries.
use Rattle.std.specs.Prelude.{ℕ, suc, List, [], ◌∷◌, ◌++◌, map}
use Rattle.words.specs.Layout.{binding_word, cost_word}
use Rattle.wcsp.specs.Entry.{Entry}
use Rattle.fields.specs.Front.{front_words}
use Rattle.fields.specs.Entries.{entries_from}
use Rattle.sheet.specs.Sheet.{Point, positions_of, sheet_sizes, entry_words_of}
use Rattle.sheet.specs.Calls.{travel}

-- a leg: from value a of variable i to value b of the next, with its cost
pub record Leg : Type 0 where
  pub variable : ℕ
  pub value : ℕ
  pub next_value : ℕ
  pub metres : ℕ

-- the legs from one position to those of the next variable, its values counted from b
unfoldable pub legs_to : ℕ → ℕ → Point → ℕ → List Point → List Leg
legs_to i a p b [] = []
legs_to i a p b (q ∷ qs) =
    record { variable = i; value = a; next_value = b; metres = travel p q } ∷ legs_to i a p (suc b) qs

-- the legs between two variables, the first's values counted from a
unfoldable pub legs_between : ℕ → ℕ → List Point → List Point → List Leg
unfolding legs_to
legs_between i a [] qs = []
legs_between i a (p ∷ ps) qs = legs_to i a p 0 qs ++ legs_between i (suc a) ps qs

-- every leg, in document 01's counting order: variable, value, value of the next
unfoldable pub legs_from : ℕ → List (List Point) → List Leg
unfolding legs_between
legs_from i [] = []
legs_from i (ps ∷ []) = []
legs_from i (ps ∷ (qs ∷ rest)) = legs_between i 0 ps qs ++ legs_from (suc i) (qs ∷ rest)

-- a leg as an entry, and as its three words
abbrev pub leg_entry : Leg → Entry
leg_entry l =
    record {
      bindings = record { variable = l.variable; value = l.value } ∷ record { variable = suc l.variable; value = l.next_value } ∷ [];
      cost = l.metres;
    }

abbrev pub leg_words : Leg → List ℕ
leg_words l = binding_word l.variable l.value ∷ binding_word (suc l.variable) l.next_value ∷ cost_word l.metres ∷ []

unfoldable pub all_leg_words : List Leg → List ℕ
all_leg_words [] = []
all_leg_words (l ∷ ls) = leg_words l ++ all_leg_words ls

-- the words in front: those of the sheet's sizes, and none where the sheet has no words (document 02: "this sheet's instance has no words")
unfoldable pub made_front : List ℕ → List ℕ
made_front [] = []
made_front (w ∷ ws) = front_words (sheet_sizes (w ∷ ws))

-- the words of the instance made from an accepted sheet
unfoldable pub made_words : List ℕ → List ℕ
unfolding made_front legs_from all_leg_words
made_words sheet =
    made_front sheet ++ (all_leg_words (legs_from 0 (positions_of sheet)) ++ entry_words_of sheet)

-- its entries
unfoldable pub made_entries : List ℕ → List Entry
unfolding legs_from
made_entries sheet = map leg_entry (legs_from 0 (positions_of sheet)) ++ entries_from [] (entry_words_of sheet)
