-- Document 02, a field with no stations: what a sheet with no variables comes to.
use Rattle.std.specs.Prelude.{ℕ, ◌*◌, ◌%◌, ◌≤◌, ◌<◌, ◌≡◌, List, [], ◌∷◌, length}
use Rattle.wcsp.specs.Entry.{Entry}
use Rattle.wcsp.specs.Empty.{all_costs}
use Rattle.fields.specs.Limits.{forbidden_cost}
use Rattle.sheet.specs.Sheet.{sheet_fault, sheet_sizes}
use Rattle.input.specs.Instance.{entries_of}
use Rattle.littleendian.specs.Words.{words_in}
use Rattle.planning.specs.Values.{Ending, Solved}
use Rattle.planning.specs.Solving.{buffer_words, refused_solved, solved_of}

-- bytes whose words are an accepted sheet with no variables: none at all, or a head of 0 and constant costs
pub record EmptySheet (bytes : List ℕ) : Type 0 where
  pub short : length bytes ≤ 4 * buffer_words
  pub words : length bytes % 4 ≡ 0
  pub fine : sheet_fault (words_in bytes) ≡ 0
  pub empty : sheet_sizes (words_in bytes) ≡ []

-- its value, its words being their own instance (`EmptyMade`): a plan at the sum of the costs, without a step, or 15 where a constant cost forbids
-- every plan; never 10, 12, a pause or a full table
pub record EmptySolved (es : List Entry) (s : Solved) : Type 0 where
  pub planned : all_costs es < forbidden_cost → (s.ending ≡ Ending.Planned) × (s.steps ≡ 0) × (s.bound ≡ all_costs es)
  pub refused : forbidden_cost ≤ all_costs es → s ≡ refused_solved 15

abbrev pub EmptySolves : Type 0
EmptySolves = (bytes : List ℕ) → EmptySheet bytes → EmptySolved (entries_of (words_in bytes)) (solved_of bytes)

-- such sheets: no bytes; a head of 0 and a cost of 12; a head of 0 and a word that forbids every plan
abbrev pub constant_bytes : List ℕ
constant_bytes = 0 ∷ 0 ∷ 0 ∷ 16 ∷ 12 ∷ 0 ∷ 0 ∷ 64 ∷ []

abbrev pub forbidden_bytes : List ℕ
forbidden_bytes = 0 ∷ 0 ∷ 0 ∷ 16 ∷ 0 ∷ 0 ∷ 0 ∷ 176 ∷ []

pub record EmptyBytes : Type 0 where
  pub nothing : EmptySheet []
  pub constants : EmptySheet constant_bytes
  pub forbidden : EmptySheet forbidden_bytes
