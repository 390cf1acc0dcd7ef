-- What an accepted instance is known to be.
use Rattle.std.specs.Prelude.{ℕ, ◌+◌, ◌≡◌, List, [], length, get_or, drop}
use Rattle.wcsp.specs.Entry.{LeastCost}
use Rattle.wcsp.specs.Empty.{all_costs}
use Rattle.words.specs.Layout.{payload_of}
use Rattle.fields.specs.Entries.{FieldSizes, Entries}
use Rattle.fields.specs.Forbidden.{has_forbidden, has_forbidden_from}
use Rattle.input.specs.Instance.{instance_fault, sizes_of, entries_of}

pub record Accepted (ws : List ℕ) : Type 0 where
  pub sizes : FieldSizes (sizes_of ws)
  pub head : length (sizes_of ws) ≡ payload_of (get_or ws 0 0)
  pub entries : Entries (sizes_of ws) 0 (entries_of ws)

-- an instance without a fault, which is what accepted means, is within every limit
abbrev pub FaultlessIsAccepted : Type 0
FaultlessIsAccepted = (ws : List ℕ) → instance_fault ws ≡ 0 → Accepted ws

-- one with no variables (document 02: a field with no stations) has the sum of its costs as its least cost
abbrev pub LeastOfConstants : Type 0
LeastOfConstants = (ws : List ℕ) → instance_fault ws ≡ 0 → sizes_of ws ≡ [] → LeastCost [] (entries_of ws) (all_costs (entries_of ws))

-- in an accepted instance the entries of a forbidden entry's cost are those that a word of kind 11 closes, so an assignment has a forbidden combination
-- by the entries exactly if it has one by the words
abbrev pub ForbiddenByWords : Type 0
ForbiddenByWords = (ws p : List ℕ) → instance_fault ws ≡ 0
    → has_forbidden (entries_of ws) p ≡ has_forbidden_from [] (drop (1 + payload_of (get_or ws 0 0)) ws) p
