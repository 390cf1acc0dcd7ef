-- Forbidden combinations (document 02: spots nobody may core): which assignments have one, and that costs tell.
use Rattle.std.specs.Prelude.{ℕ, ◌+◌, ◌≤◌, ◌≡◌, Bool, true, false, ◌&&◌, ◌||◌, cond, List, [], ◌∷◌, ◌++◌, drop, eqb, leb}
use Rattle.wcsp.specs.Clause.{InRange}
use Rattle.wcsp.specs.Entry.{Binding, Entry, matches, cost}
use Rattle.words.specs.Layout.{kind_of, binding_word, variable_in, value_in, cost_word, forbidden_word}
use Rattle.fields.specs.Limits.{forbidden_cost}
use Rattle.fields.specs.Entries.{entries_from, Entries}

-- the assignment has a forbidden combination: every binding of an entry that is forbidden
unfoldable pub has_forbidden : List Entry → List ℕ → Bool
unfolding matches
has_forbidden [] p = false
has_forbidden (e ∷ es) p = (eqb e.cost forbidden_cost && matches p e.bindings) || has_forbidden es p

-- the same by words alone, after the bindings of an open entry: every binding of an entry that a word of kind 11 closes
unfoldable pub has_forbidden_from : List Binding → List ℕ → List ℕ → Bool
unfolding matches
has_forbidden_from bs [] p = false
has_forbidden_from bs (w ∷ ws) p =
    cond (eqb (kind_of w) 3) (has_forbidden_from (bs ++ (record { variable = variable_in w; value = value_in w } ∷ [])) ws p)
    (cond (eqb (kind_of w) 4) (has_forbidden_from [] ws p)
    (cond (eqb (kind_of w) 11) (matches p bs || has_forbidden_from [] ws p)
    (has_forbidden_from bs ws p)))

-- an assignment costs as much as a forbidden entry, or more, exactly if it has a forbidden combination
abbrev pub ForbiddenIsDear : Type 0
ForbiddenIsDear =
    (ds : List ℕ) (before : ℕ) (es : List Entry) → Entries ds before es → (p : List ℕ) → leb forbidden_cost (cost es p) ≡ has_forbidden es p

-- every assignment has a forbidden combination
abbrev pub AllForbidden : List ℕ → List Entry → Type 0
AllForbidden ds es = (p : List ℕ) → InRange ds p → has_forbidden es p ≡ true

-- every assignment that has these values from variable k on has one
abbrev pub AllForbiddenFrom : List ℕ → List Entry → ℕ → List ℕ → Type 0
AllForbiddenFrom ds es k q = (p : List ℕ) → InRange ds p → drop k p ≡ q → has_forbidden es p ≡ true

-- all have one if no assignment undercuts a bound that is at least as high as a forbidden entry's cost
abbrev pub BoundForbids : Type 0
BoundForbids = (ds : List ℕ) (before : ℕ) (es : List Entry) → Entries ds before es → (b : ℕ) → forbidden_cost ≤ b
    → ((p : List ℕ) → InRange ds p → b ≤ cost es p) → AllForbidden ds es

-- worked by hand: value 1 is forbidden and, by an entry of its own, costs 3
abbrev pub drain_words : List ℕ
drain_words = binding_word 0 1 ∷ forbidden_word ∷ binding_word 0 1 ∷ cost_word 3 ∷ []

pub record OverDrain : Type 0 where
  pub there : has_forbidden (entries_from [] drain_words) (1 ∷ []) ≡ true
  pub beside : has_forbidden (entries_from [] drain_words) (0 ∷ []) ≡ false
  pub dear : cost (entries_from [] drain_words) (1 ∷ []) ≡ forbidden_cost + 3
