-- Entries as words by their kind numbers, and which sizes and entries a field can have.
use Rattle.std.specs.Prelude.{ℕ, ◌+◌, ◌≤◌, ◌≡◌, ◌⊎◌, Bool, ◌||◌, cond, List, [], ◌∷◌, ◌++◌, length, eqb}
use Rattle.wcsp.specs.Clause.{AllPositive}
use Rattle.wcsp.specs.Entry.{Binding, Entry, WellFormed, cost}
use Rattle.words.specs.Layout.{kind_of, payload_of, variable_in, value_in}
use Rattle.fields.specs.Limits.{max_variables, max_values, max_entries, max_cost, forbidden_cost, greatest_cost}

-- a word that closes an entry: its cost, or in place of it a word that forbids the combination
unfoldable pub closes_entry : ℕ → Bool
closes_entry w = eqb (kind_of w) 4 || eqb (kind_of w) 11

-- the cost that such a word gives, 0 if the word closes no entry
unfoldable pub cost_of : ℕ → ℕ
cost_of w = cond (eqb (kind_of w) 4) (payload_of w) (cond (eqb (kind_of w) 11) forbidden_cost 0)

-- the entries that words mean, after the bindings of an open entry; a word that neither binds nor closes is passed over
unfoldable pub entries_from : List Binding → List ℕ → List Entry
unfolding closes_entry cost_of
entries_from bs [] = []
entries_from bs (w ∷ ws) =
    cond (eqb (kind_of w) 3) (entries_from (bs ++ (record { variable = variable_in w; value = value_in w } ∷ [])) ws)
    (cond (closes_entry w) (record { bindings = bs; cost = cost_of w } ∷ entries_from [] ws)
    (entries_from bs ws))

-- P holds of every element
pub data Each {A : Type 0} (P : A → Type 0) : List A → Type 0 where
  nil_each : Each P []
  cons_each : {x : A} {xs : List A} → P x → Each P xs → Each P (x ∷ xs)

-- domain sizes, each from 1 to 8
abbrev pub EachSize : List ℕ → Type 0
EachSize ds = Each (λ d. (1 ≤ d) × (d ≤ max_values)) ds

-- sizes of a field: at most 12 of them, each 1 to 8
pub record FieldSizes (ds : List ℕ) : Type 0 where
  pub most : length ds ≤ max_variables
  pub each : EachSize ds
  pub positive : AllPositive ds

-- what an entry may cost: at most the limit, or what a forbidden one does
abbrev pub EntryCost : ℕ → Type 0
EntryCost c = (c ≤ max_cost) ⊎ (c ≡ forbidden_cost)

abbrev pub Priced : List Entry → Type 0
Priced es = Each (λ e. EntryCost e.cost) es

-- entries over these sizes, at most so many with those before, and each costs at most the limit or is forbidden
pub record Entries (ds : List ℕ) (before : ℕ) (es : List Entry) : Type 0 where
  pub well_formed : WellFormed ds es
  pub number : before + length es ≤ max_entries
  pub costs : Priced es

-- no assignment of them costs more than the greatest cost
abbrev pub CostsBounded : Type 0
CostsBounded = (ds : List ℕ) (before : ℕ) (es : List Entry) → Entries ds before es → (p : List ℕ) → cost es p ≤ greatest_cost
