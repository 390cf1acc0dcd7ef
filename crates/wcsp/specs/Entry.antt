-- Cost functions as lists of entries (document 004, Definition 26), an assignment's cost, the encoding (Definition 28) and the least cost.
use Rattle.std.specs.Prelude.{ℕ, zero, suc, ◌+◌, ◌-◌, ◌^◌, ◌<◌, ◌≤◌, ◌≡◌, Bool, true, ◌&&◌, cond, List, [], ◌∷◌, length, get_or, set, replicate, eqb}
use Rattle.wcsp.specs.Sign.{full}
use Rattle.wcsp.specs.Clause.{InRange}
use Rattle.wcsp.specs.Row.{Row, add}

-- a variable bound to a value (document 01: pair, a station with a spot)
pub record Binding : Type 0 where
  pub variable : ℕ
  pub value : ℕ

-- a cost on the combination of its bindings; no binding: a constant cost
pub record Entry : Type 0 where
  pub bindings : List Binding
  pub cost : ℕ

-- the assignment has every binding
unfoldable pub matches : List ℕ → List Binding → Bool
matches p [] = true
matches p (b ∷ bs) = eqb (get_or p b.variable 0) b.value && matches p bs

-- the cost of an assignment: the sum of the entries all of whose bindings it has
unfoldable pub cost : List Entry → List ℕ → ℕ
unfolding matches
cost [] p = zero
cost (e ∷ es) p = cond (matches p e.bindings) e.cost 0 + cost es p

-- bindings over these sizes: variables strictly rising from k on, values in range
pub data Rising (ds : List ℕ) : ℕ → List Binding → Type 0 where
  nil_rising : {k : ℕ} → Rising ds k []
  cons_rising : {k : ℕ} {b : Binding} {bs : List Binding} → k ≤ b.variable → b.variable < length ds
      → b.value < get_or ds b.variable 0 → Rising ds (suc b.variable) bs → Rising ds k (b ∷ bs)

-- every entry's bindings are such
pub data WellFormed (ds : List ℕ) : List Entry → Type 0 where
  nil_entries : WellFormed ds []
  cons_entries : {e : Entry} {es : List Entry} → Rising ds 0 e.bindings → WellFormed ds es → WellFormed ds (e ∷ es)

-- the clause of an entry: at each of its variables all values but the named one, elsewhere absent
unfoldable pub clause_of : List ℕ → List Binding → List ℕ
clause_of ds [] = replicate (length ds) 0
clause_of ds (b ∷ bs) = set (clause_of ds bs) b.variable (full (get_or ds b.variable 0) - 2 ^ b.value)

-- the rows with each entry of cost above 0 added in order
unfoldable pub encode_onto : List ℕ → List Row → List Entry → List Row
unfolding clause_of
encode_onto ds rs [] = rs
encode_onto ds rs (e ∷ es) =
    encode_onto ds (cond (eqb e.cost 0) rs (add ds e.cost rs (clause_of ds e.bindings))) es

-- the encoding of an instance
unfoldable pub encoded : List ℕ → List Entry → List Row
unfolding encode_onto
encoded ds es = encode_onto ds [] es

-- m is the least cost: some assignment in range has it and none undercuts it
pub record LeastCost (ds : List ℕ) (es : List Entry) (m : ℕ) : Type 0 where
  pub assignment : List ℕ
  pub in_range : InRange ds assignment
  pub attained : cost es assignment ≡ m
  pub least : (p : List ℕ) → InRange ds p → m ≤ cost es p
