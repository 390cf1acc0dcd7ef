-- The resolution rule on two clauses at variable s (document 000, Definition 19.10), and when document 01 permits it.
use Rattle.std.specs.Prelude.{ℕ, Bool, false, not, ◌&&◌, ◌||◌, cond, List, [], ◌∷◌, ◌++◌, map, get_or, set, eqb}
use Rattle.std.specs.Int.Bits.{bit_and, bit_or}
use Rattle.wcsp.specs.Sign.{full, complement, within, present}

-- the signs joined at every variable
unfoldable pub joined : List ℕ → List ℕ → List ℕ
joined [] y = []
joined (S ∷ x) [] = []
joined (S ∷ x) (T ∷ y) = bit_or S T ∷ joined x y

-- the other literals of a clause: without its sign at s (document 01: A of the first row, B of the second)
abbrev pub others : ℕ → List ℕ → List ℕ
others s x = set x s 0

-- for each literal of y, in rising order: x with the literals of y before it, and with it complemented
unfoldable pub excluding : List ℕ → List ℕ → List ℕ → List (List ℕ)
excluding [] x y = []
excluding (d ∷ ds) [] y = []
excluding (d ∷ ds) (S ∷ x) [] = []
excluding (d ∷ ds) (S ∷ x) (T ∷ y) =
    cond (present T) ((bit_or S (complement d T) ∷ x) ∷ []) [] ++ map (λ c. bit_or S T ∷ c) (excluding ds x y)

-- the conclusions, in document 01's groups: 1 the signs met at s and joined elsewhere; 2 joined everywhere;
-- 3 the first row, for each other literal of the second; 4 the second, for each other literal of the first
unfoldable pub conclusions : List ℕ → ℕ → List ℕ → List ℕ → List (List ℕ)
unfolding joined excluding
conclusions ds s x y =
    set (joined x y) s (bit_and (get_or x s 0) (get_or y s 0))
    ∷ joined x y
    ∷ (excluding ds x (others s y) ++ excluding ds y (others s x))

-- at some variable present in both the union of the signs is full
unfoldable pub clashing : List ℕ → List ℕ → List ℕ → Bool
clashing [] x y = false
clashing (d ∷ ds) [] y = false
clashing (d ∷ ds) (S ∷ x) [] = false
clashing (d ∷ ds) (S ∷ x) (T ∷ y) = (present S && present T && eqb (bit_or S T) (full d)) || clashing ds x y

-- one of the signs contains the other, equal ones included; an absent sign lies in every other
unfoldable pub nested : ℕ → ℕ → Bool
nested S T = within S T || within T S

-- two clauses may be resolved on s: neither sign there contains the other, and no other variable present in both has signs whose union is full
unfoldable pub permitted : List ℕ → ℕ → List ℕ → List ℕ → Bool
unfolding nested clashing
permitted ds s x y = not (nested (get_or x s 0) (get_or y s 0)) && not (clashing ds (others s x) (others s y))
