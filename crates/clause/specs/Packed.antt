-- A clause in code: the twelve signs of up to twelve variables, three to a block of 24 bits. Variables that the field lacks have sign 0.
use Rattle.std.specs.Prelude.{ℕ, ◌<◌, ◌≡◌, Bool, false, ◌||◌, List, [], ◌∷◌, ◌++◌, map, eqb}
use Rattle.wcsp.specs.Sign.{full}
use Rattle.words.specs.Layout.{unpacked}
use Rattle.clause.specs.declared.Clause.{Clause}

-- the signs of four blocks
abbrev pub signs_in : ℕ → ℕ → ℕ → ℕ → List ℕ
signs_in a b c d = unpacked a ++ (unpacked b ++ (unpacked c ++ unpacked d))

-- the signs of a clause, variable by variable
unfoldable pub signs_of : Clause → List ℕ
signs_of x = signs_in x.a x.b x.c x.d

-- ---- for inner contracts

-- every block holds three signs and nothing else
pub record FitsBlocks (x : Clause) : Type 0 where
  pub a : x.a < 16777216
  pub b : x.b < 16777216
  pub c : x.c < 16777216
  pub d : x.d < 16777216

-- x is a packed clause with these signs
pub record Holds (x : Clause) (signs : List ℕ) : Type 0 where
  pub packed : FitsBlocks x
  pub signs_are : signs_of x ≡ signs

-- the clause of the full signs of twelve variables with these sizes
abbrev pub FullSigns : Clause → List ℕ → Type 0
FullSigns f ds = signs_of f ≡ map full ds

-- at some place the two lists are equal
unfoldable pub any_equal : List ℕ → List ℕ → Bool
any_equal [] y = false
any_equal (S ∷ x) [] = false
any_equal (S ∷ x) (T ∷ y) = eqb S T || any_equal x y
