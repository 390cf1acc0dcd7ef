-- Which bytes are an assignment (document 01: a plan) of a field's sizes.
use Rattle.std.specs.Prelude.{ℕ, Bool, true, false, ◌&&◌, List, [], ◌∷◌, ltb}

-- one value below each size
unfoldable pub is_assignment : List ℕ → List ℕ → Bool
is_assignment [] [] = true
is_assignment [] (v ∷ p) = false
is_assignment (d ∷ ds) [] = false
is_assignment (d ∷ ds) (v ∷ p) = ltb v d && is_assignment ds p
