-- The fields of an answer behind its number, written to the front of a slice as far as it goes.
use Rattle.std.specs.Prelude.{ℕ, List, [], ◌∷◌}

unfoldable pub noted : List ℕ → List ℕ → List ℕ
noted [] vs = []
noted (a ∷ rest) [] = a ∷ rest
noted (a ∷ rest) (v ∷ vs) = v ∷ noted rest vs
