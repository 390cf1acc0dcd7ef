-- The line of a season's figures: the counts, the sum, the largest and its sheet, single spaces between.
use Rattle.std.specs.Prelude.{List, [], ◌∷◌, ◌++◌, map, ℕ}
use Rattle.text.specs.Text.{decimal, line}
use Rattle.figures.specs.declared.Figures.{Figures}

abbrev pub figures_line : Figures → List ℕ
figures_line f = line (map decimal (f.counts ++ (f.sum ∷ f.largest ∷ f.first ∷ [])))

-- ---- for inner contracts

-- the words of a line that goes on: a space behind each
unfoldable pub spaced : List ℕ → List ℕ
spaced [] = []
spaced (k ∷ ks) = decimal k ++ (32 ∷ spaced ks)
