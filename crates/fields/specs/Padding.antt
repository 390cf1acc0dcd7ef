-- Twelve variables in place of n, as the twelve sign places of a row have them: those that a field lacks have one value each, which no clause names.
use Rattle.std.specs.Prelude.{ℕ, ◌-◌, List, length}
use Rattle.wcsp.specs.Widening.{widened}
use Rattle.fields.specs.Limits.{max_variables}

-- how many variables a field of these sizes lacks
abbrev pub lacking : List ℕ → ℕ
lacking ds = max_variables - length ds

-- the sizes of twelve variables
unfoldable pub padded : List ℕ → List ℕ
padded ds = widened (lacking ds) ds
