-- Twelve signs as a clause: three to a block, four blocks.
use Rattle.std.specs.Prelude.{ℕ, ◌+◌, List, get_or}
use Rattle.words.specs.Layout.{packed}
use Rattle.clause.specs.declared.Clause.{Clause}

-- the three signs of a clause from variable v on, in one block
abbrev pub block_at : List ℕ → ℕ → ℕ
block_at signs v = packed (get_or signs v 0) (get_or signs (v + 1) 0) (get_or signs (v + 2) 0)

abbrev pub clause_from : List ℕ → Clause
clause_from c = record { a = block_at c 0; b = block_at c 3; c = block_at c 6; d = block_at c 9 }
