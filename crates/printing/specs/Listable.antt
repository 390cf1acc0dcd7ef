-- Inner: a value whose text can be put.
use Rattle.std.specs.Prelude.{ℕ, ◌*◌, ◌≤◌, ◌≡◌, List, length}
use Rattle.planning.specs.Values.{Ending, Solved}
use Rattle.littleendian.specs.Words.{words_in}
use Rattle.planning.specs.Solving.{buffer_words}
use Rattle.listing.specs.Plans.{HoldsPlan}

-- where it has a plan, this holds a value of every variable of the sheet, whose words fit into the buffer
abbrev pub Listable : List ℕ → Solved → Type 0
Listable bytes s = s.ending ≡ Ending.Planned → HoldsPlan (words_in bytes) s.plan × (length bytes ≤ 4 * buffer_words)
