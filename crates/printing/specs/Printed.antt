-- The text that the program prints for the bytes that it reads (document 01: the printed plan).
use Rattle.std.specs.Prelude.{ℕ, List, ◌++◌}
use Rattle.text.specs.Text.{refused_line, paused_line, full_line, plan_head}
use Rattle.listing.specs.Listed.{assignment_lines}
use Rattle.planning.specs.Values.{Ending, Solved}
use Rattle.littleendian.specs.Words.{words_in}
use Rattle.planning.specs.Solving.{solved_of}

-- the text of an assignment, its cost and the steps to it
abbrev pub plan_text : List ℕ → List ℕ → ℕ → ℕ → List ℕ
plan_text sheet plan steps cost = plan_head cost steps ++ assignment_lines sheet plan

-- the text for each ending
unfoldable pub ending_text : List ℕ → List ℕ → ℕ → ℕ → Ending → List ℕ
ending_text sheet plan steps bound (Ending.Refused k) = refused_line k
ending_text sheet plan steps bound Ending.Planned = plan_text sheet plan steps bound
ending_text sheet plan steps bound Ending.Paused = paused_line steps bound
ending_text sheet plan steps bound Ending.Full = full_line steps bound

-- the text of what a sheet came to
abbrev pub solved_text : List ℕ → Solved → List ℕ
solved_text sheet solved = ending_text sheet solved.plan solved.steps solved.bound solved.ending

abbrev pub printed : List ℕ → List ℕ
printed bytes = solved_text (words_in bytes) (solved_of bytes)
