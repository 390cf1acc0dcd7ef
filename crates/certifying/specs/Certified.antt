-- What is written for a sheet's bytes: the text of what they come to with more room than document 01's program has, and the certificate of a plan.
use Rattle.std.specs.Prelude.{ℕ, List, [], length, take, replicate}
use Rattle.sheet.specs.Sheet.{sheet_sizes}
use Rattle.littleendian.specs.Words.{words_in, bytes_of}
use Rattle.planning.specs.Values.{Ending, Solved}
use Rattle.planning.specs.Solving.{buffer_words, SolveReturned, solve_bytes}
use Rattle.planning.specs.Theorems.{Room}
use Rattle.printing.specs.Printed.{solved_text}
use Rattle.certificate.specs.Certificate.{certificate_words}
use Rattle.verifying.specs.Verified.{most_derivation, work_words}

-- the instance's buffer is that of document 01's program; the table takes 4,096 rows over twelve variables, and there is a word for each of 200,000 steps
abbrev pub ample_room : Room
ample_room = record { instance = buffer_words; table = work_words; most = most_derivation }

-- bytes planned in that room, all zero
abbrev pub amply_solved : List ℕ → SolveReturned
amply_solved bytes = solve_bytes bytes most_derivation (replicate buffer_words 0) (replicate work_words 0) (replicate most_derivation 0)

-- the text, as the planner's for its own room
abbrev pub certified_text : List ℕ → List ℕ
certified_text bytes = solved_text (words_in bytes) (amply_solved bytes).answer

-- the certificate of an ending: a plan's has a value for each variable, the run's bound as its cost, and the words of the run's steps; no plan, no certificate
unfoldable pub ending_certificate : List ℕ → List ℕ → ℕ → ℕ → List ℕ → Ending → List ℕ
ending_certificate sheet plan steps bound words (Ending.Refused k) = []
ending_certificate sheet plan steps bound words Ending.Planned = certificate_words (take (length (sheet_sizes sheet)) plan) bound (take steps words)
ending_certificate sheet plan steps bound words Ending.Paused = []
ending_certificate sheet plan steps bound words Ending.Full = []

abbrev pub solved_certificate : List ℕ → Solved → List ℕ → List ℕ
solved_certificate sheet s words = ending_certificate sheet s.plan s.steps s.bound words s.ending

abbrev pub certificate_of : List ℕ → List ℕ
certificate_of bytes = bytes_of (solved_certificate (words_in bytes) (amply_solved bytes).answer (amply_solved bytes).steps)
