-- Which numbers the value of bytes can have: by the cases of what it means.
use Prim.Native.Nat.{ℕ}
use native.Mathlib.Omega.{arith}
use mathlib.Core.List.{List}
use Rattle.planning.specs.Values.{Solved}
use Rattle.planning.specs.Solving.{ending_number}
use Rattle.planning.specs.Theorems.{SheetMeans, faulty, long_instance, many_rows, none_allowed, planned, paused, full, Means, too_long, no_words, of_words, SheetNumber, success, fault, too_short, too_many, no_plan, SolvedNumbers}
use Rattle.planning.proofs.Meaning.{solved_means}

sheet_number : (sheet : List ℕ) (s : Solved) → SheetMeans sheet s → SheetNumber (ending_number s.ending)
unfolding ending_number
sheet_number sheet _ (faulty k e low high) = fault k low high
sheet_number sheet _ (long_instance e h) = too_short
sheet_number sheet _ (many_rows e h m) = too_many
sheet_number sheet _ (none_allowed steps b h f r) = no_plan
sheet_number sheet _ (planned plan steps least h b f r) = success
sheet_number sheet _ (paused steps b h n r) = success
sheet_number sheet _ (full steps b h n r) = too_many

bytes_number : (bytes : List ℕ) (s : Solved) → Means bytes s → SheetNumber (ending_number s.ending)
unfolding ending_number
bytes_number bytes _ (too_long h) = too_short
bytes_number bytes _ (no_words h n) = fault 1 (omega arith) (omega arith)
bytes_number bytes _ (of_words s h e m) = sheet_number _ s m

pub solved_numbers : SolvedNumbers
solved_numbers bytes = bytes_number bytes _ (solved_means bytes)
