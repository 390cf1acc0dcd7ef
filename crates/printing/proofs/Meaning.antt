-- The printed text is that of the value of the bytes, whatever the value means.
use Prim.Native.Nat.{ℕ}
use mathlib.Core.List.{List}
use Rattle.planning.specs.Values.{Solved}
use Rattle.planning.specs.Solving.{solved_of}
use Rattle.littleendian.specs.Words.{words_in}
use Rattle.planning.specs.Theorems.{Room, program_room, SheetMeansIn, faulty, long_instance, many_rows, none_allowed, planned, paused, full, MeansIn, too_long, no_words, of_words}
use Rattle.planning.proofs.Meaning.{solved_means}
use Rattle.printing.specs.Printed.{ending_text, solved_text}
use Rattle.printing.specs.Theorems.{Prints, refused_prints, planned_prints, paused_prints, full_prints, PrintedMeans}

sheet_prints : (room : Room) (sheet : List ℕ) (s : Solved) → SheetMeansIn room sheet s → Prints sheet s (solved_text sheet s)
unfolding ending_text
sheet_prints room sheet _ (faulty k e low high) = refused_prints k
sheet_prints room sheet _ (long_instance e h) = refused_prints 10
sheet_prints room sheet _ (many_rows e h m) = refused_prints 12
sheet_prints room sheet _ (none_allowed steps b h f r) = refused_prints 15
sheet_prints room sheet _ (planned plan steps least h b f r) = planned_prints plan steps least
sheet_prints room sheet _ (paused steps b h n r) = paused_prints steps b
sheet_prints room sheet _ (full steps b h n r) = full_prints steps b

-- whatever room it was planned in
pub bytes_print : (room : Room) (bytes : List ℕ) (s : Solved) → MeansIn room bytes s → Prints (words_in bytes) s (solved_text (words_in bytes) s)
unfolding ending_text
bytes_print room bytes _ (too_long h) = refused_prints 10
bytes_print room bytes _ (no_words h n) = refused_prints 1
bytes_print room bytes _ (of_words s h e m) = sheet_prints room (words_in bytes) s m

pub printed_means : PrintedMeans
printed_means bytes = (solved_of bytes, solved_means bytes, bytes_print program_room bytes (solved_of bytes) (solved_means bytes))
