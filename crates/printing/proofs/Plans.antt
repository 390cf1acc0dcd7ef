-- A sheet's plan holds a value of every variable, since it is the best.
use Prim.Native.Nat.{ℕ}
use native.Mathlib.Omega.{arith}
use mathlib.Core.Path.{◌≡◌}
use mathlib.Core.List.{List}
use lib.ListN.{length, take}
use Rattle.sheet.specs.Sheet.{sheet_fault, sheet_sizes}
use Rattle.input.specs.Instance.{sizes_of, entries_of}
use Rattle.making.specs.Made.{made_words}
use Rattle.making.proofs.Reading.{made_accepted}
use Rattle.checker.specs.Theorems.{Best}
use Rattle.planning.specs.Values.{Ending, Solved}
use Rattle.littleendian.specs.Words.{words_in}
use Rattle.planning.specs.Solving.{solved_of}
use Rattle.planning.specs.Theorems.{Room, program_room, SheetMeansIn, faulty, long_instance, many_rows, none_allowed, planned, paused, full, MeansIn, too_long, no_words, of_words}
use Rattle.planning.proofs.Meaning.{solved_means}
use Rattle.listing.specs.Plans.{HoldsPlan}
use Rattle.listing.proofs.Plans.{range_holds}
use Rattle.printing.specs.Listable.{Listable}

best_holds : (sheet plan : List ℕ) (least : ℕ) → sheet_fault sheet ≡ 0
    → Best (sizes_of (made_words sheet)) (entries_of (made_words sheet)) (take (length (sheet_sizes sheet)) plan) least → HoldsPlan sheet plan
best_holds sheet plan least fine best = range_holds sheet plan fine (rw (made_accepted sheet fine).sizes at best.in_range)

sheet_holds : (room : Room) (sheet : List ℕ) (s : Solved) → s.ending ≡ Ending.Planned → SheetMeansIn room sheet s → HoldsPlan sheet s.plan
sheet_holds room sheet _ e (faulty k f g h) = absurd (let z : ◌≡◌ {A = ℕ} 0 1 = cc in omega arith)
sheet_holds room sheet _ e (long_instance f g) = absurd (let z : ◌≡◌ {A = ℕ} 0 1 = cc in omega arith)
sheet_holds room sheet _ e (many_rows f g h) = absurd (let z : ◌≡◌ {A = ℕ} 0 1 = cc in omega arith)
sheet_holds room sheet _ e (none_allowed steps b h f r) = absurd (let z : ◌≡◌ {A = ℕ} 0 1 = cc in omega arith)
sheet_holds room sheet _ e (planned plan steps least h best f r) = best_holds sheet plan least h.fine best
sheet_holds room sheet _ e (paused steps b h f r) = absurd (let z : ◌≡◌ {A = ℕ} 0 1 = cc in omega arith)
sheet_holds room sheet _ e (full steps b h f r) = absurd (let z : ◌≡◌ {A = ℕ} 0 1 = cc in omega arith)

-- where there is a plan, it holds every value, and the bytes are those of a sheet
pub means_listable : (room : Room) (bytes : List ℕ) (s : Solved) → MeansIn room bytes s → Listable bytes s
means_listable room bytes _ (too_long f) e = absurd (let z : ◌≡◌ {A = ℕ} 0 1 = cc in omega arith)
means_listable room bytes _ (no_words f g) e = absurd (let z : ◌≡◌ {A = ℕ} 0 1 = cc in omega arith)
means_listable room bytes _ (of_words s f g m) e = (sheet_holds room (words_in bytes) s e m, f)

pub solved_listable : (bytes : List ℕ) (s : Solved) → s ≡ solved_of bytes → Listable bytes s
solved_listable bytes s e = rw e (means_listable program_room bytes (solved_of bytes) (solved_means bytes))
