-- What a season's figures tell of its sheets.
use Prim.Native.Nat.{ℕ, zero, suc, ◌*◌, ◌≤◌}
use native.Mathlib.Omega.{arith}
use mathlib.Core.Path.{◌≡◌, refl, ◌∙◌}
use mathlib.Core.Bool.{Bool, true, false, cond}
use mathlib.Core.List.{List, [], ◌∷◌, map}
use lib.ListN.{length, take, drop, length-map}
use lib.Dec.{eqb, ltb}
use borrow.Author.Tests.{eqb-true}
use Rattle.wcsp.specs.Entry.{LeastCost}
use Rattle.fields.specs.Limits.{greatest_allowed}
use Rattle.fields.specs.Entries.{Each, nil_each, cons_each}
use Rattle.input.specs.Instance.{sizes_of, entries_of}
use Rattle.making.specs.Made.{made_words}
use Rattle.littleendian.specs.Words.{word_at, words_in}
use Rattle.planning.specs.Values.{Solved}
use Rattle.planning.specs.Solving.{solved_of}
use Rattle.planning.specs.Theorems.{Held, SheetMeans, faulty, long_instance, many_rows, none_allowed, planned, paused, full, Means, too_long, no_words, of_words}
use Rattle.planning.proofs.Meaning.{solved_means}
use Rattle.cutting.specs.Cutting.{longest_sheet}
use Rattle.figures.specs.Counting.{planned_column, most_sheets}
use Rattle.figures.specs.Tallies.{is_planned, costs_of}
use Rattle.figures.proofs.Tallies.{counts_add_up}
use Rattle.figures.proofs.Largest.{largest_is_first, sum_is_bounded}
use Rattle.batch.specs.Season.{Sheet, cut_off, passed_over, whole, sheets_behind, sheets_in, solved_sheet, column_of, figure_of_sheet, season_sheets}
use Rattle.batch.specs.Theorems.{PlannedAt, SeasonMeans}
use Rattle.batch.proofs.Columns.{OwnColumn, cut_column, long_column, fault_column, many_column, forbidden_column, sheet_in_column}
use Rattle.batch.proofs.Meaning.{every}

-- ---- the sheets

behind_few : (k words : ℕ) (rest : List ℕ) → ((xs : List ℕ) → length (sheets_in k xs) ≤ k) → length (sheets_behind words rest (sheets_in k)) ≤ suc k
unfolding sheets_behind
behind_few k words rest ih = go (ltb (length rest) (4 * words))
  where
    go : (b : Bool) → length (cond b (cut_off ∷ []) (cond (ltb longest_sheet words) passed_over (whole (take (4 * words) rest)) ∷ sheets_in k (drop (4 * words) rest))) ≤ suc k
    go true = omega arith
    go false = let few = ih (drop (4 * words) rest) in omega (arith, few)

sheets_few : (k : ℕ) (file : List ℕ) → length (sheets_in k file) ≤ k
unfolding sheets_in
sheets_few zero file = omega arith
sheets_few (suc k) file = go (eqb (length file) 0) (ltb (length file) 4) (sheets_few k)
  where
    go : (a b : Bool) → ((xs : List ℕ) → length (sheets_in k xs) ≤ k)
        → length (cond a [] (cond b (cut_off ∷ []) (sheets_behind (word_at file 0) (drop 4 file) (sheets_in k)))) ≤ suc k
    go true b ih = omega arith
    go false true ih = omega arith
    go false false ih = behind_few k (word_at file 0) (drop 4 file) ih

-- ---- what is planned

-- a value that is planned has the least cost of its bytes' instance, which is accepted
abbrev LeastOf : List ℕ → ℕ → Type 0
LeastOf sheet cost = Held sheet × LeastCost (sizes_of (made_words sheet)) (entries_of (made_words sheet)) cost

not-planned : {A : Type 0} {column : ℕ} → OwnColumn column → eqb column planned_column ≡ true → A
not-planned {column = column} own e = absurd (own.other (eqb-true column planned_column e))

sheet_least : (sheet : List ℕ) (s : Solved) → SheetMeans sheet s → eqb (column_of s.ending) planned_column ≡ true → LeastOf sheet s.bound
unfolding column_of
sheet_least sheet _ (faulty k e low high) p = not-planned (fault_column k low high) p
sheet_least sheet _ (long_instance e h) p = not-planned long_column p
sheet_least sheet _ (many_rows e h m) p = not-planned many_column p
sheet_least sheet _ (none_allowed steps b h f r) p = not-planned forbidden_column p
sheet_least sheet _ (planned plan steps least h b f r) p =
    (h, record { assignment = _; in_range = b.in_range; attained = b.attained; least = b.least })
sheet_least sheet _ (paused steps b h n r) p = absurd (let z = eqb-true 9 planned_column p in omega (arith, z))
sheet_least sheet _ (full steps b h n r) p = absurd (let z = eqb-true 10 planned_column p in omega (arith, z))

bytes_least : (bytes : List ℕ) → eqb (column_of (solved_of bytes).ending) planned_column ≡ true → LeastOf (words_in bytes) (solved_of bytes).bound
unfolding column_of
bytes_least bytes = go (solved_of bytes) (solved_means bytes)
  where
    go : (s : Solved) → Means bytes s → eqb (column_of s.ending) planned_column ≡ true → LeastOf (words_in bytes) s.bound
    go _ (too_long h) p = not-planned long_column p
    go _ (no_words h n) p = not-planned cut_column p
    go _ (of_words s h e m) p = sheet_least (words_in bytes) s m p

planned-at : (sheet : Sheet) → is_planned (figure_of_sheet sheet) ≡ true → PlannedAt sheet (figure_of_sheet sheet).cost
unfolding solved_sheet column_of
planned-at cut_off p = not-planned cut_column p
planned-at passed_over p = not-planned long_column p
planned-at (whole bytes) p = let (held, least) = bytes_least bytes p in record { bytes = bytes; sheet_has = refl; held = held; least = least }

every_planned : (sheets : List Sheet) → Each (λ sheet. is_planned (figure_of_sheet sheet) ≡ true → PlannedAt sheet (figure_of_sheet sheet).cost) sheets
every_planned [] = nil_each
every_planned (s ∷ sheets) = cons_each (planned-at s) (every_planned sheets)

costs_cheap : (sheets : List Sheet) → Each (λ k. k ≤ greatest_allowed) (costs_of (map figure_of_sheet sheets))
unfolding costs_of
costs_cheap [] = nil_each
costs_cheap (s ∷ sheets) = go (is_planned (figure_of_sheet s)) refl (costs_cheap sheets)
  where
    go : (b : Bool) → is_planned (figure_of_sheet s) ≡ b → Each (λ k. k ≤ greatest_allowed) (costs_of (map figure_of_sheet sheets))
        → Each (λ k. k ≤ greatest_allowed) (cond b ((figure_of_sheet s).cost ∷ costs_of (map figure_of_sheet sheets)) (costs_of (map figure_of_sheet sheets)))
    go true e rest = cons_each ((sheet_in_column s).cheap (eqb-true (figure_of_sheet s).column planned_column e)) rest
    go false e rest = rest

pub season_means : SeasonMeans
season_means file =
    let sheets : List Sheet = season_sheets file in
    let few = sheets_few most_sheets file in
    let long = length-map sheets figure_of_sheet in
    let sum = sum_is_bounded (map figure_of_sheet sheets) (costs_cheap sheets) in
    record {
      few = few;
      in_columns = every sheets;
      counts = refl;
      adds = counts_add_up (map figure_of_sheet sheets) (every sheets) ∙ long;
      sums = refl;
      planned = every_planned sheets;
      largest = largest_is_first (map figure_of_sheet sheets);
      bounded = omega (arith, few, long, sum);
    }
