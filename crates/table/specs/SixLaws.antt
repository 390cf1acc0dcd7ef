-- Inner: the form of six-word rows keeps the laws of a form of tables: rows and raw rows give each other, and a row's words pass the tests exactly if they are made from it.
use Prim.Native.Nat.{ℕ, ◌<◌}
use native.Mathlib.Omega.{arith}
use mathlib.Core.Path.{◌≡◌, refl, ap, ◌∙◌}
use mathlib.Core.Bool.{true}
use mathlib.Core.List.{List, ◌++◌}
use lib.ListN.{drop}
use Rattle.wcsp.specs.Row.{Row}
use Rattle.clause.specs.Packed.{signs_of}
use Rattle.rows.specs.Raw.{Raw, raw_words, raw_at, weight_in, row_weighs, sign_words, raw_row, clause_in}
use Rattle.rows.proofs.Flat.{row_laws, raw_at-front}
use Rattle.rows.proofs.RowWords.{weight_most, weight_raw_row, weight_made, weight_positive, weight_passes}
use Rattle.table.specs.Clauses.{clause_from}
use Rattle.table.specs.Raws.{row_of, raw_of, standard_form}
use Rattle.table.specs.Valid.{sign_kinds}
use Rattle.table.specs.Carried.{Carried}
use Rattle.table.specs.SignWords.{twelve_said, signs_said, words_made, words_pass, clause_wide}
use Rattle.table.specs.TableLaws.{TableLaws}
use Rattle.table.specs.SignLaws.{SignLaws}

-- ---- what a raw row says

pub row_of_signs : (r : Raw) → (row_of r).signs ≡ signs_of (clause_in r)
unfolding row_of
row_of_signs r = refl

pub row_of_weight : (r : Raw) → (row_of r).weight ≡ weight_in r
unfolding row_of
row_of_weight r = refl

-- the signs of the row in front of what starts at its place
pub signs_front : (t : List ℕ) (at : ℕ) → (row_of (raw_at (drop at t) 0)).signs ≡ signs_of (clause_in (raw_at t at))
signs_front t at = rw (raw_at-front t at) (row_of_signs (raw_at t at))

carries : (r : Raw) → Carried (row_of r)
unfolding row_of
carries r = record { twelve = twelve_said r; light = weight_most r }

-- ---- the raw row that says it

pub row_of-raw_of : (r : Row) → Carried r → row_of (raw_of r) ≡ r
unfolding row_of
row_of-raw_of r h =
    let e = signs_said r.signs r.weight h.twelve in
    let f = weight_raw_row (clause_from r.signs) r.weight h.light in
    λ i. record { signs = e i; weight = f i }

-- ---- its words

-- words of the right kinds are those of the raw row that is made from what they say
made : (ws : List ℕ) → sign_kinds ws ≡ true → row_weighs ws ≡ true → raw_at ws 0 ≡ raw_of (row_of (raw_at ws 0))
unfolding row_of
made ws e w = weight_made ws w ∙ words_made ws (weight_in (raw_at ws 0)) e

positive : (ws : List ℕ) → row_weighs ws ≡ true → 0 < (row_of (raw_at ws 0)).weight
unfolding row_of
positive ws w = weight_positive ws w

signs_pass : (r : Row) (ws : List ℕ) → Carried r → sign_kinds (raw_words (raw_of r) ++ ws) ≡ true
signs_pass r ws h = words_pass r.signs _ h.twelve

weight_pass : (r : Row) (ws : List ℕ) → Carried r → 0 < r.weight → row_weighs (raw_words (raw_of r) ++ ws) ≡ true
weight_pass r ws h p = weight_passes (sign_words _ _ _ _) r.weight ws p h.light

pub table_laws : TableLaws standard_form
table_laws =
    record {
      form = row_laws;
      carries = carries;
      says = row_of-raw_of;
      made = made;
      positive = positive;
      widens = λ k r. ap (λ x. raw_row x r.weight) (clause_wide k r.signs);
      signs_pass = signs_pass;
      weight_passes = weight_pass;
    }

pub six_signs : SignLaws standard_form
six_signs = record { wide = omega arith; signs = λ t at. row_of_signs (raw_at t at) }
