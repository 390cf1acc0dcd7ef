-- Inner: what a form of tables owes, so that valid tables of it are canonical and what is written reads back.
use Prim.Native.Nat.{ℕ, ◌<◌}
use mathlib.Core.Path.{◌≡◌}
use mathlib.Core.Bool.{true}
use mathlib.Core.List.{List, ◌++◌}
use Rattle.wcsp.specs.Row.{Row}
use Rattle.wcsp.specs.Widening.{wide_row}
use Rattle.rows.proofs.FormRows.{FormLaws}
use Rattle.table.specs.Form.{TableForm}
use Rattle.table.specs.Valid.{sign_kinds}
use Rattle.table.specs.Carried.{CarriedIn}

pub record TableLaws (f : TableForm) : Type 0 where
  pub form : FormLaws f.rows
  -- what a raw row says can be carried, and the raw row of a row that can be carried says it
  pub carries : (r : f.rows.Raw) → CarriedIn f.limit (f.row_of r)
  pub says : (r : Row) → CarriedIn f.limit r → f.row_of (f.raw_of r) ≡ r
  -- words of the right kinds are those of the raw row that is made from what they say, and the weight is above 0
  pub made : (ws : List ℕ) → sign_kinds ws ≡ true → f.weighs ws ≡ true → f.rows.read ws 0 ≡ f.raw_of (f.row_of (f.rows.read ws 0))
  pub positive : (ws : List ℕ) → f.weighs ws ≡ true → 0 < (f.row_of (f.rows.read ws 0)).weight
  -- further signs that are 0 change no word
  pub widens : (k : ℕ) (r : Row) → f.raw_of (wide_row k r) ≡ f.raw_of r
  -- the words that are made are of the right kinds
  pub signs_pass : (r : Row) (ws : List ℕ) → CarriedIn f.limit r → sign_kinds (f.rows.words (f.raw_of r) ++ ws) ≡ true
  pub weight_passes : (r : Row) (ws : List ℕ) → CarriedIn f.limit r → 0 < r.weight → f.weighs (f.rows.words (f.raw_of r) ++ ws) ≡ true
