-- What the conversions keep, and which tables are valid in which form.
use Rattle.std.specs.Prelude.{ℕ, ◌<◌, ◌≡◌, true, false, List, length}
use Rattle.wcsp.specs.Row.{falsified}
use Rattle.fields.specs.Answers.{good}
use Rattle.table.specs.Form.{TableForm}
use Rattle.table.specs.Raws.{standard_form}
use Rattle.table.specs.Meaning.{table_sizes, row_count, own_rows_in}
use Rattle.table.specs.Valid.{valid_table_in, valid_table}
use Rattle.table.specs.Five.{five_form}
use Rattle.conversion.specs.Calls.{convert_call}

-- ---- what a good conversion keeps

-- the target is a valid table of its form, with the source's sizes and the source's rows in their order; so "every plan has the same
-- falsified weight in either form"
pub record Same (f g : TableForm) (source target : List ℕ) : Type 0 where
  pub valid : valid_table_in g target ≡ true
  pub sizes : table_sizes target ≡ table_sizes source
  pub rows : own_rows_in g target ≡ own_rows_in f source
  pub weights : (p : List ℕ) → falsified p (own_rows_in g target) ≡ falsified p (own_rows_in f source)

abbrev pub KeepsIn : TableForm → TableForm → Type 0
KeepsIn f g = (source target : List ℕ) → (convert_call f g source target).answer.number ≡ 0 → Same f g source (convert_call f g source target).target

-- "there and back restores the rows in their order": in a slice as long, it restores every word
abbrev pub BackIn : TableForm → TableForm → Type 0
BackIn f g = (source target back : List ℕ) → (convert_call f g source target).answer.number ≡ 0 → length back ≡ length source
    → convert_call g f (convert_call f g source target).target back ≡ record { answer = good (row_count source); target = source }

-- of both calls
pub record Conversions : Type 0 where
  pub six_keeps : KeepsIn five_form standard_form
  pub five_keeps : KeepsIn standard_form five_form
  pub six_and_back : BackIn five_form standard_form
  pub five_and_back : BackIn standard_form five_form

-- ---- the two forms

-- "An old table with rows is accepted by the first conversion only": it is no valid table of the form that the other calls take
abbrev pub OneFormWithRows : Type 0
OneFormWithRows = (t : List ℕ) → valid_table_in five_form t ≡ true → 0 < row_count t → valid_table t ≡ false

-- a table without rows has the same words in both
abbrev pub BothWithoutRows : Type 0
BothWithoutRows = (t : List ℕ) → row_count t ≡ 0 → valid_table_in five_form t ≡ valid_table t
