-- Each conversion answers the first of its tests that applies.
use Prim.Native.Nat.{ℕ}
use mathlib.Core.Path.{◌≡◌, refl, ap, ◌∙◌}
use mathlib.Core.Bool.{Bool, true, false, not, cond}
use mathlib.Core.List.{List}
use lib.ListN.{length}
use lib.Dec.{ltb}
use Rattle.wcsp.specs.Row.{heavy}
use Rattle.fields.specs.Order.{first_of, in_order}
use Rattle.table.specs.Form.{TableForm}
use Rattle.table.specs.Raws.{standard_form}
use Rattle.table.specs.Layout.{rows_at, capacity_in, capacity}
use Rattle.table.specs.Meaning.{variables_of, own_rows_in}
use Rattle.table.specs.Valid.{valid_table_in}
use Rattle.table.specs.Five.{five_form}
use Rattle.conversion.specs.Calls.{convert_call}
use Rattle.conversion.specs.Order.{SixInOrder, FiveInOrder}
use Rattle.conversion.proofs.Theorems.{converts_by, by_tests, five_light}

-- the number of a conversion by the results of its tests
decided : (f g : TableForm) (source target : List ℕ) (valid short wide full : Bool)
    → (converts_by f g source target valid short wide full).answer.number ≡ cond (not valid) 9 (cond short 10 (cond wide 16 (cond full 12 0)))
unfolding converts_by
decided f g source target true true wide full = refl
decided f g source target true false true full = refl
decided f g source target true false false true = refl
decided f g source target true false false false = refl
decided f g source target false short wide full = refl

-- where no valid table has a weight that is too wide, that test can be left out
never_wide : (valid short wide full : Bool) → (valid ≡ true → wide ≡ false)
    → ◌≡◌ {A = ℕ} (cond (not valid) 9 (cond short 10 (cond wide 16 (cond full 12 0)))) (cond (not valid) 9 (cond short 10 (cond full 12 0)))
never_wide true short wide full e = ap (λ b. cond short 10 (cond b 16 (cond full 12 0))) (e refl)
never_wide false short wide full e = refl

module _ (f g : TableForm) (source target : List ℕ) where
  pub number_of : (convert_call f g source target).answer.number
      ≡ cond (not (valid_table_in f source)) 9
      (cond (ltb (length target) (rows_at (variables_of source))) 10
      (cond (heavy g.limit (own_rows_in f source)) 16
      (cond (ltb (capacity_in g (length target) (variables_of source)) (length (own_rows_in f source))) 12 0)))
  number_of = ap (λ r. r.answer.number) (by_tests f g source target) ∙ decided f g source target _ _ _ _

pub six_in_order : SixInOrder
unfolding in_order first_of
six_in_order source target =
    record {
      order = refl;
      decides = number_of five_form standard_form source target
          ∙ never_wide (valid_table_in five_form source) (ltb (length target) (rows_at (variables_of source))) _
          (ltb (capacity (length target) (variables_of source)) (length (own_rows_in five_form source))) (five_light source);
    }

pub five_in_order : FiveInOrder
unfolding first_of
five_in_order source target = number_of standard_form five_form source target
