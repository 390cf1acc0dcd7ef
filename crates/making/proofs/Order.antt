-- The make call answers the first of its tests that applies.
use Prim.Native.Nat.{ℕ}
use mathlib.Core.Path.{◌≡◌, refl}
use mathlib.Core.Bool.{Bool, true, false, cond}
use mathlib.Core.List.{List, ◌++◌}
use lib.ListN.{length, drop}
use lib.Dec.{eqb, leb, ltb}
use borrow.Author.Tests.{leb-true, leb-false, lt-ltb, le-ltb}
use Rattle.fields.specs.Answers.{refused, good}
use Rattle.fields.specs.Order.{in_order, first_of}
use Rattle.fields.proofs.Order.{after_faults}
use Rattle.sheet.specs.Sheet.{sheet_fault}
use Rattle.making.specs.Made.{made_words}
use Rattle.making.specs.Calls.{Made, make_call}
use Rattle.making.specs.Order.{MakeInOrder}
use Rattle.sheet.proofs.Faults.{sheet_small}

pub make_in_order : MakeInOrder
unfolding make_call in_order first_of
make_in_order sheet target =
    record {
      order = refl;
      decides = rw (after_faults f (sheet_small sheet) _) (go (eqb f 0) (leb (length ws) (length target)) refl);
    }
  where
    f : ℕ
    f = sheet_fault sheet

    ws : List ℕ
    ws = made_words sheet

    go : (fine room : Bool) → leb (length ws) (length target) ≡ room
        → ◌≡◌ {A = ℕ} (cond {A = Made} fine
        (cond room (record { answer = good (length ws); target = ws ++ drop (length ws) target }) (record { answer = refused 10; target = target }))
        (record { answer = refused f; target = target })).answer.number
        (cond fine (cond (ltb (length target) (length ws)) 10 0) f)
    go true true e = rw (le-ltb (length target) (length ws) (leb-true _ _ e))
    go true false e = rw (lt-ltb (length target) (length ws) (leb-false _ _ e))
    go false room e = refl
