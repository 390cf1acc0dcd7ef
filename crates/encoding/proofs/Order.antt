-- The encode call answers the first of its tests that applies.
use Prim.Native.Nat.{ℕ}
use mathlib.Core.Path.{◌≡◌, refl}
use mathlib.Core.Bool.{Bool, true, false, cond}
use mathlib.Core.List.{List}
use lib.ListN.{length}
use lib.Dec.{eqb, ltb}
use Rattle.fields.specs.Answers.{refused, good}
use Rattle.fields.specs.Order.{in_order, first_of}
use Rattle.fields.proofs.Order.{after_faults}
use Rattle.input.specs.Instance.{instance_fault, sizes_of}
use Rattle.input.proofs.Faults.{instance_small}
use Rattle.table.specs.Layout.{rows_at, capacity}
use Rattle.encoding.specs.Calls.{EncodeReturned, encoded_rows, encode_call}
use Rattle.encoding.specs.Order.{EncodeInOrder}

pub encode_in_order : EncodeInOrder
unfolding encode_call in_order first_of
encode_in_order inst t =
    record {
      order = refl;
      decides =
          rw (after_faults f (instance_small inst) _)
          (go (eqb f 0) (ltb (length t) (rows_at n)) (ltb (capacity (length t) n) (length (encoded_rows inst))) _ _);
    }
  where
    f : ℕ
    f = instance_fault inst

    n : ℕ
    n = length (sizes_of inst)

    go : (fine short full : Bool) (count : ℕ) (table : List ℕ)
        → ◌≡◌ {A = ℕ} (cond {A = EncodeReturned} fine
        (cond short (record { answer = refused 10; table = t })
        (cond full (record { answer = refused 12; table = t }) (record { answer = good count; table = table })))
        (record { answer = refused f; table = t })).answer.number
        (cond fine (cond short 10 (cond full 12 0)) f)
    go true true full count table = refl
    go true false true count table = refl
    go true false false count table = refl
    go false short full count table = refl
