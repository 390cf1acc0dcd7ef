-- The cost call answers the first of its tests that applies.
use Prim.Native.Nat.{ℕ}
use mathlib.Core.Path.{◌≡◌, refl}
use mathlib.Core.Bool.{Bool, true, false, not, cond}
use lib.Dec.{eqb}
use Rattle.wcsp.specs.Entry.{cost}
use Rattle.fields.specs.Answers.{Answer}
use Rattle.fields.specs.Answers.{refused, good}
use Rattle.fields.specs.Assignment.{is_assignment}
use Rattle.fields.specs.Order.{in_order, first_of}
use Rattle.fields.proofs.Order.{after_faults}
use Rattle.input.specs.Instance.{instance_fault, sizes_of, entries_of}
use Rattle.input.proofs.Faults.{instance_small}
use Rattle.cost.specs.Calls.{cost_call}
use Rattle.cost.specs.Order.{CostInOrder}

pub cost_in_order : CostInOrder
unfolding cost_call in_order first_of
cost_in_order inst plan =
    record {
      order = refl;
      decides = rw (after_faults f (instance_small inst) _) (go (eqb f 0) (is_assignment (sizes_of inst) plan));
    }
  where
    f : ℕ
    f = instance_fault inst

    go : (fine ok : Bool)
        → ◌≡◌ {A = ℕ} (cond {A = Answer} fine (cond ok (good (cost (entries_of inst) plan)) (refused 7)) (refused f)).number (cond fine (cond (not ok) 7 0) f)
    go true true = refl
    go true false = refl
    go false ok = refl
