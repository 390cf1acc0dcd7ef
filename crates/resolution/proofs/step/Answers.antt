-- `step` meets its contract: on a valid table the hunt from the first bucket gives the next pair, and the step on it is the call's.
use native.Mathlib.Omega.{arith}
use mathlib.Core.Path.{◌≡◌}
use mathlib.Core.Bool.{true}
use mathlib.Core.Option.{some}
use Rattle.wcsp.specs.Resolve.{next_pair}
use Rattle.table.specs.Meaning.{row_count, table_rows, domains}
use Rattle.table.specs.Valid.{valid_table}
use Rattle.table.specs.Check.{shape_of}
use Rattle.table.proofs.Tested.{table_valid, table_invalid}
use Rattle.resolution.proofs.Single.{few_variables, first_asks, first_none, first_some, permitted, Numbers, numbers, called_invalid, called_done}
use Rattle.resolution.proofs.step.Goals as goal
use Rattle.resolution.proofs.step.Goals.{In-Some-found, In-Some}

-- the table was found valid
valid : (k : In-Some)
    → (valid_table k.args.t.now ≡ true) × (k.in-Some.shape ≡ shape_of k.args.t.now)
valid k = table_valid k.args.t.now _ k.check-checked.ensures.returned k.in-Some.shape k.in-Some.is

-- the pair that the hunt found is the next one
next : (n : In-Some-found)
    → next_pair (domains n.args.t.now) (table_rows n.args.t.now)
    ≡ some (record { variable = n.in-Some-found.next.passed; first = n.in-Some-found.next.first; second = n.in-Some-found.next.second })
next n =
    first_some n.args.t.now ((table_valid n.args.t.now _ n.check-checked.ensures.returned n.in-Some.shape n.in-Some.is)).0 n.in-Some.shape ((table_valid n.args.t.now _ n.check-checked.ensures.returned n.in-Some.shape n.in-Some.is)).1 n.hunt-found.ensures _ n.in-Some-found.is

bounds : (n : In-Some-found)
    → Numbers (row_count n.args.t.now) n.in-Some-found.next.passed n.in-Some-found.next.first n.in-Some-found.next.second
bounds n = numbers _ ((table_valid n.args.t.now _ n.check-checked.ensures.returned n.in-Some.shape n.in-Some.is)).0 _ (next n)

pub returns-in_default : goal.returns-in_default
returns-in_default c =
    record {
      returned = let t = c.args.t.now in
          called_invalid t (table_invalid t _ c.check-checked.ensures.returned c.in_default.is);
    }

pub overflow_add-shape : goal.overflow_add-shape
overflow_add-shape c =
    let h = few_variables _ (valid (goal.at.overflow_add-shape c).In-Some).0 _ (valid (goal.at.overflow_add-shape c).In-Some).1 in
    omega (arith, h)

pub hunt-found-requires : goal.hunt-found-requires
hunt-found-requires c = first_asks _ (valid (goal.at.hunt-found-requires c).In-Some).0 c.in-Some.shape (valid (goal.at.hunt-found-requires c).In-Some).1

pub returns-in_default-found : goal.returns-in_default-found
returns-in_default-found c =
    record { returned = called_done _ (valid (goal.at.returns-in_default-found c).In-Some).0 (first_none _ (valid (goal.at.returns-in_default-found c).In-Some).0 c.in-Some.shape (valid (goal.at.returns-in_default-found c).In-Some).1 c.hunt-found.ensures c.in_default-found.is) }

pub advance-requires : goal.advance-requires
advance-requires c =
    ((valid (goal.at.advance-requires c).In-Some).0, (valid (goal.at.advance-requires c).In-Some).1, permitted _ (valid (goal.at.advance-requires c).In-Some).0 _ (next (goal.at.advance-requires c).In-Some-found))

pub overflow_cast-next : goal.overflow_cast-next
overflow_cast-next c = let b = bounds (goal.at.overflow_cast-next c).In-Some-found in omega (arith, b.ordered, b.second, b.most)

pub overflow_cast-next-2 : goal.overflow_cast-next-2
overflow_cast-next-2 c = let b = bounds (goal.at.overflow_cast-next-2 c).In-Some-found in omega (arith, b.second, b.most)

pub step-requires : goal.step-requires
step-requires c =
    let b = bounds (goal.at.step-requires c).In-Some-found in
    (omega (arith, b.known), omega (arith, b.ordered, b.second, b.most), omega (arith, b.second, b.most))
