-- `run_valid` meets its contract: what is kept from turn to turn says that the run still to go is the whole run, and each way out of the loop
-- is one of its endings.
use Prim.Native.Nat.{ℕ, ◌+◌, ◌<◌}
use native.Mathlib.Omega.{arith}
use mathlib.Core.Path.{◌≡◌, refl, ap, ◌∙◌}
use mathlib.Core.Option.{some}
use lib.ListN.{length}
use Rattle.wcsp.specs.Resolve.{next_pair}
use Rattle.table.specs.Meaning.{row_count, table_rows, domains}
use Rattle.stepping.specs.Advance.{advanced_of}
use Rattle.stepping.proofs.Answers.{advance_made, advance_refused}
use Rattle.resolution.proofs.Single.{few_variables, shape_front, shape_count, shape_fulls, permitted, Numbers, numbers}
use Rattle.resolution.proofs.Going.{going_start, few_here, hunt_asks, ended_asks, refused_asks, shaped, none_left, one_next, gives_done, gives_paused, gives_refused, going_on}
use Rattle.resolution.proofs.run_valid.Goals as goal
use Rattle.resolution.proofs.run_valid.Goals.{After-step, In-Some, In-Err}

-- the pair that the hunt found is the next one, on the value moved on
next : (n : In-Some) (v : ℕ) → v ≡ n.loop-pair.lowest + n.in-Some.pair.passed
    → next_pair (domains n.loop-pair.t) (table_rows n.loop-pair.t)
    ≡ some (record { variable = v; first = n.in-Some.pair.first; second = n.in-Some.pair.second })
next n =
    let i = n.loop-pair.invariant in
    one_next i.0 i.1 i.3 n.hunt-found.ensures (omega arith) n.in-Some.is

bounds : (n : In-Some) (v : ℕ) → v ≡ n.loop-pair.lowest + n.in-Some.pair.passed
    → Numbers (row_count n.loop-pair.t) v n.in-Some.pair.first n.in-Some.pair.second
bounds n v e = numbers _ n.loop-pair.invariant.0.valid _ (next n v e)

pub overflow_add-base : goal.overflow_add-base
overflow_add-base c =
    let h = few_variables _ c.requires.0 _ c.requires.1 in
    omega (arith, h)

pub loop-pair-init : goal.loop-pair-init
loop-pair-init c =
    let t = c.args.t.now in
    let e = c.requires.1 in (
      going_start t c.args.most c.args.slice.now _ c.requires.0 (shape_count t c.requires.0 _ e) c.requires.2 _ (omega arith),
      shape_front t c.requires.0 _ e,
      ap (λ u. u.variables) e,
      shape_fulls t c.requires.0 _ e,
    )

pub hunt-found-requires : goal.hunt-found-requires
hunt-found-requires c = let i = c.loop-pair.invariant in let (room, packed, low) = hunt_asks i.0 i.1 i.3 in (room, packed, omega (arith, low))

pub overflow_cast-n : goal.overflow_cast-n
overflow_cast-n c = let i = c.loop-pair.invariant in let h = few_here i.0 i.2 in omega (arith, h)

pub ended-requires : goal.ended-requires
ended-requires c = let i = c.loop-pair.invariant in ended_asks i.0 i.1 i.3

pub shape_of-t-in_default : goal.shape_of-t-in_default
shape_of-t-in_default c = c.loop-pair.invariant.0.long

pub shape_of-slice-in_default : goal.shape_of-slice-in_default
shape_of-slice-in_default c = c.loop-pair.invariant.0.as_long

pub returns-in_default : goal.returns-in_default
returns-in_default c =
    let i = c.loop-pair.invariant in
    gives_done i.0 (none_left i.0 i.1 i.3 c.hunt-found.ensures (omega arith) c.in_default.is) _ (omega (arith, i.2)) _ c.ended.ensures

-- the value stays below twelve
pub overflow_add-lowest : goal.overflow_add-lowest
overflow_add-lowest c = omega (arith, (bounds (goal.at.overflow_add-lowest c).In-Some _ refl).known)

pub ended-requires-then-made-most : goal.ended-requires-then-made-most
ended-requires-then-made-most c = let i = c.loop-pair.invariant in ended_asks i.0 i.1 i.3

pub shape_of-t-then-made-most : goal.shape_of-t-then-made-most
shape_of-t-then-made-most c = c.loop-pair.invariant.0.long

pub shape_of-slice-then-made-most : goal.shape_of-slice-then-made-most
shape_of-slice-then-made-most c = c.loop-pair.invariant.0.as_long

pub returns-then-made-most : goal.returns-then-made-most
returns-then-made-most c =
    gives_paused c.loop-pair.invariant.0 _ (next (goal.at.returns-then-made-most c).In-Some _ (omega arith)) (omega (arith, c.if-made-most.true)) _ c.ended-then-made-most.ensures

pub resume-next-requires : goal.resume-next-requires
resume-next-requires c =
    let i = c.loop-pair.invariant in
    let asks = ended_asks i.0 i.1 i.3 in
    let b = bounds (goal.at.resume-next-requires c).In-Some _ refl in
    (asks.0, asks.1, omega (arith, b.ordered, b.second), b.second)

pub advance-advanced-requires : goal.advance-advanced-requires
advance-advanced-requires c =
    let i = c.loop-pair.invariant in
    (i.0.valid, shaped i.0 i.1 i.3 i.2, permitted _ i.0.valid _ (next (goal.at.advance-advanced-requires c).In-Some _ (omega arith)))

-- a refusal leaves the table as it was
unmoved : (c : In-Err)
    → c.advance-advanced.new.t ≡ c.loop-pair.t
unmoved c =
    (advance_refused _ _ _ _ c.advance-advanced.ensures _ (ap advanced_of c.in-Err.is)).1

pub ended-requires-in-Err : goal.ended-requires-in-Err
ended-requires-in-Err c =
    let i = c.loop-pair.invariant in
    refused_asks i.0 i.1 i.3 (unmoved (goal.at.ended-requires-in-Err c).In-Err)

pub shape_of-t-in-Err : goal.shape_of-t-in-Err
shape_of-t-in-Err c =
    ap length (unmoved (goal.at.shape_of-t-in-Err c).In-Err)
    ∙ c.loop-pair.invariant.0.long

pub shape_of-slice-in-Err : goal.shape_of-slice-in-Err
shape_of-slice-in-Err c = c.loop-pair.invariant.0.as_long

pub returns-in-Err : goal.returns-in-Err
returns-in-Err c =
    let g = c.loop-pair.invariant.0 in
    gives_refused g _ (next (goal.at.returns-in-Err c).In-Some _ (omega arith)) (omega (arith, g.within, c.if-made-most.false)) _ _
    (advance_refused _ _ _ _ c.advance-advanced.ensures _ (ap advanced_of c.in-Err.is)) _
    c.ended-in-Err.ensures

pub overflow_cast-pair : goal.overflow_cast-pair
overflow_cast-pair c =
    let b = bounds (goal.at.overflow_cast-pair c).In-Some _ refl in
    omega (arith, b.ordered, b.second, b.most)

pub overflow_cast-pair-in-loop-pair : goal.overflow_cast-pair-in-loop-pair
overflow_cast-pair-in-loop-pair c = let b = bounds (goal.at.overflow_cast-pair-in-loop-pair c).In-Some _ refl in omega (arith, b.second, b.most)

pub step-requires : goal.step-requires
step-requires c =
    let b = bounds (goal.at.step-requires c).In-Some _ refl in
    (omega (arith, b.known), omega (arith, b.ordered, b.second, b.most), omega (arith, b.second, b.most))

-- a word that is made has a place
inside : (c : After-step)
    → c.loop-pair.made < length c.loop-pair.slice
inside c =
    let g = c.loop-pair.invariant.0 in
    omega (arith, g.within, g.room, g.as_long, c.if-made-most.false)

pub offset_bounds-slice-made : goal.offset_bounds-slice-made
offset_bounds-slice-made c =
    omega (arith, inside c, c.loop-pair.invariant.0.as_long, c.well_formed)

pub bounds-slice-made : goal.bounds-slice-made
bounds-slice-made c = inside c

pub overflow_add-made : goal.overflow_add-made
overflow_add-made c = omega (arith, inside c)

pub loop-pair-smaller : goal.loop-pair-smaller
loop-pair-smaller c =
    omega (arith, c.loop-pair.invariant.0.within, c.if-made-most.false)

pub loop-pair-preserved : goal.loop-pair-preserved
loop-pair-preserved c =
    let i = c.loop-pair.invariant in (
      going_on i.0 _ (next (goal.at.loop-pair-preserved c).In-Some _ (omega arith)) (omega (arith, i.0.within, c.if-made-most.false)) _ _
          (advance_made _ _ _ _ c.advance-advanced.ensures _ (ap advanced_of c.in-Ok.is)) _ c.step.ensures
          _ c.resume-next.ensures,
      i.1,
      i.2,
      i.3,
    )
