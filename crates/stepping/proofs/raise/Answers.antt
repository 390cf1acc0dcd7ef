-- `raise` meets its contract. The loop's invariant is `Raising`: the rows at the places passed are raised, and those behind are as they were.
use Prim.Native.Nat.{◌+◌, ◌<◌, ◌≤◌}
use native.Mathlib.Omega.{arith}
use Rattle.rows.specs.Raw.{max_weight}
use Rattle.stepping.proofs.Writes.{raising_start, raising_laid, raising_room, raising_weight, raising_next, raising_skip, raising_end}
use Rattle.stepping.proofs.raise.Goals as goal
use Rattle.stepping.proofs.raise.Goals.{After-reweigh-arg-1, else-k-count, then-k-count}

pub loop-m-init : goal.loop-m-init
loop-m-init c =
    let g = c.args in
    raising_start g.t.now g.base g.count g.places.now g.kept g.moved c.requires.0

pub weight_of-weight-requires : goal.weight_of-weight-requires
weight_of-weight-requires c =
    let g = c.args in
    omega (arith, raising_room g.t.now g.base g.count g.places.now g.kept g.moved _ _ c.loop-m.invariant)

-- the sum is the one that the contract bounds
light : (c : After-reweigh-arg-1) → c.weight_of-weight.result + c.args.moved ≤ max_weight
light c =
    let g = c.args in
    let w = raising_weight g.t.now g.base g.count g.places.now g.kept g.moved _ _ c.loop-m.invariant _ (omega arith) c.weight_of-weight.ensures.0 in
    omega (arith, c.requires.2 c.loop-m.m (omega arith))

pub overflow_add-weight : goal.overflow_add-weight
overflow_add-weight c = omega (arith, light c)

pub reweigh-requires : goal.reweigh-requires
reweigh-requires c =
    let g = c.args in (
      raising_laid g.t.now g.base g.count g.places.now g.kept g.moved _ _ c.loop-m.invariant,
      raising_room g.t.now g.base g.count g.places.now g.kept g.moved _ _ c.loop-m.invariant,
      omega arith,
      omega (arith, light c),
    )

pub loop-m-preserved : goal.loop-m-preserved
loop-m-preserved c =
    let g = c.args in
    let inside : c.loop-m.m < g.kept = omega arith in
    elim c.if-k-count.branch [ then-k-count w ↦ raising_next g.t.now g.base g.count g.places.now g.kept g.moved _ _ c.loop-m.invariant inside _ w.if-k-count.true w.weight_of-weight.ensures.0 _ w.reweigh.ensures _ w.t-is | else-k-count w ↦ raising_skip g.t.now g.base g.count g.places.now g.kept g.moved _ _ c.loop-m.invariant inside w.if-k-count.false _ w.t-is ]

pub shape_of-t : goal.shape_of-t
shape_of-t c = c.loop-m.invariant.left.long

pub returns : goal.returns
returns c =
    let g = c.args in
    raising_end g.t.now g.base g.count g.places.now g.kept g.moved _ _ c.loop-m.invariant (omega arith)
