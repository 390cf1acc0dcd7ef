-- `position` walks over the stations before the variable's; each turn goes behind one station, and where the walk ends the values stand.
use Rattle.std.proofs.Common.{◌≡◌, ◌∙◌, ◌+◌, ◌*◌, ◌≤◌, length, arith}
use Rattle.sheet.proofs.Walking.{Walked, walk_starts, walk_fits, walk_goes, walk_value, walk_finds}
use Rattle.sheet.proofs.position.Goals as goal
use Rattle.sheet.proofs.position.Goals.{After-loop}

pub loop-init : goal.loop-init
loop-init c = walk_starts c.args.sheet.now c.args.variable c.requires.sheet_value c.requires.variable_in_bounds.0

pub values_at-passed-requires : goal.values_at-passed-requires
values_at-passed-requires c =
    let a = c.args in
    let l = c.loop in
    let f = walk_fits a.sheet.now a.variable l.counter l.from l.invariant in
    omega arith

pub loop-preserved : goal.loop-preserved
loop-preserved c =
    let a = c.args in
    let l = c.loop in
    let r = c.values_at-passed.ensures in
    rw (r.0, r.1) (walk_goes a.sheet.now a.variable l.counter l.from l.invariant c.loop-test.true)

-- the walk has come to the variable, and the value is one of the station's
module _ (c : After-loop) where
  ended : Walked c.args.sheet.now c.args.variable c.args.variable c.loop.from
  ended =
      let e : c.loop.counter ≡ c.args.variable = omega (arith, c.loop.invariant.behind) in
      rw e at c.loop.invariant

  within : c.loop.from + 1 + 2 * c.args.value + 2 ≤ length c.args.sheet.now
  within =
      let a = c.args in
      let f = walk_fits a.sheet.now a.variable a.variable c.loop.from ended in
      let v = walk_value a.sheet.now a.variable c.loop.from a.value ended c.requires.variable_in_bounds.1 in
      omega arith

pub overflow_add-from-2 : goal.overflow_add-from-2
overflow_add-from-2 c = omega (arith, within c)

pub overflow_add-from-3 : goal.overflow_add-from-3
overflow_add-from-3 c = omega (arith, within c)

pub place_at-requires : goal.place_at-requires
place_at-requires c = within c

pub returns : goal.returns
returns c =
    let a = c.args in
    c.place_at.ensures.0 ∙
    walk_finds a.sheet.now a.variable c.loop.from a.value (ended (goal.at.returns c).After-loop) c.requires.variable_in_bounds.1
