-- `add` looks for the clause's row: reweighed if there is one, else a new last row is written.
use native.Mathlib.Omega.{arith}
use Rattle.storing.proofs.Adding.{rows_fit, add_none, append_ready, appended, found_within, found_fits, sum_small, reweighed_as}
use Rattle.storing.proofs.add.Goals as goal

pub returns-then-weight-eq0 : goal.returns-then-weight-eq0
returns-then-weight-eq0 c = add_none _ _ _ _ _ c.requires c.if-weight-eq0.true

pub find-found-requires : goal.find-found-requires
find-found-requires c = (rows_fit _ _ _ _ _ c.requires, c.requires.packed)

pub append-requires : goal.append-requires
append-requires c =
    append_ready _ _ _ _ _ c.requires c.if-weight-eq0.false _ c.find-found.ensures c.in_default.is

pub overflow_add-result : goal.overflow_add-result
overflow_add-result c =
    let h = append_ready _ _ _ _ _ c.requires c.if-weight-eq0.false _ c.find-found.ensures c.in_default.is in
    omega (arith, h.1)

pub returns-in_default : goal.returns-in_default
returns-in_default c =
    appended _ _ _ _ _ c.requires c.if-weight-eq0.false _ c.find-found.ensures c.in_default.is
    _ c.append.ensures

pub weight_of-requires : goal.weight_of-requires
weight_of-requires c =
    found_fits _ _ _ _ _ c.requires c.if-weight-eq0.false _ c.find-found.ensures _ c.in-Some.is

pub overflow_add-sum : goal.overflow_add-sum
overflow_add-sum c =
    let h = sum_small _ _ _ _ _ c.requires c.if-weight-eq0.false _ c.find-found.ensures _ c.in-Some.is _ c.weight_of.ensures.0 in
    omega arith

pub reweigh-requires : goal.reweigh-requires
reweigh-requires c =
    let p = c.requires in
    let some = c.if-weight-eq0.false in
    let at = c.in-Some.is in (
      p.laid,
      rows_fit _ _ _ _ _ p,
      found_within _ _ _ _ _ p some _ c.find-found.ensures _ at,
      sum_small _ _ _ _ _ p some _ c.find-found.ensures _ at _ c.weight_of.ensures.0,
    )

pub returns : goal.returns
returns c =
    reweighed_as _ _ _ _ _ c.requires c.if-weight-eq0.false _ c.find-found.ensures _ c.in-Some.is
    _ c.weight_of.ensures.0 _ c.reweigh.ensures
