-- `plan` meets its contract: what the calls ask for, and the rebuilt assignment once every test is passed.
use native.Mathlib.Omega.{arith}
use Rattle.assignment.proofs.Planning.{told, may_weigh, ready, rebuilt_all}
use Rattle.assignment.proofs.plan.Goals as goal

pub pair_left-requires : goal.pair_left-requires
pair_left-requires c = told c.args.t.now _ c.check.ensures.returned _ c.in-Some.is

pub empty_weight-requires : goal.empty_weight-requires
empty_weight-requires c = may_weigh c.args.t.now _ c.check.ensures.returned _ c.in-Some.is

pub rebuild-requires : goal.rebuild-requires
rebuild-requires c =
    let g = c.args in
    ready g.t.now _ c.check.ensures.returned _ c.in-Some.is g.target.now (omega arith) _ c.pair_left.ensures c.if-pair_left.false _ c.empty.ensures

pub returns : goal.returns
returns c =
    record {
      returned = let g = c.args in
          rebuilt_all g.t.now _ c.check.ensures.returned _ c.in-Some.is g.target.now (omega arith) _ c.pair_left.ensures
          c.if-pair_left.false _ c.empty_weight.ensures (omega arith) _ c.rebuild.ensures;
    }
