-- `complete` meets its contract: the tests decide in the definition's order, and a good call rebuilds over the fixed values that it has put into the target.
use native.Mathlib.Omega.{arith}
use Rattle.completion.proofs.Completing.{not_a_table, told, variables, too_short, not_fitting, k_low, may_sum, place_room, pair_left, too_dear, ready, completed}
use Rattle.completion.proofs.complete.Goals as goal

pub returns-in_default : goal.returns-in_default
returns-in_default c =
    record {
      returned = let g = c.args in
          not_a_table g.t.now g.k g.fixed.now g.target.now _ c.check.ensures.returned c.in_default.is;
    }

pub returns-then-target-n : goal.returns-then-target-n
returns-then-target-n c =
    record {
      returned = let g = c.args in
          too_short g.t.now g.k g.fixed.now g.target.now _ c.check.ensures.returned _ c.in-Some.is (omega arith);
    }

pub carry-requires : goal.carry-requires
carry-requires c =
    let g = c.args in
    ((told g.t.now g.k g.fixed.now g.target.now _ c.check.ensures.returned _ c.in-Some.is).0, variables g.t.now g.k g.fixed.now g.target.now _ c.check.ensures.returned _ c.in-Some.is)

pub returns-in_default-carry : goal.returns-in_default-carry
returns-in_default-carry c =
    record {
      returned = let g = c.args in
          not_fitting g.t.now g.k g.fixed.now g.target.now _ c.check.ensures.returned _ c.in-Some.is (omega arith) _ c.carry.ensures c.in_default-carry.is;
    }

pub pair_left-requires : goal.pair_left-requires
pair_left-requires c =
    let g = c.args in
    told g.t.now g.k g.fixed.now g.target.now _ c.check.ensures.returned _ c.in-Some.is

pub returns-then-pair_left : goal.returns-then-pair_left
returns-then-pair_left c =
    record {
      returned = let g = c.args in
          pair_left g.t.now g.k g.fixed.now g.target.now _ c.check.ensures.returned _ c.in-Some.is (omega arith) _ c.carry.ensures _ c.in-Some-carry.is _ c.pair_left.ensures c.if-pair_left.true;
    }

pub overflow_cast-k : goal.overflow_cast-k
overflow_cast-k c =
    let g = c.args in
    omega (arith, k_low g.t.now g.k g.fixed.now g.target.now _ c.check.ensures.returned _ c.in-Some.is (omega arith) _ c.carry.ensures _ c.in-Some-carry.is)

pub tail_weight-requires : goal.tail_weight-requires
tail_weight-requires c =
    let g = c.args in
    (may_sum g.t.now g.k g.fixed.now g.target.now _ c.check.ensures.returned _ c.in-Some.is (omega arith) _ c.carry.ensures _ c.in-Some-carry.is, k_low g.t.now g.k g.fixed.now g.target.now _ c.check.ensures.returned _ c.in-Some.is (omega arith) _ c.carry.ensures _ c.in-Some-carry.is)

pub returns-in_default-tail_weight : goal.returns-in_default-tail_weight
returns-in_default-tail_weight c =
    record {
      returned = let g = c.args in
          too_dear g.t.now g.k g.fixed.now g.target.now _ c.check.ensures.returned _ c.in-Some.is (omega arith) _ c.carry.ensures _ c.in-Some-carry.is _ c.pair_left.ensures c.if-pair_left.false _ c.tail_weight.ensures c.in_default-tail_weight.is;
    }

pub copy_bytes-requires : goal.copy_bytes-requires
copy_bytes-requires c =
    let g = c.args in
    (omega (arith, place_room g.t.now g.k g.fixed.now g.target.now _ c.check.ensures.returned _ c.in-Some.is (omega arith) _ c.carry.ensures _ c.in-Some-carry.is), omega arith)

pub rebuild-requires : goal.rebuild-requires
rebuild-requires c =
    let g = c.args in
    ready g.t.now g.k g.fixed.now g.target.now _ c.check.ensures.returned _ c.in-Some.is (omega arith) _ c.carry.ensures _ c.in-Some-carry.is _ c.pair_left.ensures c.if-pair_left.false _ c.tail_weight.ensures _ c.in-Some-tail_weight.is _ c.copy_bytes.ensures

pub returns : goal.returns
returns c =
    record {
      returned = let g = c.args in
          completed g.t.now g.k g.fixed.now g.target.now _ c.check.ensures.returned _ c.in-Some.is (omega arith) _ c.carry.ensures _ c.in-Some-carry.is _ c.pair_left.ensures c.if-pair_left.false _ c.tail_weight.ensures _ c.in-Some-tail_weight.is _ c.copy_bytes.ensures _ c.rebuild.ensures;
    }
