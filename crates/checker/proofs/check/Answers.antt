-- `check` meets its contract: a refused encoding leaves all as it was; after a good one the table is valid, and the replay and then the claim decide.
use mathlib.Core.Path.{refl}
use Rattle.checker.proofs.Checking.{refused_some, check_refused, encoded_valid, judge_asks}
use Rattle.checker.proofs.check.Goals as goal

pub returns-in-Err : goal.returns-in-Err
returns-in-Err c =
    record {
      returned = let g = c.args in
          check_refused g.instance.now g.derivation.now g.plan.now g.claimed g.t.now (rw c.in-Err.is at c.encode.ensures.returned) (refused_some _);
    }

pub replay-requires : goal.replay-requires
replay-requires c =
    let g = c.args in
    encoded_valid g.instance.now g.derivation.now g.plan.now g.claimed g.t.now (rw c.in_default.is at c.encode.ensures.returned) refl

pub judge-requires : goal.judge-requires
judge-requires c =
    let g = c.args in
    judge_asks g.instance.now g.derivation.now g.plan.now g.claimed g.t.now (rw c.in_default.is at c.encode.ensures.returned) refl c.replay.ensures
