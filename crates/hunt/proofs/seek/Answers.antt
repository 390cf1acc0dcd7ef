-- `seek` meets its contract: the rows passed do not go with x, so the search from j on answers for the whole.
use native.Mathlib.Omega.{arith}
use mathlib.Core.Path.{refl}
use Rattle.hunt.proofs.Seeking.{nested_passed, clash_passed, other_bucket, found, missing}
use Rattle.hunt.proofs.seek.Goals as goal
use Rattle.hunt.proofs.seek.Goals.{then-not-nest+else-lowest-v, else-lowest-v-via-then-lowest-v+else-not-clashes, else-lowest-v-via-else-lowest-v, else-not-nest}

pub loop-j-init : goal.loop-j-init
loop-j-init c = λ ds f r g k. refl

pub returns-then-not-clashes : goal.returns-then-not-clashes
returns-then-not-clashes c =
    let g = c.args in
    found g.t.now g.base g.count g.x g.v g.fulls g.from c.loop-j.j (omega arith) c.loop-j.invariant
    _ c.requires.4 _ c.sign_at.ensures _ c.nest.ensures
    _ c.clause_of-y.ensures.0 _ c.lowest.ensures.0 _ c.clashes.ensures
    c.if-not-nest.true-raw c.if-lowest-v.true c.if-not-clashes.true-raw

pub loop-j-preserved : goal.loop-j-preserved
loop-j-preserved c =
    let g = c.args in
    elim c.if-not-nest.branch [
      | then-not-nest+else-lowest-v w ↦ elim w.else-lowest-v.branch [
        | else-lowest-v-via-then-lowest-v+else-not-clashes w' ↦ clash_passed g.t.now g.base g.count g.x g.v g.fulls g.from c.loop-j.j (omega arith) c.loop-j.invariant
            _ c.requires.4 _ c.sign_at.ensures _ c.nest.ensures
            _ w.clause_of-y.ensures.0 _ w.lowest.ensures.0 _ w'.clashes.ensures w'.if-not-clashes.false-raw
        | else-lowest-v-via-else-lowest-v w' ↦ other_bucket g.t.now g.base g.count g.x g.v g.fulls g.from c.loop-j.j (omega arith) c.loop-j.invariant
            _ c.requires.4 _ c.sign_at.ensures _ c.nest.ensures
            _ w.clause_of-y.ensures.0 _ w.lowest.ensures.0 w'.if-lowest-v.false
      ]
      | else-not-nest w ↦ nested_passed g.t.now g.base g.count g.x g.v g.fulls g.from c.loop-j.j (omega arith) c.loop-j.invariant
          _ c.requires.4 _ c.sign_at.ensures _ c.nest.ensures w.if-not-nest.false-raw
    ]

pub returns : goal.returns
returns c =
    let g = c.args in
    missing g.t.now g.base g.count g.x g.v g.fulls g.from c.loop-j.j c.loop-j.invariant (omega arith)
