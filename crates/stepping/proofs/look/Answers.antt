-- `look` meets its contract. The loop's invariant is `Looking`: the clauses passed have their places noted, the missing ones are counted, and a weight too great is marked.
use native.Mathlib.Omega.{arith}
use Rattle.stepping.proofs.Places.{looking_start, looking_next, looking_end, one_more, no_more, marked, unmarked}
use Rattle.stepping.proofs.look.Goals as goal
use Rattle.stepping.proofs.look.Goals.{else-k-count, else-passes, then-k-count, then-passes}

pub loop-m-init : goal.loop-m-init
loop-m-init c =
    let g = c.args in
    looking_start g.t.now g.base g.count g.buffer.now g.kept g.moved g.places.now c.requires.4

pub clause_at-requires : goal.clause_at-requires
clause_at-requires c = (omega arith, c.requires.3)

pub place-k-requires : goal.place-k-requires
place-k-requires c = (c.requires.0, c.clause_at.ensures.packed)

pub passes-requires : goal.passes-requires
passes-requires c =
    (c.requires.0, c.place-k.ensures.1, c.requires.2)

pub loop-m-preserved : goal.loop-m-preserved
loop-m-preserved c =
    let g = c.args in
    looking_next g.t.now g.base g.count g.buffer.now g.kept g.moved _ _ _ _ c.loop-m.invariant (omega arith) c.requires.1
    _ c.clause_at.ensures _ c.place-k.ensures.0
    _ (elim c.if-k-count.branch [ then-k-count w ↦ one_more _ _ _ _ w.if-k-count.true w.fresh-is | else-k-count w ↦ no_more _ _ _ _ w.if-k-count.false w.fresh-is ])
    _ (elim c.if-passes.branch [ then-passes w ↦ marked c.loop-m.heavy _ _ _ c.passes.ensures w.if-passes.true w.heavy-is | else-passes w ↦ unmarked c.loop-m.heavy _ _ _ c.passes.ensures w.if-passes.false w.heavy-is ])

pub returns : goal.returns
returns c =
    let g = c.args in
    looking_end g.t.now g.base g.count g.buffer.now g.kept g.moved _ _ _ _ c.loop-m.invariant (omega arith)
