-- `conclusions::exclude` meets its contract. The loop's invariant is `Turn`: what the buffer has, and what is still to come, make up what the contract says.
-- Each way through a turn has its law: no literal at b, b is v, or a literal whose clause is added.
use Prim.Native.Nat.{◌<◌}
use native.Mathlib.Omega.{arith}
use Rattle.conclusions.proofs.Turns.{turn_start, turn_pass, turn_absent, turn_present, literal_within, filled_end}
use Rattle.conclusions.proofs.exclude.Goals as goal
use Rattle.conclusions.proofs.exclude.Goals.{else-sign-ne0, else-sign-ne0-via-else-sign-ne0, else-sign-ne0-via-then-sign-ne0+else-b-v, then-sign-ne0+then-b-v}

pub loop-b-init : goal.loop-b-init
loop-b-init c = let g = c.args in turn_start g.buffer.now g.k g.x g.y g.fulls g.v c.requires.1 c.requires.6

pub sign-sign-requires : goal.sign-sign-requires
sign-sign-requires c = (c.requires.2, omega arith)

pub replaced-literal-requires : goal.replaced-literal-requires
replaced-literal-requires c = (c.empty.ensures.packed, omega arith, c.sign-sign.ensures.1)

pub sign-requires : goal.sign-requires
sign-requires c = (c.requires.3, omega arith)

pub complemented-requires : goal.complemented-requires
complemented-requires c = (
  c.replaced-literal.ensures.packed,
  omega arith,
  literal_within c.args.y c.args.fulls _ _ _ _ _ (omega arith) c.requires.4 c.empty.ensures c.replaced-literal.ensures
      c.sign-sign.ensures.0 c.sign.ensures.0,
  c.sign.ensures.1,
)

pub union-requires : goal.union-requires
union-requires c =
    (c.loop-b.invariant.packed, c.complemented.ensures.packed)

pub keep-count-requires : goal.keep-count-requires
keep-count-requires c =
    (omega (arith, c.loop-b-test.true), c.union.ensures.packed, c.requires.3, c.loop-b.invariant.buffer)

pub union-running-requires : goal.union-running-requires
union-running-requires c =
    (c.loop-b.invariant.packed, c.replaced-literal.ensures.packed)

pub loop-b-preserved : goal.loop-b-preserved
loop-b-preserved c =
    let g = c.args in
    let inside : c.loop-b.b < 12 = omega arith in
    elim c.if-sign-ne0.branch [
      | then-sign-ne0+then-b-v w ↦ turn_present g.buffer.now g.k g.x g.y g.fulls g.v _ _ _ _ c.loop-b.invariant inside
          _ _ _ _ _ _ c.sign-sign.ensures.0 w.sign.ensures.0 w.empty.ensures w.replaced-literal.ensures w.complemented.ensures w.union.ensures
          w.if-b-v.true w.if-sign-ne0.true _ _ _ w.keep-count.ensures w.union-running.ensures _ _ _ w.buffer-is w.running-is w.count-is
      | else-sign-ne0 w ↦ elim w.else-sign-ne0.branch [
        | else-sign-ne0-via-then-sign-ne0+else-b-v z ↦ turn_pass g.buffer.now g.k g.x g.y g.fulls g.v _ _ _ _ c.loop-b.invariant inside
            z.if-b-v.false _ _ _ w.buffer-is w.running-is w.count-is
        | else-sign-ne0-via-else-sign-ne0 z ↦ turn_absent g.buffer.now g.k g.x g.y g.fulls g.v _ _ _ _ c.loop-b.invariant inside
            _ c.sign-sign.ensures.0 z.if-sign-ne0.false _ _ _ w.buffer-is w.running-is w.count-is
      ]
    ]

pub returns : goal.returns
returns c =
    let g = c.args in
    let i = c.loop-b.invariant in
    (filled_end g.buffer.now g.k g.x g.y g.fulls g.v _ _ _ _ i.filled (omega arith), omega arith, i.buffer)
