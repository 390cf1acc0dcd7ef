-- `read_fulls` meets its contract. The loop keeps the full signs of the sizes read so far, with those of one value behind, and what is left to test.
use Prim.Native.Nat.{◌≤◌}
use native.Mathlib.Omega.{arith}
use lib.ListN.{length, drop, length-drop}
use Rattle.table.proofs.Fronts.{none_filled, behind_head_lem, size_bad, filled_more, all_filled}
use Rattle.table.proofs.read_fulls.Goals as goal

pub loop-i-init : goal.loop-i-init
loop-i-init c = (omega arith, none_filled _ _)

pub returns-then-d-eq0 : goal.returns-then-d-eq0
returns-then-d-eq0 c =
    let g = c.args in
    let long : g.n ≤ length (drop 1 g.t.now) = rw (length-drop 1 g.t.now) (omega arith) in
    size_bad (drop 1 g.t.now) g.n c.loop-i.i _ c.loop-i.fulls c.loop-i.invariant.1
    (behind_head_lem g.t.now c.loop-i.i _ c.size_in-d.ensures.0) (omega arith) long (omega arith)

pub replaced-fulls-requires : goal.replaced-fulls-requires
replaced-fulls-requires c = (c.loop-i.invariant.1.packed, omega arith, omega arith)

pub loop-i-preserved : goal.loop-i-preserved
loop-i-preserved c =
    let g = c.args in
    let long : g.n ≤ length (drop 1 g.t.now) = rw (length-drop 1 g.t.now) (omega arith) in (
      omega arith,
      filled_more (drop 1 g.t.now) g.n c.loop-i.i _ c.loop-i.fulls c.loop-i.invariant.1
          (behind_head_lem g.t.now c.loop-i.i _ c.size_in-d.ensures.0) (omega arith) long
          c.if-d-eq0.false (omega arith) _ _ c.full_sign.ensures.0 c.replaced-fulls.ensures,
    )

pub returns : goal.returns
returns c =
    all_filled (drop 1 c.args.t.now) _ c.loop-i.i c.loop-i.fulls c.loop-i.invariant.1 (omega arith)
