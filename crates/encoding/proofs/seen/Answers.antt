-- `seen` goes through the words: up to word i no entry of cost above 0 has the clause.
use native.Mathlib.Omega.{arith}
use mathlib.Core.Path.{refl}
use Rattle.encoding.proofs.Looking.{unseen_start, unseen_next, seen_here, seen_not, proper_read}
use Rattle.encoding.proofs.seen.Goals as goal

pub loop-i-init : goal.loop-i-init
loop-i-init c = (unseen_start _ _ _ _ _ c.empty-pending.ensures, omega arith)

pub adds-requires : goal.adds-requires
adds-requires c = (c.loop-i.invariant.0.«open».holds.packed, c.requires.3)

pub returns-then-adds : goal.returns-then-adds
returns-then-adds c =
    seen_here _ _ _ _ _ _ c.loop-i.invariant.0 (omega arith) _ refl _ c.adds.ensures _ (omega arith) c.if-adds.true

pub signs_after-pending-requires : goal.signs_after-pending-requires
signs_after-pending-requires c =
    let p = c.requires in
    (c.loop-i.invariant.0.«open».holds.packed, p.2, proper_read p.4 _ c.loop-i.invariant.0.«open».from (omega arith) _ refl)

pub loop-i-preserved : goal.loop-i-preserved
loop-i-preserved c = (
  unseen_next _ _ _ _ _ _ c.loop-i.invariant.0 (omega arith) _ refl _ c.adds.ensures _ c.if-adds.false c.signs_after-pending.ensures,
  omega arith,
)

pub returns : goal.returns
returns c = seen_not _ _ _ _ _ _ _ c.loop-i.invariant.0 (omega arith)
