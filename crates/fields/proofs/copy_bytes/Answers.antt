-- `copy_bytes` stores a byte each turn: the target is the old one with those stored pasted in.
use native.Mathlib.Numerals.{add-one}
use native.Mathlib.Omega.{arith}
use mathlib.Core.Path.{◌≡◌, ap, ◌∙◌}
use lib.ListN.{length}
use lib.Seq.{paste-zero, paste-suc, length-paste}
use Rattle.fields.proofs.copy_bytes.Goals as goal

pub loop-i-init : goal.loop-i-init
loop-i-init c = let g = c.args in (omega arith, paste-zero g.target.now g.at g.bytes.now)

pub bounds-target-at : goal.bounds-target-at
bounds-target-at c =
    let l = c.loop-i in
    omega (arith, ap length l.invariant.1, length-paste c.args.target.now c.args.at c.args.bytes.now l.i (omega arith) (omega arith))

pub loop-i-preserved : goal.loop-i-preserved
loop-i-preserved c =
    let l = c.loop-i in (
      omega arith,
      rw (l.invariant.1, add-one l.i) (paste-suc c.args.target.now c.args.at c.args.bytes.now l.i 0 (omega arith) (omega arith)),
    )

pub shape_of-target : goal.shape_of-target
shape_of-target c =
    let l = c.loop-i in
    ap length l.invariant.1 ∙ length-paste c.args.target.now c.args.at c.args.bytes.now l.i (omega arith) (omega arith)

pub returns : goal.returns
returns c =
    let l = c.loop-i in
    let e : l.i ≡ c.args.n = omega arith in
    rw e at l.invariant.1
