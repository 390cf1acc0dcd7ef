-- `rebuild` meets its contract: the values from i on are given or chosen, and the rest is rebuilt over them.
use Prim.Native.Nat.{◌-◌}
use native.Mathlib.Omega.{arith}
use Rattle.assignment.proofs.Bit.{bit_small}
use Rattle.assignment.proofs.Tables.{few_variables, fulls_packed, rows_within, start, variable_low, place_within, value_bound, again, finished}
use Rattle.assignment.proofs.rebuild.Goals as goal

pub overflow_add-base : goal.overflow_add-base
overflow_add-base c =
    omega (arith, few_variables c.args.t.now c.requires.valid c.args.shape c.requires.shaped)

pub loop-i-init : goal.loop-i-init
loop-i-init c =
    start c.args.t.now c.args.shape c.args.k c.args.given c.args.target.now c.requires

pub overflow_cast-v : goal.overflow_cast-v
overflow_cast-v c =
    let l = c.loop-i in
    omega (arith, variable_low c.args.t.now c.args.shape c.args.k c.args.given c.args.target.now c.requires l.target l.chosen l.i (l.i - 1) (omega arith) l.invariant)

pub sign-requires : goal.sign-requires
sign-requires c =
    let l = c.loop-i in
    (fulls_packed c.args.t.now c.requires.valid c.args.shape c.requires.shaped, variable_low c.args.t.now c.args.shape c.args.k c.args.given c.args.target.now c.requires l.target l.chosen l.i (l.i - 1) (omega arith) l.invariant)

pub narrow-sign-requires : goal.narrow-sign-requires
narrow-sign-requires c =
    let l = c.loop-i in
    (rows_within c.args.t.now c.requires.valid c.args.shape c.requires.shaped, variable_low c.args.t.now c.args.shape c.args.k c.args.given c.args.target.now c.requires l.target l.chosen l.i (l.i - 1) (omega arith) l.invariant)

pub overflow_cast-target : goal.overflow_cast-target
overflow_cast-target c =
    let l = c.loop-i in
    omega (arith, value_bound c.args.t.now c.args.shape c.args.k c.args.given c.args.target.now c.requires l.target l.chosen l.i (l.i - 1) (omega arith) l.invariant _ _ c.sign.ensures.0 c.narrow-sign.ensures)

pub bounds-target-i : goal.bounds-target-i
bounds-target-i c =
    let l = c.loop-i in
    place_within c.args.t.now c.args.shape c.args.k c.args.given c.args.target.now c.requires l.target l.chosen l.i (l.i - 1) (omega arith) l.invariant

pub overflow_shl-value : goal.overflow_shl-value
overflow_shl-value c =
    let l = c.loop-i in
    omega (arith, value_bound c.args.t.now c.args.shape c.args.k c.args.given c.args.target.now c.requires l.target l.chosen l.i (l.i - 1) (omega arith) l.invariant _ _ c.sign.ensures.0 c.narrow-sign.ensures)

pub replaced-chosen-requires : goal.replaced-chosen-requires
replaced-chosen-requires c =
    let l = c.loop-i in
    (l.invariant.packed, variable_low c.args.t.now c.args.shape c.args.k c.args.given c.args.target.now c.requires l.target l.chosen l.i (l.i - 1) (omega arith) l.invariant, bit_small _ (value_bound c.args.t.now c.args.shape c.args.k c.args.given c.args.target.now c.requires l.target l.chosen l.i (l.i - 1) (omega arith) l.invariant _ _ c.sign.ensures.0 c.narrow-sign.ensures))

pub loop-i-preserved : goal.loop-i-preserved
loop-i-preserved c =
    let l = c.loop-i in
    again c.args.t.now c.args.shape c.args.k c.args.given c.args.target.now c.requires l.target l.chosen l.i (l.i - 1) (omega arith) l.invariant _ _ c.sign.ensures.0 c.narrow-sign.ensures _ c.replaced-chosen.ensures

pub shape_of-target : goal.shape_of-target
shape_of-target c = c.loop-i.invariant.so_far.long

pub returns : goal.returns
returns c =
    let l = c.loop-i in
    finished c.args.t.now c.args.shape c.args.k c.args.given c.args.target.now c.requires l.target l.chosen l.i (omega arith) l.invariant
