-- `carry` meets its contract: k and the number of values are tested, then each value from the last down, which the clause carries if it is in range.
use Prim.Native.Nat.{◌-◌}
use native.Mathlib.Omega.{arith}
use Rattle.table.proofs.Finishing.{valid_variables, valid_room}
use Rattle.assignment.proofs.Bit.{bit_small}
use Rattle.assignment.proofs.Tables.{few_sizes}
use Rattle.completion.proofs.CarryTurns.{high_start, wrong_number, nothing_yet, variable_low, value_there, out_of_range, value_low, one_more, all_carried}
use Rattle.completion.proofs.carry.Goals as goal

pub returns-then-n-k : goal.returns-then-n-k
returns-then-n-k c =
    high_start c.args.t.now c.requires.0 c.args.n c.requires.1 c.args.k c.args.fixed.now (omega arith)

pub returns-then-fixed-n : goal.returns-then-fixed-n
returns-then-fixed-n c =
    wrong_number c.args.t.now c.requires.0 c.args.n c.requires.1 c.args.k c.args.fixed.now (omega arith) (λ e. omega arith)

pub loop-i-init : goal.loop-i-init
loop-i-init c =
    nothing_yet c.args.t.now c.requires.0 c.args.n c.requires.1 c.args.k c.args.fixed.now (omega arith) (omega arith) _ c.empty-values.ensures

pub bounds-fixed-i : goal.bounds-fixed-i
bounds-fixed-i c =
    let l = c.loop-i in
    value_there c.args.t.now c.requires.0 c.args.n c.requires.1 c.args.k c.args.fixed.now (omega arith) (omega arith) l.i (l.i - 1) (omega arith) (omega arith) l.values l.invariant (l.i - 1 - c.args.k) (omega arith)

pub overflow_add-i : goal.overflow_add-i
overflow_add-i c =
    omega (arith, c.loop-i.invariant.last, few_sizes c.args.t.now c.requires.0)

pub offset_bounds-t-i : goal.offset_bounds-t-i
offset_bounds-t-i c =
    omega (arith, c.loop-i.invariant.last, few_sizes c.args.t.now c.requires.0)

pub bounds-t-i : goal.bounds-t-i
bounds-t-i c =
    let l = c.loop-i in
    omega (arith, l.invariant.last, valid_variables c.args.t.now c.requires.0, valid_room c.args.t.now c.requires.0)

pub returns-then-payload-value : goal.returns-then-payload-value
returns-then-payload-value c =
    let l = c.loop-i in
    out_of_range c.args.t.now c.requires.0 c.args.n c.requires.1 c.args.k c.args.fixed.now (omega arith) (omega arith) l.i (l.i - 1) (omega arith) (omega arith) l.values l.invariant (l.i - 1 - c.args.k) (omega arith) _ c.payload.ensures.0 (omega (arith, c.from-value.ensures))

pub overflow_cast-i : goal.overflow_cast-i
overflow_cast-i c =
    let l = c.loop-i in
    omega (arith, variable_low c.args.t.now c.requires.0 c.args.n c.requires.1 c.args.k c.args.fixed.now (omega arith) (omega arith) l.i (l.i - 1) (omega arith) (omega arith) l.values l.invariant (l.i - 1 - c.args.k) (omega arith))

pub overflow_shl-value : goal.overflow_shl-value
overflow_shl-value c =
    let l = c.loop-i in
    let w = c.from-value.ensures in
    omega (arith, w, value_low c.args.t.now c.requires.0 c.args.n c.requires.1 c.args.k c.args.fixed.now (omega arith) (omega arith) l.i (l.i - 1) (omega arith) (omega arith) l.values l.invariant (l.i - 1 - c.args.k) (omega arith) _ c.payload.ensures.0 (omega (arith, w)))

pub replaced-values-requires : goal.replaced-values-requires
replaced-values-requires c =
    let l = c.loop-i in
    let w = c.from-value.ensures in
    (l.invariant.holds.packed, variable_low c.args.t.now c.requires.0 c.args.n c.requires.1 c.args.k c.args.fixed.now (omega arith) (omega arith) l.i (l.i - 1) (omega arith) (omega arith) l.values l.invariant (l.i - 1 - c.args.k) (omega arith), rw w (bit_small _ (value_low c.args.t.now c.requires.0 c.args.n c.requires.1 c.args.k c.args.fixed.now (omega arith) (omega arith) l.i (l.i - 1) (omega arith) (omega arith) l.values l.invariant (l.i - 1 - c.args.k) (omega arith) _ c.payload.ensures.0 (omega (arith, w)))))

pub loop-i-preserved : goal.loop-i-preserved
loop-i-preserved c =
    let l = c.loop-i in
    let w = c.from-value.ensures in
    one_more c.args.t.now c.requires.0 c.args.n c.requires.1 c.args.k c.args.fixed.now (omega arith) (omega arith) l.i (l.i - 1) (omega arith) (omega arith) l.values l.invariant (l.i - 1 - c.args.k) (omega arith) _ c.payload.ensures.0 (omega (arith, w)) _ (rw w at c.replaced-values.ensures)

pub returns : goal.returns
returns c =
    let l = c.loop-i in
    all_carried c.args.t.now c.requires.0 c.args.n c.requires.1 c.args.k c.args.fixed.now (omega arith) (omega arith) l.i l.values (omega arith) l.invariant
