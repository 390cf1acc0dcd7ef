-- `check_in` meets its contract: past the front, each test that fails is one of the definition's, and past them all the slice is a table of the shape answered.
use Prim.Native.Nat.{ℕ, ◌+◌, ◌*◌, ◌≤◌}
use native.Mathlib.Omega.{arith}
use mathlib.Core.Path.{◌≡◌, ◌∙◌}
use lib.ListN.{length}
use Rattle.table.proofs.FormTables.{room_rows}
use Rattle.table.proofs.Checking.{front_told, front_bad, no_capacity, roomy, rows_end, zeros_from, bad_rows, bad_zeros, all_good}
use Rattle.table.proofs.check_in.Goals as goal

pub returns-in_err-shape : goal.returns-in_err-shape
returns-in_err-shape g c =
    c.from_residual.ensures ∙ front_bad g.F.RowForm.form c.args.t.now _ c.front.ensures c.in_err-shape.was

pub rows_in-requires : goal.rows_in-requires
rows_in-requires g c =
    ((front_told c.args.t.now _ c.front.ensures _ c.in_ok-shape.was).room, omega (arith, g.met.F.RowForm.width_ok, g.met.F.RowForm.sign_laws.wide))

pub returns-then-rows_in-count : goal.returns-then-rows_in-count
returns-then-rows_in-count g c =
    let f = g.F.RowForm.form in
    no_capacity f c.args.t.now _ (front_told c.args.t.now _ c.front.ensures _ c.in_ok-shape.was) _
    (roomy f _ _ _ _ c.rows_in.ensures.0 (omega (arith, g.met.F.RowForm.width_ok))) (omega arith)

pub overflow_add-n : goal.overflow_add-n
overflow_add-n g c = let few = (front_told c.args.t.now _ c.front.ensures _ c.in_ok-shape.was).few in omega arith

pub rows_valid-requires : goal.rows_valid-requires
rows_valid-requires g c =
    let f = g.F.RowForm.form in
    let p = front_told c.args.t.now _ c.front.ensures _ c.in_ok-shape.was in
    let r = roomy f _ _ _ _ c.rows_in.ensures.0 (omega (arith, g.met.F.RowForm.width_ok)) in
    (room_rows f _ _ _ p.room (omega (arith, r)), p.packed)

pub returns-then-not-rows_valid : goal.returns-then-not-rows_valid
returns-then-not-rows_valid g c =
    bad_rows g.F.RowForm.form c.args.t.now _ (front_told c.args.t.now _ c.front.ensures _ c.in_ok-shape.was) _ c.rows_valid.ensures c.if-not-rows_valid.true

pub overflow_add-n-2 : goal.overflow_add-n-2
overflow_add-n-2 g c = let few = (front_told c.args.t.now _ c.front.ensures _ c.in_ok-shape.was).few in omega arith

pub all_zero_from-requires : goal.all_zero_from-requires
all_zero_from-requires g c =
    let f = g.F.RowForm.form in
    let p = front_told c.args.t.now _ c.front.ensures _ c.in_ok-shape.was in
    let r = roomy f _ _ _ _ c.rows_in.ensures.0 (omega (arith, g.met.F.RowForm.width_ok)) in
    rows_end f _ _ _ _ p.room (omega (arith, r)) (omega (arith, g.met.F.RowForm.width_ok))

pub overflow_add-n-3 : goal.overflow_add-n-3
overflow_add-n-3 g c =
    let f = g.F.RowForm.form in
    let p = front_told c.args.t.now _ c.front.ensures _ c.in_ok-shape.was in
    let r = roomy f _ _ _ _ c.rows_in.ensures.0 (omega (arith, g.met.F.RowForm.width_ok)) in
    let s = c.in_ok-shape.shape in
    let ends : (v : ℕ) → v ≡ f.rows.width → s.variables + 2 + v * s.count ≤ length c.args.t.now = λ v e. rows_end f v _ _ _ p.room (omega (arith, r)) e in
    grind (arith, g.met.F.RowForm.width_ok, ends)

pub returns-then-not-all_zero_from : goal.returns-then-not-all_zero_from
returns-then-not-all_zero_from g c =
    let f = g.F.RowForm.form in
    bad_zeros f c.args.t.now _ (front_told c.args.t.now _ c.front.ensures _ c.in_ok-shape.was) _
    (zeros_from f c.args.t.now _ _ _ _ c.all_zero_from.ensures (omega (arith, g.met.F.RowForm.width_ok))) c.if-not-all_zero_from.true

pub returns : goal.returns
returns g c =
    let f = g.F.RowForm.form in
    all_good f c.args.t.now _ (front_told c.args.t.now _ c.front.ensures _ c.in_ok-shape.was) _ _ c.rows_valid.ensures c.if-not-rows_valid.false
    (zeros_from f c.args.t.now _ _ _ _ c.all_zero_from.ensures (omega (arith, g.met.F.RowForm.width_ok))) c.if-not-all_zero_from.false _
    (roomy f _ _ _ _ c.rows_in.ensures.0 (omega (arith, g.met.F.RowForm.width_ok))) (omega arith)
