-- `convert` meets its contract: the tests decide in the definition's order, and a good call starts the target, writes the rows and sets their number.
use native.Mathlib.Omega.{arith}
use mathlib.Core.Path.{refl, ◌∙◌}
use mathlib.Core.Bool.{true, false}
use lib.ListN.{length, length-set}
use Rattle.table.proofs.Tested.{table_valid_in}
use Rattle.conversion.proofs.Weights.{heavy_at_most}
use Rattle.conversion.proofs.Converting.{not_a_table, target_room, few, rows_there, too_short, too_wide, no_room, room_there, started_long, none_laid, written_long, converted}
use Rattle.conversion.proofs.convert.Goals as goal

pub returns-in_default : goal.returns-in_default
returns-in_default g c =
    not_a_table g.S.RowForm.form g.T.RowForm.form c.args.source.now c.args.target.now _ c.check_in.ensures c.in_default.is _ refl

pub overflow_add-n : goal.overflow_add-n
overflow_add-n g c =
    let f = g.S.RowForm.form in
    let h = g.T.RowForm.form in
    let a = c.args in
    let p = table_valid_in f a.source.now _ c.check_in.ensures _ c.in-Some.is in
    omega (arith, few f h g.met.S.RowForm.laws g.met.T.RowForm.laws a.source.now a.target.now c.in-Some.shape p)

pub returns-then-target-n : goal.returns-then-target-n
returns-then-target-n g c =
    let f = g.S.RowForm.form in
    let h = g.T.RowForm.form in
    let a = c.args in
    let p = table_valid_in f a.source.now _ c.check_in.ensures _ c.in-Some.is in
    too_short f h g.met.S.RowForm.laws g.met.T.RowForm.laws a.source.now a.target.now c.in-Some.shape p (omega arith) _ refl

pub too_wide-requires : goal.too_wide-requires
too_wide-requires g c =
    let f = g.S.RowForm.form in
    let h = g.T.RowForm.form in
    let a = c.args in
    let p = table_valid_in f a.source.now _ c.check_in.ensures _ c.in-Some.is in
    rows_there f h g.met.S.RowForm.laws g.met.T.RowForm.laws a.source.now a.target.now c.in-Some.shape p

pub returns-then-too_wide : goal.returns-then-too_wide
returns-then-too_wide g c =
    let f = g.S.RowForm.form in
    let h = g.T.RowForm.form in
    let a = c.args in
    let p = table_valid_in f a.source.now _ c.check_in.ensures _ c.in-Some.is in
    too_wide f h g.met.S.RowForm.laws g.met.T.RowForm.laws a.source.now a.target.now c.in-Some.shape p (omega arith)
    (heavy_at_most h _ (c.MAX_WEIGHT.ensures ∙ g.met.T.RowForm.limit_ok) _ _ c.too_wide.ensures true c.if-too_wide.true) _ refl

pub rows_in-requires : goal.rows_in-requires
rows_in-requires g c = (omega arith, omega (arith, g.met.T.RowForm.width_ok, g.met.T.RowForm.sign_laws.wide))

pub returns-then-rows_in-count : goal.returns-then-rows_in-count
returns-then-rows_in-count g c =
    let f = g.S.RowForm.form in
    let h = g.T.RowForm.form in
    let a = c.args in
    let p = table_valid_in f a.source.now _ c.check_in.ensures _ c.in-Some.is in
    let light = heavy_at_most h _ (c.MAX_WEIGHT.ensures ∙ g.met.T.RowForm.limit_ok) _ _ c.too_wide.ensures false c.if-too_wide.false in
    let room = target_room h _ _ (length a.target.now) _ _ c.rows_in.ensures.0 (omega (arith, g.met.T.RowForm.width_ok)) (omega arith) in
    no_room f h g.met.S.RowForm.laws g.met.T.RowForm.laws a.source.now a.target.now c.in-Some.shape p (omega arith) light _ room (omega arith) _ refl

pub start-requires : goal.start-requires
start-requires g c =
    let f = g.S.RowForm.form in
    let h = g.T.RowForm.form in
    let a = c.args in
    let p = table_valid_in f a.source.now _ c.check_in.ensures _ c.in-Some.is in
    (omega (arith, rows_there f h g.met.S.RowForm.laws g.met.T.RowForm.laws a.source.now a.target.now c.in-Some.shape p), omega arith)

pub write_rows-requires : goal.write_rows-requires
write_rows-requires g c =
    let f = g.S.RowForm.form in
    let h = g.T.RowForm.form in
    let a = c.args in
    let p = table_valid_in f a.source.now _ c.check_in.ensures _ c.in-Some.is in
    let light = heavy_at_most h _ (c.MAX_WEIGHT.ensures ∙ g.met.T.RowForm.limit_ok) _ _ c.too_wide.ensures false c.if-too_wide.false in
    let room = target_room h _ _ (length a.target.now) _ _ c.rows_in.ensures.0 (omega (arith, g.met.T.RowForm.width_ok)) (omega arith) in
    let long = started_long f h g.met.S.RowForm.laws g.met.T.RowForm.laws a.source.now a.target.now c.in-Some.shape p (omega arith) light _ room (omega arith) _ c.start.ensures in (
      rows_there f h g.met.S.RowForm.laws g.met.T.RowForm.laws a.source.now a.target.now c.in-Some.shape p,
      omega (arith, room_there f h g.met.S.RowForm.laws g.met.T.RowForm.laws a.source.now a.target.now c.in-Some.shape p (omega arith) light _ room (omega arith)),
      none_laid f h g.met.S.RowForm.laws g.met.T.RowForm.laws a.source.now a.target.now c.in-Some.shape p (omega arith) light _ room (omega arith) _ c.start.ensures,
      light,
    )

pub shape_of-target : goal.shape_of-target
shape_of-target g c =
    let f = g.S.RowForm.form in
    let h = g.T.RowForm.form in
    let a = c.args in
    let p = table_valid_in f a.source.now _ c.check_in.ensures _ c.in-Some.is in
    let light = heavy_at_most h _ (c.MAX_WEIGHT.ensures ∙ g.met.T.RowForm.limit_ok) _ _ c.too_wide.ensures false c.if-too_wide.false in
    let room = target_room h _ _ (length a.target.now) _ _ c.rows_in.ensures.0 (omega (arith, g.met.T.RowForm.width_ok)) (omega arith) in
    simp length-set (written_long f h g.met.S.RowForm.laws g.met.T.RowForm.laws a.source.now a.target.now c.in-Some.shape p (omega arith) light _ room (omega arith) _ c.start.ensures _ c.write_rows.ensures)

pub returns : goal.returns
returns g c =
    let f = g.S.RowForm.form in
    let h = g.T.RowForm.form in
    let a = c.args in
    let p = table_valid_in f a.source.now _ c.check_in.ensures _ c.in-Some.is in
    let light = heavy_at_most h _ (c.MAX_WEIGHT.ensures ∙ g.met.T.RowForm.limit_ok) _ _ c.too_wide.ensures false c.if-too_wide.false in
    let room = target_room h _ _ (length a.target.now) _ _ c.rows_in.ensures.0 (omega (arith, g.met.T.RowForm.width_ok)) (omega arith) in
    converted f h g.met.S.RowForm.laws g.met.T.RowForm.laws a.source.now a.target.now c.in-Some.shape p (omega arith) light _ room (omega arith) _ c.start.ensures _ c.write_rows.ensures _ c.count.ensures _ refl
