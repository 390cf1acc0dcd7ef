-- `counted` meets its contract: the count and the sum go up whether the sheet leads or not, and no number grows out of its range, since the figures take one sheet more.
use Rattle.std.proofs.Common.{arith}
use mathlib.Core.Path.{◌≡◌}
use Rattle.figures.proofs.Counting.{get_d_sum_of, takes_sheets, added, added-planned, added_other, counted_leading, counted_behind}
use Rattle.figures.proofs.Figures.counted.Goals as goal
use Rattle.figures.proofs.Figures.counted.Goals.{Joined-column-eq-PLANNED, else-column-eq-PLANNED, then-column-eq-PLANNED}

pub overflow_add-number : goal.overflow_add-number
overflow_add-number c = omega (arith, takes_sheets c.args.self c.requires.figures_value.0)

pub overflow_add-self : goal.overflow_add-self
overflow_add-self c =
    omega (arith, takes_sheets c.args.self c.requires.figures_value.0, get_d_sum_of c.args.self.counts c.args.column)

pub overflow_cast-self : goal.overflow_cast-self
overflow_cast-self c =
    omega (arith, takes_sheets c.args.self c.requires.figures_value.0)

-- whether the cost was added or not
self-added : (c : Joined-column-eq-PLANNED)
    → let a = c.args in c.if-column-eq-PLANNED.self ≡ added a.self a.column a.cost
self-added c =
    let a = c.args in
    elim c.if-column-eq-PLANNED.branch [ then-column-eq-PLANNED w ↦ added-planned a.self _ _ _ w.if-column-eq-PLANNED.true w.self-is | else-column-eq-PLANNED w ↦ added_other a.self _ _ a.cost w.if-column-eq-PLANNED.false w.self-is ]

pub returns-then-leading : goal.returns-then-leading
returns-then-leading c =
    let l = c.is_leading-leading in
    counted_leading _ _ _ _ (self-added (goal.at.returns-then-leading c).Joined-column-eq-PLANNED) l.result l.ensures _ (omega arith) c.if-leading.true

pub returns-else-leading : goal.returns-else-leading
returns-else-leading c =
    let l = c.is_leading-leading in
    counted_behind _ _ _ _ (self-added (goal.at.returns-else-leading c).Joined-column-eq-PLANNED) l.result l.ensures c.if-leading.false
