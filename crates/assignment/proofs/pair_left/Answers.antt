-- `pair_left` meets its contract: the hunt from the first row of the first variable finds the table's next pair, if one is left.
use native.Mathlib.Omega.{arith}
use Rattle.assignment.proofs.Tables.{few_variables}
use Rattle.assignment.proofs.Hunting.{may_hunt}
use Rattle.assignment.proofs.pair_left.Goals as goal

pub overflow_add-shape : goal.overflow_add-shape
overflow_add-shape c =
    omega (arith, few_variables c.args.t.now c.requires.0 c.args.shape c.requires.1)

pub hunt-requires : goal.hunt-requires
hunt-requires c =
    let h = may_hunt c.args.t.now c.requires.0 c.args.shape c.requires.1 in
    (h.0, h.1, omega arith)
