-- `put_assignment` puts a line each turn: those of the variables passed stand behind what the buffer held. How many there are the sheet's head says.
use Rattle.std.proofs.Common.{arith, ◌≡◌, length}
use Rattle.sheet.specs.Sheet.{sheet_sizes}
use Rattle.listing.specs.Listed.{variable_lines}
use Rattle.listing.proofs.Lines.{nothing_put, line_put, lines_put}
use Rattle.listing.proofs.Plans.{variables_read}
use Rattle.listing.proofs.put_assignment.Goals as goal

pub loop-v-init : goal.loop-v-init
unfolding variable_lines
loop-v-init c = (nothing_put _ _, omega arith)

pub metres_to-metres-requires : goal.metres_to-metres-requires
metres_to-metres-requires c =
    let p = c.requires.holds_plan in
    let read = variables_read c.args.sheet.now p.fine in
    let count = c.variables_of-count.ensures in
    record { holds_plan = p; v_in_bounds = (omega (arith, read, count), omega (arith, read, count)) }

pub bounds-plan-v : goal.bounds-plan-v
bounds-plan-v c =
    let p = c.requires.holds_plan in
    omega (arith, p.long, variables_read c.args.sheet.now p.fine, c.variables_of-count.ensures)

pub put_variable-end-requires : goal.put_variable-end-requires
put_variable-end-requires c =
    omega (arith, variables_read c.args.sheet.now c.requires.holds_plan.fine, c.variables_of-count.ensures, c.loop-v.invariant.1)

pub loop-v-preserved : goal.loop-v-preserved
loop-v-preserved c =
    let l = c.loop-v in
    let p = c.put_variable-end.ensures in
    (line_put _ _ _ _ l.v _ _ _ _ _ _ l.invariant.0 (omega arith) c.metres_to-metres.ensures p.0, omega arith)

pub returns : goal.returns
returns c =
    let l = c.loop-v in
    let read = variables_read c.args.sheet.now c.requires.holds_plan.fine in
    let count : l.v ≡ length (sheet_sizes c.args.sheet.now) = omega (arith, c.variables_of-count.ensures, read) in
    (lines_put _ _ _ _ c.args.out.now _ _ count l.invariant.0, omega (arith, read, count, l.invariant.1))
