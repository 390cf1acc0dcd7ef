-- `put_solved` puts the text of the ending that it finds; where that is a plan, it holds a value of every variable.
use native.Mathlib.Omega.{arith}
use mathlib.Core.Path.{ap}
use Rattle.fields.specs.Numbers.{number_of}
use Rattle.planning.specs.Values.{ending_as}
use Rattle.printing.specs.Printed.{ending_text}
use Rattle.printing.proofs.Texts.{ending_put, refusal_put}
use Rattle.printing.proofs.put_solved.Goals as goal

pub put_planned-requires : goal.put_planned-requires
put_planned-requires c =
    let p = c.requires in
    let h = p.listable (ap ending_as c.in-Planned.is) in
    record { holds_plan = h.0; bytes_len_bound = (h.1, p.in_bounds) }

pub returns-in-Refused : goal.returns-in-Refused
unfolding ending_text
returns-in-Refused c =
    let a = c.args in
    let e = ap ending_as c.in-Refused.is in
    (ending_put a.out.now _ _ _ _ _ _ _ _ e (refusal_put a.out.now (number_of c.in-Refused.refusal) _ _ _ (omega arith) c.put_refused.ensures.0), omega arith)

pub returns-in-Planned : goal.returns-in-Planned
unfolding ending_text
returns-in-Planned c =
    let a = c.args in
    let e = ap ending_as c.in-Planned.is in
    let p = c.put_planned.ensures in
    (ending_put a.out.now _ _ _ _ _ _ _ _ e p.0, p.1)

pub returns-in-Paused : goal.returns-in-Paused
unfolding ending_text
returns-in-Paused c =
    let a = c.args in
    let e = ap ending_as c.in-Paused.is in
    (ending_put a.out.now _ _ _ _ _ _ _ _ e c.put_stopped.ensures.0, omega arith)

pub returns-in-Full : goal.returns-in-Full
unfolding ending_text
returns-in-Full c =
    let a = c.args in
    let e = ap ending_as c.in-Full.is in
    (ending_put a.out.now _ _ _ _ _ _ _ _ e c.put_stopped-in-Full.ensures.0, omega arith)
