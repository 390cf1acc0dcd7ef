-- `scan_entries`: behind each word the rest has the fault and the number of the whole.
use Rattle.std.proofs.Common.{◌≡◌, ◌+◌, [], length, arith, rules, sym, ap, ◌∙◌}
use Rattle.fields.specs.Numbers.{fault_in, fault_number}
use Rattle.fields.specs.Entries.{entries_from}
use Rattle.reader.specs.Left.{words_left}
use Rattle.entries.specs.Entries.{entries_fault}
use Rattle.entries.proofs.Scans.{fault_behind, fault_there, end_fault, end_number}
use Rattle.entries.proofs.Scanning.{count_goes}
use Rattle.entries.proofs.scan_entries.Goals as goal

pub loop-word-preserved : goal.loop-word-preserved
loop-word-preserved c =
    let i = rw c.in-Some.ensures.steps.0 at c.loop-word.invariant in
    let step = c.in_ok-read.ensures.scanned in
    (tt, tt, sym (fault_behind _ _ _ _ (words_left c.next.new.self) _ _ step) ∙ i.2, omega (arith, count_goes _ _ _ _ _ (words_left c.next.new.self) _ step, i.3))

pub returns-in_err-read-clause-fault : goal.returns-in_err-read-clause-fault
returns-in_err-read-clause-fault c =
    let i = rw c.in-Some.ensures.steps.0 at c.loop-word.invariant in
    let e : fault_number c.in_err-read.field-0.0 ≡ entries_fault c.args.sizes.now 0 c.args.before (words_left c.args.reader) =
    sym (fault_there _ _ _ _ (words_left c.next.new.self) _ c.in_err-read.ensures.scanned) ∙ i.2 ∙ ap (λ r. entries_fault c.args.sizes.now 0 c.args.before (words_left r)) c.into_iter-word-iterator.ensures.into_iter_gives in
    search (rules, e)

pub returns-clause-fault : goal.returns-clause-fault
returns-clause-fault c =
    let i = rw c.in-None.ensures.steps.0.0 at c.loop-word.invariant in
    ap fault_in c.end.ensures ∙ end_fault c.args.sizes.now c.loop-word.state ∙ i.2 ∙ ap (λ r. entries_fault c.args.sizes.now 0 c.args.before (words_left r)) c.into_iter-word-iterator.ensures.into_iter_gives

pub returns-clause-number : goal.returns-clause-number
returns-clause-number c =
    let i = rw c.in-None.ensures.steps.0.0 at c.loop-word.invariant in
    rw c.end.ensures (end_number c.loop-word.state _ (i.3 ∙ ap (λ r. c.args.before + length (entries_from [] (words_left r))) c.into_iter-word-iterator.ensures.into_iter_gives))
