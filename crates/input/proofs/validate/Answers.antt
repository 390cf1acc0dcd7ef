-- `validate`: what its three readers have read is what the instance means.
use Rattle.std.proofs.Common.{◌≡◌, [], drop, sym, ap, ◌∙◌}
use Rattle.reader.specs.Left.{words_left}
use Rattle.entries.specs.Entries.{entries_fault}
use Rattle.input.specs.Instance.{stations_fault, instance_fault}
use Rattle.input.proofs.Heads.{head_good, read_sizes_are, read_entries_are, good_is}
use Rattle.input.proofs.validate.Goals as goal

pub returns-clause-sizes : goal.returns-clause-sizes
returns-clause-sizes c =
    let head = rw c.over-reader.ensures.left at c.in_ok-n.ensures.head in
    read_sizes_are c.args.words.now _ _ 0 (sym head) (rw (c.read_head.ensures.left, c.over-reader.ensures.left) at c.in_ok-sizes.ensures.sizes)

pub returns-clause-entries : goal.returns-clause-entries
returns-clause-entries c =
    let head = rw c.over-reader.ensures.left at c.in_ok-n.ensures.head in
    read_entries_are c.args.words.now [] _ _ (sym head)
    (rw (c.in_ok-sizes.ensures.left, c.read_head.ensures.left, c.over-reader.ensures.left) at c.in_ok-entries.ensures.number)

pub returns-clause-returned : goal.returns-clause-returned
returns-clause-returned c =
    let head = rw c.over-reader.ensures.left at c.in_ok-n.ensures.head in
    let fault : 0 ≡ instance_fault c.args.words.now =
    c.in_ok-entries.ensures.fault ∙ ap (λ ds. entries_fault ds 0 0 (words_left c.read_sizes.new.reader)) c.deref.ensures.0 ∙ sym c.in_ok-sizes.ensures.good
    ∙ ap (stations_fault c.in_ok-n.n []) (c.read_head.ensures.left ∙ ap (drop 1) c.over-reader.ensures.left) ∙ sym (head_good c.args.words.now _ (sym head)) in
    good_is c.args.words.now _ _ fault
    (read_sizes_are c.args.words.now _ _ 0 (sym head) (rw (c.read_head.ensures.left, c.over-reader.ensures.left) at c.in_ok-sizes.ensures.sizes))
    (read_entries_are c.args.words.now [] _ _ (sym head)
    (rw (c.in_ok-sizes.ensures.left, c.read_head.ensures.left, c.over-reader.ensures.left) at c.in_ok-entries.ensures.number))
