-- `from` answers what its word says: each kind's case is the one law that a word is read by its kind and payload.
use native.Mathlib.Omega.{arith}
use mathlib.Core.Path.{sym, ◌∙◌}
use Rattle.words.specs.Meaning.{of_kind}
use Rattle.words.proofs.Reading.{by_parts, unknown_else}
use Rattle.words.proofs.WordFromU32.from.Goals as goal

pub returns-in-1 : goal.returns-in-1
unfolding of_kind
returns-in-1 c = by_parts _ 1 c.payload-p.result (omega arith) c.payload-p.ensures.0

pub returns-in-2 : goal.returns-in-2
unfolding of_kind
returns-in-2 c = by_parts _ 2 c.payload-p.result (omega arith) c.payload-p.ensures.0

pub returns-in-3 : goal.returns-in-3
unfolding of_kind
returns-in-3 c = by_parts _ 3 c.payload-p.result (omega arith) c.payload-p.ensures.0

pub returns-in-4 : goal.returns-in-4
unfolding of_kind
returns-in-4 c = by_parts _ 4 c.payload-p.result (omega arith) c.payload-p.ensures.0

pub returns-in-5 : goal.returns-in-5
unfolding of_kind
returns-in-5 c = by_parts _ 5 c.payload-p.result (omega arith) c.payload-p.ensures.0

pub returns-in-6 : goal.returns-in-6
unfolding of_kind
returns-in-6 c = by_parts _ 6 c.payload-p.result (omega arith) c.payload-p.ensures.0

pub returns-in-7 : goal.returns-in-7
unfolding of_kind
returns-in-7 c = by_parts _ 7 c.payload-p.result (omega arith) c.payload-p.ensures.0

pub returns-in-8 : goal.returns-in-8
unfolding of_kind
returns-in-8 c = by_parts _ 8 c.payload-p.result (omega arith) c.payload-p.ensures.0

pub returns-in-9 : goal.returns-in-9
unfolding of_kind
returns-in-9 c = by_parts _ 9 c.payload-p.result (omega arith) c.payload-p.ensures.0

pub returns-in-10 : goal.returns-in-10
unfolding of_kind
returns-in-10 c = by_parts _ 10 c.payload-p.result (omega arith) c.payload-p.ensures.0

pub returns-in-11 : goal.returns-in-11
unfolding of_kind
returns-in-11 c = by_parts _ 11 c.payload-p.result (omega arith) c.payload-p.ensures.0

pub returns-in-12 : goal.returns-in-12
unfolding of_kind
returns-in-12 c = by_parts _ 12 c.payload-p.result (omega arith) c.payload-p.ensures.0

pub returns-in-0 : goal.returns-in-0
unfolding of_kind
returns-in-0 c = by_parts _ 0 c.payload-p.result (omega arith) c.payload-p.ensures.0

pub returns-in-0-2 : goal.returns-in-0-2
unfolding of_kind
returns-in-0-2 c =
    let r = c.in-0.in-0-own.rest.0 in
    sym (unknown_else _ c.payload-p.result r.0.0.0.0.0.0.0.0.0.0.0.1 r.0.0.0.0.0.0.0.0.0.0.1 r.0.0.0.0.0.0.0.0.0.1 r.0.0.0.0.0.0.0.0.1 r.0.0.0.0.0.0.0.1 r.0.0.0.0.0.0.1 r.0.0.0.0.0.1 r.0.0.0.0.1 r.0.0.0.1 r.0.0.1 r.0.1 r.1) ∙
    by_parts _ c.kind.result c.payload-p.result c.kind.ensures.0 c.payload-p.ensures.0
