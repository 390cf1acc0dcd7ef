-- `read_claim` meets its contract: each early `return` is a part of a claim that is missing, the last one a claim that has all of them.
use native.Mathlib.Omega.{arith}
use mathlib.Core.Path.{sym, ◌∙◌}
use Rattle.certificate.proofs.Claims.{unclaimed, too_many, too_short, unordered, no_low, no_high, all_there}
use Rattle.certificate.proofs.read_claim.Goals as goal

pub returns-then-certificate-eq0 : goal.returns-then-certificate-eq0
returns-then-certificate-eq0 c = unclaimed _ (λ f. omega (arith, f.long))

pub returns-then-kind-ne1 : goal.returns-then-kind-ne1
returns-then-kind-ne1 c = unclaimed _ (λ f. c.if-kind-ne1.true (c.kind.ensures.0 ∙ f.head))

pub returns-then-n-gt12 : goal.returns-then-n-gt12
returns-then-n-gt12 c = let p = c.payload-n in too_many _ p.result p.ensures.0 (omega arith)

pub returns-then-certificate-n : goal.returns-then-certificate-n
returns-then-certificate-n c = let p = c.payload-n in too_short _ p.result p.ensures.0 (omega arith)

pub returns-then-not-binds_in_order : goal.returns-then-not-binds_in_order
returns-then-not-binds_in_order c =
    let p = c.payload-n in
    let a = c.args in
    unordered a.certificate.now p.result p.ensures.0 c.binds_in_order.result c.binds_in_order.ensures c.if-not-binds_in_order.true

pub returns-then-kind-ne6 : goal.returns-then-kind-ne6
returns-then-kind-ne6 c =
    let k = c.kind-2 in
    let p = c.payload-n in
    let a = c.args in
    no_low a.certificate.now p.result p.ensures.0 k.result k.ensures.0 c.if-kind-ne6.true

pub returns-then-kind-ne12 : goal.returns-then-kind-ne12
returns-then-kind-ne12 c =
    let k = c.kind-3 in
    let p = c.payload-n in
    let a = c.args in
    no_high a.certificate.now p.result p.ensures.0 k.result k.ensures.0 c.if-kind-ne12.true

pub returns : goal.returns
returns c =
    let a = c.args in
    all_there a.certificate.now c.payload-n.result c.payload-n.ensures.0
    c.binds_in_order.result c.payload.result c.payload-2.result _ (omega (arith, c.payload-2.ensures.1))
    (sym c.kind.ensures.0 ∙ c.if-kind-ne1.false) (omega arith) (omega arith)
    c.binds_in_order.ensures c.if-not-binds_in_order.false
    (sym c.kind-2.ensures.0 ∙ c.if-kind-ne6.false) (sym c.kind-3.ensures.0 ∙ c.if-kind-ne12.false)
    c.payload.ensures.0 c.payload-2.ensures.0
