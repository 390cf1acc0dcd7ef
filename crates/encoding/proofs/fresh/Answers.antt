-- `fresh` answers by the word's cost, then by whether an earlier entry has the clause.
use Rattle.encoding.proofs.Looking.{fresh-none, fresh_seen, fresh_new}
use Rattle.encoding.proofs.fresh.Goals as goal

pub returns-then-cost_of-eq0 : goal.returns-then-cost_of-eq0
returns-then-cost_of-eq0 c = fresh-none _ _ _ c.cost_of.ensures c.if-cost_of-eq0.true

pub returns-then-seen : goal.returns-then-seen
returns-then-seen c = fresh_seen _ _ _ c.cost_of.ensures _ c.if-cost_of-eq0.false c.seen.ensures c.if-seen.true

pub returns : goal.returns
returns c = fresh_new _ _ _ c.cost_of.ensures _ c.if-cost_of-eq0.false c.seen.ensures c.if-seen.false

pub seen-requires : goal.seen-requires
seen-requires c = c.requires
