-- `survey` meets its contract: the callees' answers are all that `Seen` asks, and the number is that of the finished step.
use native.Mathlib.Omega.{arith}
use mathlib.Core.Path.{◌≡◌}
use Rattle.std.proofs.lemmas.Result.{err_from_is_err_and}
use Rattle.fields.specs.Numbers.{refusal_in}
use Rattle.wcsp.specs.Resolve.{resolve}
use Rattle.table.specs.Meaning.{table_rows, domains, capacity_of}
use Rattle.stepping.specs.Step.{allowed, refusal_of}
use Rattle.stepping.proofs.Refusing.{refused}
use Rattle.stepping.proofs.Surveying.{Bounds, bounds, premise_below, full-packed, Seen, seen, planned, judged}
use Rattle.stepping.proofs.survey.Goals as goal
use Rattle.stepping.proofs.survey.Goals.{After-allow, Start}

limits : (s : Start) → Bounds s.args.t.now s.args.shape s.args.v s.args.i s.args.j
limits s = let g = s.args in bounds g.t.now s.requires.0 g.shape s.requires.1 g.v g.i g.j s.requires.2

pub overflow_add-base : goal.overflow_add-base
overflow_add-base c = let b = limits (goal.at.overflow_add-base c).Start in omega arith

pub weight_of-first-requires : goal.weight_of-first-requires
weight_of-first-requires c = let b = limits (goal.at.weight_of-first-requires c).Start in omega arith

pub weight_of-second-requires : goal.weight_of-second-requires
weight_of-second-requires c = let b = limits (goal.at.weight_of-second-requires c).Start in omega arith

pub clause_of-requires : goal.clause_of-requires
clause_of-requires c = let b = limits (goal.at.clause_of-requires c).Start in omega arith

pub clause_of-requires-2 : goal.clause_of-requires-2
clause_of-requires-2 c = let b = limits (goal.at.clause_of-requires-2 c).Start in omega arith

pub conclude-kept-requires : goal.conclude-kept-requires
conclude-kept-requires c =
    let g = c.args in
    let b = limits (goal.at.conclude-kept-requires c).Start in
    let x = c.clause_of.ensures in
    let y = c.clause_of-2.ensures in (
      x.1,
      y.1,
      full-packed g.t.now c.requires.0 g.shape c.requires.1,
      premise_below g.t.now c.requires.0 g.shape c.requires.1 g.i (omega (arith, b)) _ x.0,
      premise_below g.t.now c.requires.0 g.shape c.requires.1 g.j (omega (arith, b)) _ y.0,
      b.known,
      c.requires.3,
    )

pub look-sight-requires : goal.look-sight-requires
look-sight-requires c =
    let found = c.conclude-kept.ensures in
    let first = c.weight_of-first.ensures.1 in
    let b = limits (goal.at.look-sight-requires c).Start in
    (b.room, found.1, omega (arith, first, c.min-moved.ensures), found.2, c.requires.4)

-- all that is known when the look is over
known : (l : After-allow)
    → Seen l.args.t.now
    (record { variable = l.args.v; first = l.args.i; second = l.args.j })
    l.conclude-kept.new.buffer l.look-sight.new.places l.conclude-kept.result
    l.weight_of-first.result l.weight_of-second.result l.min-moved.result l.look-sight.result.fresh l.look-sight.result.heavy
known l =
    let looked = l.look-sight.ensures in
    let g = l.args in
    seen g.t.now l.requires.0 g.v g.i g.j l.requires.2 g.shape l.requires.1 _ _ _ _ _ _ _ _ _ _
    l.weight_of-first.ensures.0 l.weight_of-second.ensures.0 l.min-moved.ensures
    l.clause_of.ensures.0 l.clause_of-2.ensures.0
    l.conclude-kept.ensures.0 l.conclude-kept.ensures.1 l.conclude-kept.ensures.2
    looked.0 looked.1 looked.2

pub overflow_sub-left : goal.overflow_sub-left
overflow_sub-left c = let b = limits (goal.at.overflow_sub-left c).Start in omega (arith, c.used.ensures.1)

pub overflow_sub-left-2 : goal.overflow_sub-left-2
overflow_sub-left-2 c = let b = limits (goal.at.overflow_sub-left-2 c).Start in omega (arith, c.used.ensures.1, c.used-2.ensures.1)

pub room-requires : goal.room-requires
room-requires c = let b = limits (goal.at.room-requires c).Start in omega arith

pub allow-requires : goal.allow-requires
allow-requires c =
    let b = limits (goal.at.allow-requires c).Start in
    omega (arith, c.look-sight.ensures.3, c.conclude-kept.ensures.1)

-- the number that the tests give is that of the finished step
verdict : (a : After-allow) → refusal_in a.allow.result ≡ refusal_of (allowed (capacity_of a.args.t.now) (record { variable = a.args.v; first = a.args.i; second = a.args.j })
    (resolve (domains a.args.t.now) (record { variable = a.args.v; first = a.args.i; second = a.args.j }) (table_rows a.args.t.now)))
verdict a =
    judged a.args.t.now a.requires.0 (known a) a.args.shape a.requires.1 _ _ _ _
    a.used.ensures.0 a.used-2.ensures.0 a.room.ensures.0 a.allow.ensures

pub returns-in_err-allow-clause-refused : goal.returns-in_err-allow-clause-refused
returns-in_err-allow-clause-refused c =
    let p = err_from_is_err_and c.from_residual.result c.from_residual.ensures.1 in
    let is = verdict (goal.at.returns-in_err-allow-clause-refused c).After-allow in
    rw (p.1, p.2) (refused c.args.t.now _ _ (grind (arith, is)))

pub returns-clause-planned : goal.returns-clause-planned
returns-clause-planned c =
    let is = verdict (goal.at.returns-clause-planned c).After-allow in
    planned (known (goal.at.returns-clause-planned c).After-allow) (grind (arith, is))
