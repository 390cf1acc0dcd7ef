-- `advance` meets its contract: after a plan that may be made each write finds what it asks for.
use Prim.Native.Nat.{◌+◌, ◌≤◌}
use native.Mathlib.Omega.{arith}
use mathlib.Core.Path.{◌≡◌, refl}
use lib.ListN.{length}
use Rattle.conclusions.proofs.Filling.{packed_zeros}
use Rattle.table.specs.Layout.{max_rows}
use Rattle.table.proofs.Reading.{Ready, ready_shape}
use Rattle.stepping.proofs.Advancing.{raise_asks, lessen_asks, lessen_asks_first, append_asks, end_bounds, advanced}
use Rattle.stepping.proofs.advance.Goals as goal
use Rattle.stepping.proofs.advance.Goals.{After-append_missing-now, Start}

ready : (s : Start) → Ready s.args.t.now s.args.shape.variables s.args.shape.count
ready s = ready_shape s.args.t.now s.requires.0 s.args.shape s.requires.1

pub survey-requires : goal.survey-requires
survey-requires c = (c.requires.0, c.requires.1, c.requires.2, packed_zeros, refl)

pub raise-requires : goal.raise-requires
raise-requires c =
    raise_asks _ _ _ (ready (goal.at.raise-requires c).Start) _ c.requires.2 _ _ _ _ c.in_ok-plan.ensures.planned

pub lessen-fewer-requires : goal.lessen-fewer-requires
lessen-fewer-requires c =
    lessen_asks _ _ _ (ready (goal.at.lessen-fewer-requires c).Start) _ c.requires.2 _ _ _ _ c.in_ok-plan.ensures.planned _ c.raise.ensures

pub lessen-old-requires : goal.lessen-old-requires
lessen-old-requires c =
    lessen_asks_first _ _ _ (ready (goal.at.lessen-old-requires c).Start) _ c.requires.2 _ _ _ _ c.in_ok-plan.ensures.planned _ c.raise.ensures _ _ c.lessen-fewer.ensures

pub append_missing-now-requires : goal.append_missing-now-requires
append_missing-now-requires c =
    append_asks _ _ _ (ready (goal.at.append_missing-now-requires c).Start) _ c.requires.2 _ _ _ _ c.in_ok-plan.ensures.planned _ c.raise.ensures _ _ c.lessen-fewer.ensures _ _ c.lessen-old.ensures

-- the number of rows and the slice's length, for the count word
ends : (a : After-append_missing-now)
    → (a.append_missing-now.result ≤ max_rows) × (length a.append_missing-now.new.t ≡ length a.args.t.now)
    × (a.args.shape.variables + 2 ≤ length a.args.t.now) × (a.args.shape.variables ≤ 12)
ends a =
    end_bounds _ _ _ ((ready_shape a.args.t.now a.requires.0 a.args.shape a.requires.1)) _ a.requires.2 _ _ _ _ a.in_ok-plan.ensures.planned _ a.raise.ensures _ _ a.lessen-fewer.ensures _ _ a.lessen-old.ensures
    _ _ a.append_missing-now.ensures

pub overflow_cast-now : goal.overflow_cast-now
overflow_cast-now c = omega (arith, (ends (goal.at.overflow_cast-now c).After-append_missing-now).0)

pub count-requires : goal.count-requires
count-requires c = omega (arith, (ends (goal.at.count-requires c).After-append_missing-now).0)

pub returns : goal.returns
returns c =
    advanced _ _ _ (ready (goal.at.returns c).Start) _ c.requires.2 _ _ _ _ c.in_ok-plan.ensures.planned _ c.raise.ensures _ _ c.lessen-fewer.ensures _ _ c.lessen-old.ensures
    _ _ c.append_missing-now.ensures c.requires.0 _ c.count.ensures
