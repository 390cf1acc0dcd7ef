-- `resume` meets its contract: the weights that it reads are those of the two rows.
use native.Mathlib.Omega.{arith}
use mathlib.Core.Path.{refl}
use Rattle.table.proofs.Reading.{row_room, row_weight}
use Rattle.resolution.proofs.Going.{resumed_stays, resumed_anew}
use Rattle.resolution.proofs.resume.Goals as goal

pub weight_of-first-requires : goal.weight_of-first-requires
weight_of-first-requires c = row_room c.args.t.now c.requires.0 c.args.base _ c.requires.1 refl c.args.i c.requires.2

pub weight_of-second-requires : goal.weight_of-second-requires
weight_of-second-requires c = row_room c.args.t.now c.requires.0 c.args.base _ c.requires.1 refl c.args.j c.requires.3

pub returns-then-second-first : goal.returns-then-second-first
returns-then-second-first c =
    let t = c.args.t.now in
    resumed_stays _ _ _ (row_weight t c.requires.0 c.args.base _ c.requires.1 refl c.args.i c.requires.2 _ c.weight_of-first.ensures.0)
    (row_weight t c.requires.0 c.args.base _ c.requires.1 refl c.args.j c.requires.3 _ c.weight_of-second.ensures.0) (omega arith)

pub returns-else-second-first : goal.returns-else-second-first
returns-else-second-first c =
    let t = c.args.t.now in
    resumed_anew _ _ _ (row_weight t c.requires.0 c.args.base _ c.requires.1 refl c.args.i c.requires.2 _ c.weight_of-first.ensures.0)
    (row_weight t c.requires.0 c.args.base _ c.requires.1 refl c.args.j c.requires.3 _ c.weight_of-second.ensures.0) (omega arith)
