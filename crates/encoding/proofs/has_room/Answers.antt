-- `has_room` answers by the words of cost above 0 where they are few enough, else by the number of rows.
use mathlib.Core.Path.{ap}
use lib.Dec.{leb}
use Rattle.encoding.proofs.Looking.{fits_positive}
use Rattle.encoding.proofs.has_room.Goals as goal

pub returns-then-positive-room : goal.returns-then-positive-room
returns-then-positive-room c = fits_positive _ _ _ _ _ c.positive.ensures c.if-positive-room.true

pub returns : goal.returns
returns c = ap (λ n. leb n c.args.room) c.distinct.ensures

pub distinct-requires : goal.distinct-requires
distinct-requires c = c.requires
