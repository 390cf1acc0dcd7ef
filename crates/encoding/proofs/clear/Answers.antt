-- `clear` writes zeros behind the sizes, then the front and the count 0: the words of a table without rows.
use native.Mathlib.Omega.{arith}
use mathlib.Core.Path.{refl}
use Rattle.table.specs.Raws.{standard_form}
use Rattle.table.proofs.Clearing.{zeroed_asks, cleared, cleared_long, cleared_room}
use Rattle.encoding.proofs.clear.Goals as goal

pub bounds-t-n : goal.bounds-t-n
bounds-t-n c = cleared_room _ _ _ c.args.sizes.now _ refl (omega arith) c.zero_from.ensures c.write_front.ensures

pub shape_of-t : goal.shape_of-t
shape_of-t c = cleared_long _ _ _ c.args.sizes.now _ refl (omega arith) c.zero_from.ensures c.write_front.ensures _

pub write_front-requires : goal.write_front-requires
write_front-requires c =
    let room = (zeroed_asks _ c.zero_from.new.t _ {long = 12} (omega arith) c.zero_from.ensures c.requires.0 refl).2 in
    (c.requires.0, room)

pub returns : goal.returns
returns c = cleared _ _ _ _ _ refl (omega arith) c.zero_from.ensures c.write_front.ensures standard_form _ c.word.ensures
