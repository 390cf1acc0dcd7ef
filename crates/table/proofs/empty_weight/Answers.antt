-- `empty_weight` meets its contract: in a valid table the search by sign words finds the empty row.
use Rattle.table.proofs.Reading.{find_room}
use Rattle.table.proofs.Weighing.{no_empty, weight_room, empty_at}
use Rattle.table.proofs.empty_weight.Goals as goal

pub find-found-requires : goal.find-found-requires
find-found-requires c =
    (find_room c.args.t.now c.requires.0 c.args.base c.args.count c.requires.1 c.requires.2, c.empty.ensures.packed)

pub returns-in_default : goal.returns-in_default
returns-in_default c =
    no_empty c.args.t.now c.requires.0 c.args.base c.args.count c.requires.1 c.requires.2 _ c.empty.ensures _ c.find-found.ensures
    c.in_default.is

pub weight_of-requires : goal.weight_of-requires
weight_of-requires c =
    weight_room c.args.t.now c.requires.0 c.args.base c.args.count c.requires.1 c.requires.2 _ c.empty.ensures _ c.find-found.ensures
    c.in-Some.k c.in-Some.is

pub returns : goal.returns
returns c =
    empty_at c.args.t.now c.requires.0 c.args.base c.args.count c.requires.1 c.requires.2 _ c.empty.ensures _ c.find-found.ensures
    c.in-Some.k c.in-Some.is _ c.weight_of.ensures.0
