-- `encode_entries` goes through the words: the table carries the rows of those passed.
use native.Mathlib.Omega.{arith}
use mathlib.Core.Path.{refl, ◌∙◌}
use Rattle.table.proofs.Twelve.{twelve_signs_of}
use Rattle.encoding.proofs.Looking.{proper_read}
use Rattle.encoding.proofs.Writing.{written_start, addable, written_next, written_end}
use Rattle.encoding.proofs.encode_entries.Goals as goal

pub loop-i-init : goal.loop-i-init
loop-i-init c =
    written_start _ _ _ _ _ (twelve_signs_of _ c.requires.0) c.requires.1 _ c.empty-pending.ensures

pub add-count-requires : goal.add-count-requires
add-count-requires c =
    addable _ _ _ _ _ (twelve_signs_of _ c.requires.0) c.requires.1 _ _ _ _ c.loop-i.invariant c.loop-i-test.true _ refl _ (c.from.ensures ∙ c.cost_of.ensures)

pub signs_after-pending-requires : goal.signs_after-pending-requires
signs_after-pending-requires c = (
  c.loop-i.invariant.«open».holds.packed,
  c.requires.0,
  proper_read c.requires.1.proper _ c.loop-i.invariant.«open».from c.loop-i-test.true _ refl,
)

pub loop-i-preserved : goal.loop-i-preserved
loop-i-preserved c =
    written_next _ _ _ _ _ (twelve_signs_of _ c.requires.0) c.requires.1 _ _ _ _ c.loop-i.invariant c.loop-i-test.true _ refl _ (c.from.ensures ∙ c.cost_of.ensures)
    _ _ c.add-count.ensures _ c.signs_after-pending.ensures

pub returns : goal.returns
returns c =
    written_end _ _ _ _ _ (twelve_signs_of _ c.requires.0) c.requires.1 _ _ _ _ c.loop-i.invariant (omega arith)

pub shape_of-t : goal.shape_of-t
shape_of-t c = c.loop-i.invariant.left.long
