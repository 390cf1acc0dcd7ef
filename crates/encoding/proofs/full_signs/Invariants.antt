-- `full_signs` fills the signs one after another.
use Rattle.fields.specs.Padding.{padded}
use Rattle.encoding.proofs.Filling.{Filled}
use Rattle.encoding.proofs.full_signs.Given as goal

abbrev pub invariant-loop-i : goal.invariant-loop-i
invariant-loop-i l = Filled (padded l.sizes) l.fulls l.i
