-- The positions of the values passed are good, the words behind them are left, and the reader stays within its words.
use Rattle.reader.specs.Left.{words_left, Within}
use Rattle.sheet.proofs.OneStation.{PositionsSoFar}
use Rattle.sheet.proofs.stations.read_station.Given as goal

abbrev pub invariant-loop : goal.invariant-loop
invariant-loop l = PositionsSoFar (words_left l.initial.reader) (words_left l.reader) l.size l.counter × (Within l.initial.reader → Within l.reader)
