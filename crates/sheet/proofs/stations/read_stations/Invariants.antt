-- So many stations are read, of these sizes, the words behind them are left, and the reader stays within its words.
use Rattle.reader.specs.Left.{words_left, Within}
use Rattle.sheet.proofs.Located.{StationsSoFar}
use Rattle.sheet.proofs.stations.read_stations.Given as goal

abbrev pub invariant-loop : goal.invariant-loop
invariant-loop l = StationsSoFar (words_left l.initial.reader) (words_left l.reader) l.n l.counter l.sizes.items × (Within l.initial.reader → Within l.reader)
