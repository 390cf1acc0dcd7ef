-- `convert_table` meets its contract: it lends the words that it read, and so many zeros as were asked for.
use native.Mathlib.Omega.{arith}
use mathlib.Core.Path.{sym}
use lib.Seq.{length-take-le}
use Rattle.converter.proofs.Answering.{zeros_long, table_put}
use Rattle.converter.proofs.convert_table.Goals as goal

pub slice_bounds-put_converted-end : goal.slice_bounds-put_converted-end
slice_bounds-put_converted-end c =
    let w = c.read_words-n in
    sym (length-take-le _ _ (omega (arith, w.ensures.1, w.auto.words)))

pub slice_bounds-put_converted-end-2 : goal.slice_bounds-put_converted-end-2
slice_bounds-put_converted-end-2 c = zeros_long _ 24590 c.requires.1

pub put_converted-requires : goal.put_converted-requires
put_converted-requires c = (omega (arith, c.requires.2), omega (arith, zeros_long _ 24590 c.requires.1, c.requires.2))

pub returns : goal.returns
returns c = table_put _ _ 24590 c.args.bytes.now _ _ _ c.requires.1 c.read_words-n.ensures.0 c.put_converted.ensures
