use Rattle.std.proofs.Common.{◌≡◌, ◌+◌, [], length}
use Rattle.fields.specs.Entries.{entries_from}
use Rattle.reader.specs.Left.{words_left}
use Rattle.entries.specs.Entries.{entries_fault}
use Rattle.entries.proofs.scan_entries.Given as goal

abbrev pub invariant-loop-word : goal.invariant-loop-word
invariant-loop-word l =
    (goal.iterator-loop-word).can_next l.word-iterator
    × (goal.iterator-loop-word).is_finite l.word-iterator
    × (entries_fault l.sizes l.state.from l.state.count (words_left l.word-iterator) ≡ entries_fault l.sizes 0 l.before (words_left l.initial.word-iterator))
    × (l.state.count + length (entries_from [] (words_left l.word-iterator)) ≡ l.before + length (entries_from [] (words_left l.initial.word-iterator)))
