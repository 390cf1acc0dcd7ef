-- `read_sizes`: what is left to read, and what it comes to together with what was read, is that of the whole; and the reader stays within its words.
use Rattle.std.proofs.Common.{◌≡◌, ◌-◌, [], ◌++◌, map, length, take, drop}
use Rattle.words.specs.Layout.{payload_of}
use Rattle.fields.specs.Front.{good_sizes}
use Rattle.reader.specs.Left.{words_left, Within}
use Rattle.input.specs.Instance.{stations_fault}
use Rattle.input.proofs.front.read_sizes.Given as goal

abbrev pub invariant-loop : goal.invariant-loop
invariant-loop l =
    (length l.sizes.items ≡ l.counter)
    × (words_left l.reader ≡ drop l.counter (words_left l.initial.reader))
    × (stations_fault (l.n - l.counter) l.sizes.items (words_left l.reader) ≡ stations_fault l.n [] (words_left l.initial.reader))
    × (l.sizes.items ++ map payload_of (take (l.n - l.counter) (words_left l.reader)) ≡ map payload_of (take l.n (words_left l.initial.reader)))
    × (good_sizes (l.n - l.counter) (words_left l.reader) ≡ good_sizes l.n (words_left l.initial.reader))
    × (Within l.initial.reader → Within l.reader)
