-- Inner: the words that a reader has still to read, and when it is no further than their end.
use Rattle.std.specs.Prelude.{ℕ, ◌+◌, ◌≤◌, ◌≡◌, List, length, drop, Option, MatchOption}
use Rattle.std.specs.Iterator.{YieldsFirst}
use Rattle.reader.specs.declared.Reader.{Reader}

-- those from its index on, none where it is past the end
abbrev pub words_left : Reader → List ℕ
words_left r = drop r.at r.words.now

-- no further than the end of its words
abbrev pub Within : Reader → Type 0
Within r = r.at ≤ length r.words.now

-- a call gave the first word that was left and moved the reader on by one, or gave `None` where none was left, and left it as it was
abbrev pub GivesWord : Reader → Option ℕ → Reader → Type 0
GivesWord old word new =
    YieldsFirst words_left old word new
    × MatchOption word (new ≡ old) (λ _. (new.words ≡ old.words) × (new.at ≡ old.at + 1))
