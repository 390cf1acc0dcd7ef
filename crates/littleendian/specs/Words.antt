-- Bytes as little-endian words, four bytes each.
use Rattle.std.specs.Prelude.{ℕ, ◌+◌, ◌*◌, ◌/◌, ◌%◌, List, [], ◌∷◌, get_or}

unfoldable pub words_in : List ℕ → List ℕ
words_in [] = []
words_in (a ∷ []) = []
words_in (a ∷ (b ∷ [])) = []
words_in (a ∷ (b ∷ (c ∷ []))) = []
words_in (a ∷ (b ∷ (c ∷ (d ∷ rest)))) = (a + 256 * b + 65536 * c + 16777216 * d) ∷ words_in rest

-- the word whose first byte stands at this index
abbrev pub word_at : List ℕ → ℕ → ℕ
word_at bytes at =
    get_or bytes at 0 + 256 * get_or bytes (at + 1) 0 + 65536 * get_or bytes (at + 2) 0 + 16777216 * get_or bytes (at + 3) 0

-- the four bytes of each word, the lowest first; the highest is a byte since a word is below 2^32
unfoldable pub bytes_of : List ℕ → List ℕ
bytes_of [] = []
bytes_of (w ∷ ws) = w % 256 ∷ w / 256 % 256 ∷ w / 65536 % 256 ∷ w / 16777216 ∷ bytes_of ws
