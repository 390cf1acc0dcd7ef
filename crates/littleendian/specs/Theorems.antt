-- Reading and writing undo each other.
use Rattle.std.specs.Prelude.{ℕ, ◌%◌, ◌<◌, ◌≡◌, List, length}
use Rattle.fields.specs.Entries.{Each}
use Rattle.littleendian.specs.Words.{words_in, bytes_of}

-- the words that were written are read
abbrev pub WrittenReadsBack : Type 0
WrittenReadsBack = (ws : List ℕ) → words_in (bytes_of ws) ≡ ws

-- the bytes that were read are written, where they are whole words
abbrev pub ReadWritesBack : Type 0
ReadWritesBack = (bytes : List ℕ) → Each (λ b. b < 256) bytes → length bytes % 4 ≡ 0 → bytes_of (words_in bytes) ≡ bytes

-- every word of 32 bits is written as four bytes
abbrev pub WritesBytes : Type 0
WritesBytes = (ws : List ℕ) → Each (λ w. w < 4294967296) ws → Each (λ b. b < 256) (bytes_of ws)
