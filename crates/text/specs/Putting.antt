-- Inner: bytes put into a buffer behind those that it holds.
use Rattle.std.specs.Prelude.{ℕ, ◌+◌, ◌≡◌, List, ◌++◌, length, take}

-- the buffer holds what it held up to an index, and these bytes behind it; the answer is the index behind them
abbrev pub Put : List ℕ → ℕ → List ℕ → List ℕ → ℕ → Type 0
Put buffer at bytes after end = (take end after ≡ take at buffer ++ bytes) × (end ≡ at + length bytes) × (length after ≡ length buffer)
