-- Words written as little-endian bytes: how many bytes there are, that reading gives the words back, and the bytes stored word by word.
use Prim.Native.Nat.{ℕ, suc, ◌+◌, ◌*◌, ◌/◌, ◌%◌, ◌≤◌, ◌<◌, ◌-◌}
use native.Mathlib.Nat.{zero-add}
use native.Mathlib.Numerals.{add-one}
use native.Mathlib.Omega.{arith}
use mathlib.Core.Path.{◌≡◌, refl, ◌∙◌}
use mathlib.Core.List.{List, [], ◌∷◌, ◌++◌}
use Rattle.std.proofs.Common.{append_assoc, take}
use lib.ListN.{length, get_or, drop, drop_of_length-le}
use lib.Seq.{sets, sets-eq, drop-cons, drop-drop}
use borrow.Rule.Slice.PartMut.{put_mid}
use Rattle.fields.specs.Entries.{nil_each, cons_each}
use Rattle.littleendian.specs.Words.{words_in, bytes_of}
use Rattle.littleendian.specs.Theorems.{WrittenReadsBack, ReadWritesBack, WritesBytes}

-- four bytes for a word
pub length_bytes : (ws : List ℕ) → length (bytes_of ws) ≡ 4 * length ws
unfolding bytes_of
length_bytes [] = refl
length_bytes (w ∷ ws) = let e = length_bytes ws in omega (arith, e)

-- a word for four bytes
pub length_words : (bytes : List ℕ) → length (words_in bytes) ≡ length bytes / 4
unfolding words_in
length_words [] = refl
length_words (a ∷ []) = refl
length_words (a ∷ (b ∷ [])) = refl
length_words (a ∷ (b ∷ (c ∷ []))) = refl
length_words (a ∷ (b ∷ (c ∷ (d ∷ rest)))) = let e = length_words rest in omega (arith, e)

-- ---- there and back

-- a word is what its bytes make
pub one_back : (w : ℕ) → w % 256 + 256 * (w / 256 % 256) + 65536 * (w / 65536 % 256) + 16777216 * (w / 16777216) ≡ w
one_back w = omega arith

pub written_reads_back : WrittenReadsBack
unfolding words_in bytes_of
written_reads_back [] = refl
written_reads_back (w ∷ ws) = rw (one_back w, written_reads_back ws)

-- the bytes of the word that four bytes make
module _ (a b c d : ℕ) (ha : a < 256) (hb : b < 256) (hc : c < 256) where
  abbrev word : ℕ
  word = a + 256 * b + 65536 * c + 16777216 * d

  byte_one : word % 256 ≡ a
  byte_one = omega arith

  byte_two : word / 256 % 256 ≡ b
  byte_two = omega arith

  byte_three : word / 65536 % 256 ≡ c
  byte_three = omega arith

  byte_four : word / 16777216 ≡ d
  byte_four = omega arith

pub read_writes_back : ReadWritesBack
unfolding words_in bytes_of
read_writes_back [] bs h = refl
read_writes_back (a ∷ []) bs h = absurd (omega arith)
read_writes_back (a ∷ (b ∷ [])) bs h = absurd (omega arith)
read_writes_back (a ∷ (b ∷ (c ∷ []))) bs h = absurd (omega arith)
read_writes_back (a ∷ (b ∷ (c ∷ (d ∷ rest)))) (cons_each e (cons_each f (cons_each g (cons_each i bs)))) h =
    rw (byte_one a b c d e f g, byte_two a b c d e f g, byte_three a b c d e f g, byte_four a b c d e f g, read_writes_back rest bs (omega arith))

pub writes_bytes : WritesBytes
unfolding bytes_of
writes_bytes [] nil_each = nil_each
writes_bytes (w ∷ ws) (cons_each h hs) =
    let one : w % 256 < 256 = omega arith in
    let two : w / 256 % 256 < 256 = omega arith in
    let three : w / 65536 % 256 < 256 = omega arith in
    let four : w / 16777216 < 256 = omega arith in
    cons_each one (cons_each two (cons_each three (cons_each four (writes_bytes ws hs))))

-- ---- stored word by word: what is stored and what is left to store make the whole

-- bytes put in their place
stored_as : (bytes put : List ℕ) (at : ℕ) → at + length put ≤ length bytes → put_mid at (length put) bytes put ≡ sets bytes at put
stored_as bytes put at room = rw (sets-eq put bytes at room, ← drop-drop (length put) at bytes, append_assoc (take at bytes) put (drop (length put) (drop at bytes))) refl

-- the four bytes of a word
pub word_stored_as : (bytes four : List ℕ) (at w : ℕ) → w < 4294967296 → at + 4 ≤ length bytes
    → four ≡ w % 256 ∷ (w / 256 % 256 ∷ (w / 65536 % 256 ∷ (w / 16777216 % 256 ∷ [])))
    → put_mid at (at + 4 - at) bytes four ≡ sets bytes at (bytes_of (w ∷ []))
unfolding bytes_of
word_stored_as bytes four at w small room e =
    let high : w / 16777216 % 256 ≡ w / 16777216 = omega arith in
    let all : at + 4 - at ≡ 4 = omega arith in
    let stored = stored_as bytes (w % 256 ∷ (w / 256 % 256 ∷ (w / 65536 % 256 ∷ (w / 16777216 ∷ [])))) at room in
    rw (e, high, all) stored

module _ (words bytes₀ bytes : List ℕ) (i : ℕ) (inv : sets bytes (4 * i) (bytes_of (drop i words)) ≡ sets bytes₀ 0 (bytes_of words)) where
  -- one more word stored
  pub word_written : (after : List ℕ) → i < length words → after ≡ sets bytes (4 * i) (bytes_of (get_or words i 0 ∷ []))
      → sets after (4 * (i + 1)) (bytes_of (drop (i + 1) words)) ≡ sets bytes₀ 0 (bytes_of words)
  unfolding bytes_of
  word_written after h e =
      let next : 4 * (i + 1) ≡ suc (suc (suc (suc (4 * i)))) = omega arith in
      rw (next, e, add-one i) (rw (drop-cons words i 0 h) at inv)

  -- all words stored
  pub words_written : length words ≤ i → 4 * length words ≤ length bytes₀ → bytes ≡ bytes_of words ++ drop (4 * length words) bytes₀
  unfolding bytes_of
  words_written h room =
      let n = length_bytes words in
      rw (drop_of_length-le words {i = i} h) at inv ∙ sets-eq (bytes_of words) bytes₀ 0 (omega (arith, n)) ∙ rw (n, zero-add)
