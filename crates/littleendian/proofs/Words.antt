-- Bytes read as little-endian words: one word and what is behind it, and the end.
use Prim.Native.Nat.{ℕ, suc, ◌+◌, ◌*◌, ◌≤◌, ◌<◌}
use native.Mathlib.Numerals.{add-one}
use native.Mathlib.Omega.{arith}
use mathlib.Core.Path.{◌≡◌, refl, sym, ap, ◌∙◌}
use mathlib.Core.List.{List, [], ◌∷◌, ◌++◌, append-nil}
use lib.ListN.{length, set, take, drop, length-drop}
use lib.Seq.{drop-cons, drop-drop, drop-set-lt, take-suc-set, append_snoc}
use Rattle.fields.specs.Entries.{Each, nil_each, cons_each}
use Rattle.littleendian.specs.Words.{words_in, word_at}

-- fewer than four bytes are no word
no_word : (bytes : List ℕ) → length bytes < 4 → words_in bytes ≡ []
unfolding words_in
no_word [] h = refl
no_word (a ∷ []) h = refl
no_word (a ∷ (b ∷ [])) h = refl
no_word (a ∷ (b ∷ (c ∷ []))) h = refl
no_word (a ∷ (b ∷ (c ∷ (d ∷ rest)))) h = absurd (omega arith)

-- four bytes from an index on are a word
one_word : (bytes : List ℕ) (at : ℕ) → at + 4 ≤ length bytes → words_in (drop at bytes) ≡ word_at bytes at ∷ words_in (drop (at + 4) bytes)
unfolding words_in
one_word bytes at h =
    let one : at + 1 ≡ suc at = omega arith in
    let two : at + 2 ≡ suc (suc at) = omega arith in
    let three : at + 3 ≡ suc (suc (suc at)) = omega arith in
    let four : at + 4 ≡ suc (suc (suc (suc at))) = omega arith in
    rw (
      one,
      two,
      three,
      four,
      drop-cons bytes at 0 (omega arith),
      drop-cons bytes (suc at) 0 (omega arith),
      drop-cons bytes (suc (suc at)) 0 (omega arith),
      drop-cons bytes (suc (suc (suc at))) 0 (omega arith),
    )

module _ (bytes words : List ℕ) (i : ℕ) (inv : take i words ++ words_in (drop (4 * i) bytes) ≡ words_in bytes) where
  -- one more word stored
  pub word_stored : (w : ℕ) → w ≡ word_at bytes (4 * i) → 4 * i + 4 ≤ length bytes → i < length words
      → take (i + 1) (set words i w) ++ words_in (drop (4 * (i + 1)) bytes) ≡ words_in bytes
  word_stored w e h room =
      let next : 4 * i + 4 ≡ 4 * (i + 1) = omega arith in
      rw (← next, add-one i, take-suc-set words i w room, append_snoc (take i words) w (words_in (drop (4 * i + 4) bytes)), e, ← one_word bytes (4 * i) h) inv

  -- all words stored
  pub words_stored : length bytes < 4 * i + 4 → take i words ≡ words_in bytes
  words_stored h =
      let none : words_in (drop (4 * i) bytes) ≡ [] = no_word (drop (4 * i) bytes) (omega (arith, length-drop (4 * i) bytes)) in
      sym (append-nil (take i words)) ∙ rw none at inv

-- a stored word leaves those behind it
pub rest_kept : (words words₀ : List ℕ) (i w : ℕ) → drop i words ≡ drop i words₀ → drop (i + 1) (set words i w) ≡ drop (i + 1) words₀
rest_kept words words₀ i w e =
    drop-set-lt (i + 1) words i w (omega arith) ∙ sym (drop-drop 1 i words) ∙ ap (drop 1) e ∙ drop-drop 1 i words₀

-- four bytes are a word of 32 bits
pub word_of_four : (filled : List ℕ) → 4 ≤ length filled → Each (λ b. b < 256) (take 4 filled) → word_at filled 0 ≤ 4294967295
word_of_four [] h bs = absurd (omega (arith, h))
word_of_four (a ∷ []) h bs = absurd (omega (arith, h))
word_of_four (a ∷ (b ∷ [])) h bs = absurd (omega (arith, h))
word_of_four (a ∷ (b ∷ (c ∷ []))) h bs = absurd (omega (arith, h))
word_of_four (a ∷ (b ∷ (c ∷ (d ∷ rest)))) h (cons_each e (cons_each f (cons_each g (cons_each i nil_each)))) = omega (arith, e, f, g, i)
