-- Raw rows of any form and their words: writing rows out and reading them back give each other, as many words to a row as the form has.
use Prim.Native.Nat.{ℕ, zero, suc, ◌+◌, ◌*◌, ◌≤◌, ◌<◌}
use native.Mathlib.Nat.{le_of_suc-le-suc, mul-zero}
use native.Mathlib.Omega.{arith}
use mathlib.Core.Path.{◌≡◌, refl, sym, ap, ap₂, ◌∙◌}
use mathlib.Core.List.{List, [], ◌∷◌, ◌++◌, append_assoc}
use lib.ListN.{length, get_or, take, drop, take-append-drop, length-append, length-drop}
use lib.Seq.{take-add, drop-drop, take-nil, drop-nil, take_at, drop_at}
use Rattle.rows.specs.Form.{Form, flat_in, raws_from_in}

-- what a form owes: as many words as its width, and a row written and read, or read and written, is the same
pub record FormLaws (f : Form) : Type 0 where
  pub length_words : (r : f.Raw) → length (f.words r) ≡ f.width
  pub read_words : (r : f.Raw) (ws : List ℕ) → f.read (f.words r ++ ws) 0 ≡ r
  pub words_read : (ws : List ℕ) → f.width ≤ length ws → f.words (f.read ws 0) ≡ take f.width ws
  pub read_drop : (ws : List ℕ) (n i : ℕ) → f.read (drop n ws) i ≡ f.read ws (n + i)

module _ (f : Form) where
  pub flat_append : (rs qs : List f.Raw) → flat_in f (rs ++ qs) ≡ flat_in f rs ++ flat_in f qs
  unfolding flat_in
  flat_append [] qs = refl
  flat_append (r ∷ rs) qs = ap (λ ws. f.words r ++ ws) (flat_append rs qs) ∙ sym (append_assoc (f.words r) (flat_in f rs) (flat_in f qs))

  -- the words of a row and of those behind it
  pub flat_cons : (r : f.Raw) (rs : List f.Raw) → flat_in f (r ∷ rs) ≡ f.words r ++ flat_in f rs
  unfolding flat_in
  flat_cons r rs = refl

  pub length-raws_from : (k : ℕ) (ws : List ℕ) → length (raws_from_in f k ws) ≡ k
  unfolding raws_from_in
  length-raws_from zero ws = refl
  length-raws_from (suc k) ws = ap suc (length-raws_from k (drop f.width ws))

module _ (f : Form) (law : FormLaws f) where
  pub length_flat : (rs : List f.Raw) → length (flat_in f rs) ≡ f.width * length rs
  unfolding flat_in
  length_flat [] = sym (mul-zero f.width)
  length_flat (r ∷ rs) = omega (arith, length-append (f.words r) (flat_in f rs), law.length_words r, length_flat rs)

  pub raws_from_flat : (rs : List f.Raw) (ws : List ℕ) → raws_from_in f (length rs) (flat_in f rs ++ ws) ≡ rs
  unfolding raws_from_in flat_in
  raws_from_flat [] ws = refl
  raws_from_flat (r ∷ rs) ws =
      rw (
        append_assoc (f.words r) (flat_in f rs) ws,
        law.read_words r (flat_in f rs ++ ws),
        drop_at (f.words r) (flat_in f rs ++ ws) f.width (law.length_words r),
      )
      (ap (λ qs. r ∷ qs) (raws_from_flat rs ws))

  pub flat_raws_from : (k : ℕ) (ws : List ℕ) → f.width * k ≤ length ws → flat_in f (raws_from_in f k ws) ≡ take (f.width * k) ws
  unfolding raws_from_in flat_in
  flat_raws_from zero ws h = rw (mul-zero f.width)
  flat_raws_from (suc k) ws h =
      let here : f.width ≤ length ws = omega arith in
      let fits : f.width * k ≤ length (drop f.width ws) = simp length-drop (omega arith) in
      let more : f.width + f.width * k ≡ f.width * suc k = omega arith in
      ap₂ ◌++◌ (law.words_read ws here) (flat_raws_from k (drop f.width ws) fits)
      ∙ sym (take-add f.width (f.width * k) ws)
      ∙ ap (λ n. take n ws) more

  -- words and the rows that are read from their front
  pub flat_split : (k : ℕ) (ws : List ℕ) → f.width * k ≤ length ws → ws ≡ flat_in f (raws_from_in f k ws) ++ drop (f.width * k) ws
  flat_split k ws h = rw (flat_raws_from k ws h) (sym (take-append-drop (f.width * k) ws))

  pub get_d_raws_from : (count k : ℕ) (ws : List ℕ) (none : f.Raw) → k < count → get_or (raws_from_in f count ws) k none ≡ f.read ws (f.width * k)
  unfolding raws_from_in
  get_d_raws_from zero k ws none h = absurd (omega arith)
  get_d_raws_from (suc count) zero ws none h = rw (mul-zero f.width)
  get_d_raws_from (suc count) (suc k) ws none h =
      let more : f.width + f.width * k ≡ f.width * suc k = omega arith in
      get_d_raws_from count k (drop f.width ws) none (le_of_suc-le-suc h)
      ∙ law.read_drop ws f.width (f.width * k)
      ∙ ap (f.read ws) more

  -- row k of a table
  pub raw_at : (t : List ℕ) (base count k : ℕ) (none : f.Raw) → k < count
      → get_or (raws_from_in f count (drop base t)) k none ≡ f.read t (base + f.width * k)
  raw_at t base count k none h = get_d_raws_from count k (drop base t) none h ∙ law.read_drop t base (f.width * k)

  -- whole rows at the front and behind
  pub take_flat : (k : ℕ) (rs : List f.Raw) → take (f.width * k) (flat_in f rs) ≡ flat_in f (take k rs)
  unfolding flat_in
  take_flat zero rs = rw (mul-zero f.width)
  take_flat (suc k) [] = take-nil (f.width * suc k)
  take_flat (suc k) (r ∷ rs) =
      let l = law.length_words r in
      let more : f.width * suc k ≡ f.width + f.width * k = omega arith in
      rw (
        more,
        take-add f.width (f.width * k) (f.words r ++ flat_in f rs),
        take_at (f.words r) (flat_in f rs) f.width l,
        drop_at (f.words r) (flat_in f rs) f.width l,
      )
      (ap (λ ws. f.words r ++ ws) (take_flat k rs))

  pub drop_flat : (k : ℕ) (rs : List f.Raw) → drop (f.width * k) (flat_in f rs) ≡ flat_in f (drop k rs)
  unfolding flat_in
  drop_flat zero rs = rw (mul-zero f.width)
  drop_flat (suc k) [] = drop-nil (f.width * suc k)
  drop_flat (suc k) (r ∷ rs) =
      let more : f.width * suc k ≡ f.width + f.width * k = omega arith in
      rw (
        more,
        ← drop-drop (f.width * k) f.width (f.words r ++ flat_in f rs),
        drop_at (f.words r) (flat_in f rs) f.width (law.length_words r),
      )
      (drop_flat k rs)
