-- The form of six-word rows keeps the laws of a form, and so its raw rows have those of flat rows.
use Prim.Native.Nat.{ℕ, ◌+◌, ◌*◌, ◌≤◌, ◌<◌}
use native.Mathlib.Nat.{add_assoc, add-zero}
use native.Mathlib.Omega.{arith}
use mathlib.Core.Path.{◌≡◌, refl, ap, ◌∙◌}
use mathlib.Core.List.{List, [], ◌∷◌}
use lib.ListN.{length, get_or, take, drop}
use lib.Seq.{get_or-drop}
use Rattle.rows.specs.Raw.{row_width, no_raw, raw_words, raw_at, row_form, raws_from, raws_in}
use Rattle.rows.proofs.FormRows.{FormLaws}
use Rattle.rows.proofs.FormRows as forms

-- ---- what the form owes

-- a row read behind the front
pub raw_at-drop : (ws : List ℕ) (n i : ℕ) → raw_at (drop n ws) i ≡ raw_at ws (n + i)
unfolding raw_at
raw_at-drop ws n i = simp (get_or-drop, add_assoc)

-- a row read at the front of what starts at its place
pub raw_at-front : (ws : List ℕ) (at : ℕ) → raw_at (drop at ws) 0 ≡ raw_at ws at
raw_at-front ws at = raw_at-drop ws at 0 ∙ ap (raw_at ws) (add-zero at)

-- the words in front are those of the row read there
words_read : (ws : List ℕ) → row_width ≤ length ws → raw_words (raw_at ws 0) ≡ take row_width ws
unfolding raw_at
words_read [] h = absurd (omega arith)
words_read (a ∷ []) h = absurd (omega arith)
words_read (a ∷ b ∷ []) h = absurd (omega arith)
words_read (a ∷ b ∷ c ∷ []) h = absurd (omega arith)
words_read (a ∷ b ∷ c ∷ d ∷ []) h = absurd (omega arith)
words_read (a ∷ b ∷ c ∷ d ∷ low ∷ []) h = absurd (omega arith)
words_read (a ∷ b ∷ c ∷ d ∷ low ∷ high ∷ ws) h = refl

pub row_laws : FormLaws row_form
unfolding raw_at
row_laws = record { length_words = λ r. refl; read_words = λ r ws. refl; words_read = words_read; read_drop = raw_at-drop }

-- ---- so its raw rows

pub length-raws_from : (k : ℕ) (ws : List ℕ) → length (raws_from k ws) ≡ k
length-raws_from k ws = forms.length-raws_from row_form k ws

-- row k of a table
pub raw_at_lem : (t : List ℕ) (base count k : ℕ) → k < count → get_or (raws_in t base count) k no_raw ≡ raw_at t (base + row_width * k)
raw_at_lem t base count k h = forms.raw_at row_form row_laws t base count k no_raw h
