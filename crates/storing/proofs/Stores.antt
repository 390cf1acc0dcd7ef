-- Words stored one by one: a row's words copied or cleared are one written part, and so are the sign words and the weight of a row.
use Prim.Native.Nat.{ℕ, suc, ◌+◌, ◌*◌, ◌/◌, ◌%◌, ◌≤◌, ◌<◌}
use native.Mathlib.Nat.{add-suc}
use native.Mathlib.Numerals.{add-one, add-two, add-three, add-four}
use native.Mathlib.Omega.{arith}
use mathlib.Core.Path.{◌≡◌, sym, ap, ◌∙◌}
use mathlib.Core.List.{List, [], ◌∷◌, ◌++◌, append_assoc}
use lib.ListN.{length, get_or, take, drop, set, replicate, get_or-replicate, length-drop}
use lib.Seq.{sets-eq, set-get_or, get_or-drop, get_or-take, paste, paste-suc, drop-drop, drop-paste, take_all, length-take-le}
use Rattle.clause.specs.declared.Clause.{Clause}
use Rattle.words.specs.Layout.{signs_word, weight_word, high_word}
use Rattle.rows.specs.Raw.{row_width, high_unit, raw_words, raw_at, raws_in, row_form, Laid, Left, weighing, raw_row, sign_words_in, reweighed}
use Rattle.rows.proofs.Flat.{row_laws, length-raws_from, raw_at_lem}
use Rattle.storing.proofs.FormTables.{row_replaced}

-- ---- words copied one after another to place at: n of them, from s

module _ (t : List ℕ) (at n : ℕ) (s : List ℕ) (long : length s ≡ n) (fits : at + n ≤ length t) where
  pub copy_next : (t' : List ℕ) (i v : ℕ) → t' ≡ paste t at s i → i < n → v ≡ get_or s i 0 → set t' (at + i) v ≡ paste t at s (i + 1)
  copy_next t' i v inv h e = rw (inv, e, add-one i) (paste-suc t at s i 0 (omega arith) (omega arith))

  pub copy_end : (t' : List ℕ) (i : ℕ) → t' ≡ paste t at s i → i ≡ n → t' ≡ take at t ++ (s ++ drop (at + n) t)
  copy_end t' i inv e =
      let all : length s ≤ n = omega arith in
      inv ∙ rw (e, take_all n s all) (append_assoc (take at t) s (drop (at + n) t))

-- what is read behind the part written so far is what stood there
pub copy_read : (t : List ℕ) (at n i : ℕ) (s t' : List ℕ) → t' ≡ paste t at s i → at ≤ length t → i ≤ length s
    → get_or t' (at + n + i) 0 ≡ get_or t (at + n + i) 0
copy_read t at n i s t' inv h k =
    let place : at + n + i ≡ at + i + n = omega arith in
    rw (inv, place, ← get_or-drop (at + i) (paste t at s i) n 0, drop-paste t at s i h k) (get_or-drop (at + i) t n 0)

-- the words behind, and the zeros
pub behind_long : (t : List ℕ) (at n : ℕ) → at + n ≤ length t → length (take n (drop at t)) ≡ n
behind_long t at n h = let l : n ≤ length (drop at t) = simp length-drop (omega arith) in length-take-le n (drop at t) l

pub behind_at : (t : List ℕ) (at n i : ℕ) → i < n → get_or t (at + i) 0 ≡ get_or (take n (drop at t)) i 0
behind_at t at n i h = sym (get_or-take n (drop at t) i 0 h ∙ get_or-drop at t i 0)

pub zero-at : (n i : ℕ) → i < n → ◌≡◌ {A = ℕ} 0 (get_or (replicate n 0) i 0)
zero-at n i h = sym (get_or-replicate n i 0 0 h)

-- ---- the weight behind the sign words

add_five : (n : ℕ) → n + 5 ≡ suc (suc (suc (suc (suc n))))
add_five n = add-suc n 4 ∙ ap suc (add-four n)

six_stored : (t : List ℕ) (at v₀ v₁ v₂ v₃ v₄ v₅ : ℕ) → at + 6 ≤ length t
    → set (set (set (set (set (set t at v₀) (at + 1) v₁) (at + 2) v₂) (at + 3) v₃) (at + 4) v₄) (at + 5) v₅
    ≡ take at t ++ ((v₀ ∷ v₁ ∷ v₂ ∷ v₃ ∷ v₄ ∷ v₅ ∷ []) ++ drop (at + 6) t)
six_stored t at v₀ v₁ v₂ v₃ v₄ v₅ h =
    rw (add-one at, add-two at, add-three at, add-four at, add_five at)
    (sets-eq (v₀ ∷ v₁ ∷ v₂ ∷ v₃ ∷ v₄ ∷ v₅ ∷ []) t at h ∙ append_assoc (take at t) (v₀ ∷ v₁ ∷ v₂ ∷ v₃ ∷ v₄ ∷ v₅ ∷ []) (drop (at + 6) t))

-- the sign words stay
pub weight_stored : (t : List ℕ) (at weight v u : ℕ) → at + row_width ≤ length t → v ≡ weight_word (weight % high_unit) → u ≡ high_word (weight / high_unit)
    → set (set t (at + 4) v) (at + 5) u ≡ take at t ++ (raw_words (weighing (raw_at t at) weight) ++ drop (at + row_width) t)
unfolding raw_at
weight_stored t at weight v u h e f =
    rw (e, f)
    (rw (set-get_or t at 0, set-get_or t (at + 1) 0, set-get_or t (at + 2) 0, set-get_or t (at + 3) 0) at
    (six_stored t at (get_or t at 0) (get_or t (at + 1) 0) (get_or t (at + 2) 0) (get_or t (at + 3) 0) (weight_word (weight % high_unit)) (high_word (weight / high_unit)) h))

pub row_reweighed : (t t' : List ℕ) (base count k weight : ℕ) → Laid t base (raws_in t base count) → k < count
    → t' ≡ take (base + row_width * k) t ++ (raw_words (weighing (raw_at t (base + row_width * k)) weight) ++ drop (base + row_width * k + row_width) t)
    → Left t base t' (reweighed (raws_in t base count) k weight)
unfolding reweighed
row_reweighed t t' base count k weight l h e =
    let n = length-raws_from count (drop base t) in
    row_replaced row_form row_laws t t' base (raws_in t base count) k _ l (omega arith)
    (rw (raw_at_lem t base count k h) e)

-- ---- a row at the front of a part

pub signs_stored : (p : List ℕ) (x : Clause) (v₀ v₁ v₂ v₃ : ℕ) → 4 ≤ length p
    → v₀ ≡ signs_word 0 x.a → v₁ ≡ signs_word 1 x.b → v₂ ≡ signs_word 2 x.c → v₃ ≡ signs_word 3 x.d
    → set (set (set (set p 0 v₀) 1 v₁) 2 v₂) 3 v₃ ≡ sign_words_in (raw_row x 0) ++ drop 4 p
signs_stored [] x v₀ v₁ v₂ v₃ h e₀ e₁ e₂ e₃ = absurd (omega arith)
signs_stored (a ∷ []) x v₀ v₁ v₂ v₃ h e₀ e₁ e₂ e₃ = absurd (omega arith)
signs_stored (a ∷ b ∷ []) x v₀ v₁ v₂ v₃ h e₀ e₁ e₂ e₃ = absurd (omega arith)
signs_stored (a ∷ b ∷ c ∷ []) x v₀ v₁ v₂ v₃ h e₀ e₁ e₂ e₃ = absurd (omega arith)
signs_stored (a ∷ b ∷ c ∷ d ∷ p) x v₀ v₁ v₂ v₃ h e₀ e₁ e₂ e₃ = λ i. e₀ i ∷ e₁ i ∷ e₂ i ∷ e₃ i ∷ p

-- the weight written behind the sign words
pub row_stored : (p q p' : List ℕ) (x : Clause) (weight : ℕ) → q ≡ sign_words_in (raw_row x 0) ++ drop 4 p
    → p' ≡ take 0 q ++ (raw_words (weighing (raw_at q 0) weight) ++ drop (0 + row_width) q)
    → p' ≡ raw_words (raw_row x weight) ++ drop row_width p
unfolding raw_at
row_stored p q p' x weight s e =
    e
    ∙ ap (λ t. raw_words (weighing (raw_at t 0) weight) ++ drop row_width t) s
    ∙ ap (λ t. raw_words (raw_row x weight) ++ t) (drop-drop 2 4 p)
