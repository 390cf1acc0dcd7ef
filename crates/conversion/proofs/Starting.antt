-- A target started: the first words of the source copied in front of zeros, and the row count 0 behind them. From a table's words that is the table
-- of the same sizes without rows, in any form.
use Prim.Native.Nat.{ℕ, suc, ◌+◌, ◌-◌, ◌*◌, ◌<◌}
use native.Mathlib.Nat.{mul-zero}
use native.Mathlib.Numerals.{add-one}
use native.Mathlib.Omega.{arith}
use mathlib.Core.Path.{◌≡◌, sym, ap, ap₂, ◌∙◌}
use mathlib.Core.List.{List, [], ◌∷◌, ◌++◌, append_assoc}
use lib.ListN.{length, get_or, take, drop, set, replicate, length-map}
use lib.Seq.{length-take-le, take_at, drop-cons, take-suc, set_at}
use Rattle.wcsp.specs.Row.{Row}
use Rattle.words.specs.Layout.{size_word, count_word}
use Rattle.fields.specs.Front.{front_words}
use Rattle.rows.specs.Form.{flat_in}
use Rattle.table.specs.Form.{TableForm}
use Rattle.table.specs.Layout.{rows_at, table_words_in}

-- ---- the words copied one after another

pub copied_next : (source t₀ t : List ℕ) (i : ℕ) → t ≡ take i source ++ drop i t₀ → i < length source → i < length t₀
    → set t i (get_or source i 0) ≡ take (i + 1) source ++ drop (i + 1) t₀
copied_next source t₀ t i inv h l =
    let front : length (take i source) ≡ i = length-take-le i source (omega arith) in
    ap (λ ws. set ws i (get_or source i 0)) (inv ∙ ap (λ ws. take i source ++ ws) (drop-cons t₀ i 0 l))
    ∙ set_at (take i source) (get_or t₀ i 0) (drop (suc i) t₀) (get_or source i 0) i front
    ∙ sym (rw (add-one i, take-suc source i 0 h) (append_assoc (take i source) (get_or source i 0 ∷ []) (drop (suc i) t₀)))

-- ---- the table of no rows

front_taken : (f : TableForm) (t : List ℕ) (len : ℕ) (ds : List ℕ) (rs : List Row) → t ≡ table_words_in f len ds rs → take (length ds + 1) t ≡ front_words ds
unfolding table_words_in
front_taken f t len ds rs e =
    let m = length-map ds size_word in
    let long : length (front_words ds) ≡ length ds + 1 = omega arith in
    ap (take (length ds + 1)) e ∙ take_at (front_words ds) _ (length ds + 1) long

pub none-started : (f g : TableForm) (source : List ℕ) (len : ℕ) (ds : List ℕ) (rs : List Row) → source ≡ table_words_in f (length source) ds rs
    → (t : List ℕ) → t ≡ take (length ds + 1) source ++ (count_word 0 ∷ replicate (len - (length ds + 2)) 0) → t ≡ table_words_in g len ds []
unfolding table_words_in flat_in
none-started f g source len ds rs e t s =
    let none = mul-zero g.rows.width in
    let z : len - (length ds + 2) ≡ len - (rows_at (length ds) + g.rows.width * 0) = omega arith in
    s ∙ ap₂ (λ ws k. ws ++ (count_word 0 ∷ replicate k 0)) (front_taken f source (length source) ds rs e) z
