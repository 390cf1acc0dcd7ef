-- Inner: last year's form keeps the laws of a form of tables: rows and raw rows of five words give each other, and a row's words pass the tests exactly if they are made from it.
use Prim.Native.Nat.{ℕ, ◌+◌, ◌<◌, ◌≤◌}
use native.Mathlib.Nat.{add_assoc}
use native.Mathlib.Omega.{arith}
use mathlib.Core.Path.{◌≡◌, refl, ap}
use mathlib.Core.Bool.{true, not}
use mathlib.Core.List.{List, [], ◌∷◌, ◌++◌}
use lib.ListN.{length, get_or, take, drop}
use lib.Seq.{get_or-drop}
use lib.Dec.{eqb}
use borrow.Author.Tests.{eqb-true, eqb-false, eq-eqb, ne_eqb, not-true}
use Rattle.wcsp.specs.Row.{Row}
use Rattle.wcsp.proofs.Lists.{and_left, and_right}
use Rattle.words.specs.Layout.{kind_of, payload_of, weight_word}
use Rattle.clause.specs.Packed.{signs_of}
use Rattle.rows.specs.Raw.{Raw, raw_at, sign_words, raw_row, clause_in}
use Rattle.rows.proofs.FormRows.{FormLaws}
use Rattle.table.specs.Valid.{sign_kinds}
use Rattle.table.specs.Carried.{CarriedIn}
use Rattle.table.specs.SignWords.{twelve_said, signs_said, words_made, words_pass, clause_wide}
use Rattle.table.specs.TableLaws.{TableLaws}
use Rattle.table.specs.SignLaws.{SignLaws}
use Rattle.table.specs.Five.{five_width, five_max_weight, FiveRaw, five_words, five_at, five_rows, is_five_weight, five_weighs, five_row_of, five_raw_of, five_form}

-- ---- the form of the rows

-- a row read behind the front
five_drop : (ws : List ℕ) (n i : ℕ) → five_at (drop n ws) i ≡ five_at ws (n + i)
unfolding five_at
five_drop ws n i = simp (get_or-drop, add_assoc)

-- the words in front are those of the row read there
words_read : (ws : List ℕ) → five_width ≤ length ws → five_words (five_at ws 0) ≡ take five_width ws
unfolding five_at
words_read [] h = absurd (omega arith)
words_read (a ∷ []) h = absurd (omega arith)
words_read (a ∷ b ∷ []) h = absurd (omega arith)
words_read (a ∷ b ∷ c ∷ []) h = absurd (omega arith)
words_read (a ∷ b ∷ c ∷ d ∷ []) h = absurd (omega arith)
words_read (a ∷ b ∷ c ∷ d ∷ weight ∷ ws) h = refl

pub five_row_laws : FormLaws five_rows
unfolding five_at
five_row_laws = record { length_words = λ r. refl; read_words = λ r ws. refl; words_read = words_read; read_drop = five_drop }

-- ---- what a raw row says, and the raw row that says it

-- a raw row with the sign words of another and this weight
abbrev weighed : Raw → ℕ → FiveRaw
weighed r w = record { a = r.a; b = r.b; c = r.c; d = r.d; weight = weight_word w }

-- the weight of one word
pub word_weight : (r : FiveRaw) → (five_row_of r).weight ≤ 268435455
unfolding five_row_of
word_weight r = omega arith

carries : ((r : FiveRaw) → (five_row_of r).weight ≤ five_max_weight) → (r : FiveRaw) → CarriedIn five_max_weight (five_row_of r)
unfolding five_row_of
carries light r = record { twelve = twelve_said (sign_words r.a r.b r.c r.d); light = light r }

says : (r : Row) → CarriedIn five_max_weight r → five_row_of (five_raw_of r) ≡ r
unfolding five_row_of
says r h =
    let light = h.light in
    let e = signs_said r.signs 0 h.twelve in
    let f : payload_of (weight_word r.weight) ≡ r.weight = omega arith in
    λ i. record { signs = e i; weight = f i }

-- the signs are those of the sign words at its place
signs_read : (t : List ℕ) (at : ℕ) → (five_row_of (five_at t at)).signs ≡ signs_of (clause_in (raw_at t at))
unfolding five_row_of five_at raw_at
signs_read t at = refl

-- ---- its words

word_made : (w : ℕ) → is_five_weight w ≡ true → (w ≡ weight_word (payload_of w)) × (0 < payload_of w)
word_made w e =
    let k = eqb-true (kind_of w) 6 (and_left (eqb (kind_of w) 6) (not (eqb (payload_of w) 0)) e) in
    let n = eqb-false (payload_of w) 0 (not-true (eqb (payload_of w) 0) (and_right (eqb (kind_of w) 6) (not (eqb (payload_of w) 0)) e)) in
    (omega arith, omega arith)

-- words of the right kinds are those of the raw row that is made from what they say
made : (ws : List ℕ) → sign_kinds ws ≡ true → five_weighs ws ≡ true → five_at ws 0 ≡ five_raw_of (five_row_of (five_at ws 0))
unfolding five_weighs five_at five_row_of raw_at
made ws e w =
    let m = (word_made (get_or ws 4 0) w).0 in
    let s = words_made ws 0 e in
    λ i. record { a = (s i).a; b = (s i).b; c = (s i).c; d = (s i).d; weight = m i }

positive : (ws : List ℕ) → five_weighs ws ≡ true → 0 < (five_row_of (five_at ws 0)).weight
unfolding five_weighs five_at five_row_of
positive ws w = (word_made (get_or ws 4 0) w).1

signs_pass : (r : Row) (ws : List ℕ) → CarriedIn five_max_weight r → sign_kinds (five_words (five_raw_of r) ++ ws) ≡ true
signs_pass r ws h = words_pass r.signs _ h.twelve

weight_passes : (r : Row) (ws : List ℕ) → CarriedIn five_max_weight r → 0 < r.weight → five_weighs (five_words (five_raw_of r) ++ ws) ≡ true
unfolding five_weighs
weight_passes r ws h p =
    let light = h.light in
    let w = weight_word r.weight in
    let k : kind_of w ≡ 6 = omega arith in
    let n : payload_of w ≡ 0 → ⊥ = λ e. omega arith in
    rw (eq-eqb (kind_of w) 6 k, ne_eqb (payload_of w) 0 n)

-- with the limit that such a word keeps: `RowForm` for `Five` and proofs/FiveLaws give it
pub laws_by : ((r : FiveRaw) → (five_row_of r).weight ≤ five_max_weight) → TableLaws five_form
laws_by light =
    record {
      form = five_row_laws;
      carries = carries light;
      says = says;
      made = made;
      positive = positive;
      widens = λ k r. ap (λ x. weighed (raw_row x 0) r.weight) (clause_wide k r.signs);
      signs_pass = signs_pass;
      weight_passes = weight_passes;
    }

pub five_signs : SignLaws five_form
five_signs = record { wide = omega arith; signs = signs_read }
