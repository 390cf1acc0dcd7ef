-- Inner: the four sign words of a row, which every form of tables has: what they say, the words that say it, and the tests that they pass exactly if they are made from it.
use Prim.Native.Nat.{ℕ}
use native.Mathlib.Omega.{arith}
use mathlib.Core.Path.{◌≡◌, sym, ap, ◌∙◌}
use mathlib.Core.Bool.{true, ◌&&◌}
use mathlib.Core.List.{List, ◌∷◌}
use Rattle.wcsp.specs.Widening.{wide}
use Rattle.wcsp.proofs.WideningClauses.{get_d_wide}
use Rattle.wcsp.proofs.Lists.{and_left, and_right}
use Rattle.words.specs.Layout.{packed, signs_word}
use Rattle.clause.specs.Packed.{signs_of, FitsBlocks}
use Rattle.rows.specs.Raw.{Raw, raw_at, weighing, raw_row, clause_in}
use Rattle.rows.proofs.RowWords.{clause_in-raw_row, row_of_words}
use Rattle.table.specs.Clauses.{clause_from}
use Rattle.table.specs.Valid.{is_signs, sign_kinds}
use Rattle.table.specs.TwelveSigns.{Twelve, twelve_signs_of, signs_clause_from, packed-clause_from, clause_from_signs}
use Rattle.table.specs.WordKinds.{signs_made, signs_passes}

packed-clause_in : (r : Raw) → FitsBlocks (clause_in r)
packed-clause_in r = record { a = omega arith; b = omega arith; c = omega arith; d = omega arith }

-- they say twelve signs, and those of twelve signs say these
pub twelve_said : (r : Raw) → Twelve (signs_of (clause_in r))
twelve_said r = twelve_signs_of (clause_in r) (packed-clause_in r)

pub signs_said : (c : List ℕ) (w : ℕ) → Twelve c → signs_of (clause_in (raw_row (clause_from c) w)) ≡ c
signs_said c w h = ap signs_of (clause_in-raw_row (clause_from c) w (packed-clause_from c h)) ∙ signs_clause_from c h

-- words of the right kinds are those that are made from what they say
pub words_made : (ws : List ℕ) (w : ℕ) → sign_kinds ws ≡ true
    → weighing (raw_at ws 0) w ≡ raw_row (clause_from (signs_of (clause_in (raw_at ws 0)))) w
unfolding sign_kinds raw_at
words_made ws w e =
    let r = raw_at ws 0 in
    let s0 = is_signs 0 r.a in
    let s1 = is_signs 1 r.b in
    let s2 = is_signs 2 r.c in
    let s3 = is_signs 3 r.d in
    let e3 = and_left (s0 && s1 && s2) s3 e in
    let e2 = and_left (s0 && s1) s2 e3 in
    row_of_words (clause_in r) r.a r.b r.c r.d w (signs_made 0 r.a (and_left s0 s1 e2)) (signs_made 1 r.b (and_right s0 s1 e2)) (signs_made 2 r.c (and_right (s0 && s1) s2 e3)) (signs_made 3 r.d (and_right (s0 && s1 && s2) s3 e))
    ∙ ap (λ x. raw_row x w) (sym (clause_from_signs (clause_in r)))

-- and those of twelve signs are of the right kinds
pub words_pass : (c ws : List ℕ) → Twelve c → (let x = clause_from c in
    sign_kinds (signs_word 0 x.a ∷ signs_word 1 x.b ∷ signs_word 2 x.c ∷ signs_word 3 x.d ∷ ws) ≡ true)
unfolding sign_kinds
words_pass c ws h =
    let b = packed-clause_from c h in
    rw (signs_passes 0 _ (omega arith) b.a, signs_passes 1 _ (omega arith) b.b, signs_passes 2 _ (omega arith) b.c, signs_passes 3 _ (omega arith) b.d)

-- further signs that are 0 change none
pub clause_wide : (k : ℕ) (c : List ℕ) → clause_from (wide k c) ≡ clause_from c
clause_wide k c =
    let at = get_d_wide k c in
    λ i. record {
      a = packed (at 0 i) (at 1 i) (at 2 i);
      b = packed (at 3 i) (at 4 i) (at 5 i);
      c = packed (at 6 i) (at 7 i) (at 8 i);
      d = packed (at 9 i) (at 10 i) (at 11 i);
    }
