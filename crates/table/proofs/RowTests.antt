-- The tests of a row as the code makes them: the bytes of two blocks side by side, the kinds of its sign words, and all together with its weight.
use Prim.Native.Nat.{ℕ, ◌+◌, ◌/◌, ◌%◌, ◌<◌, ◌≤◌}
use native.Mathlib.Omega.{arith}
use mathlib.Core.Path.{◌≡◌, refl, sym, ap, ◌∙◌}
use mathlib.Core.Bool.{Bool, true, false, ◌&&◌, and-false}
use mathlib.Core.List.{List, [], ◌∷◌, ◌++◌, map}
use lib.ListN.{get_or, drop}
use lib.Seq.{get_or-drop}
use lib.Dec.{eqb, ltb}
use borrow.Author.Tests.{eq-eqb, ne_eqb, lt-ltb, le-ltb}
use Rattle.wcsp.specs.Sign.{full}
use Rattle.words.specs.Layout.{unpacked}
use Rattle.clause.specs.declared.Clause.{Clause}
use Rattle.clause.specs.Packed.{signs_of, FullSigns}
use Rattle.rows.specs.Raw.{raw_at, clause_in}
use Rattle.table.specs.Form.{TableForm}
use Rattle.table.specs.Valid.{sign_kinds, valid_signs, all_below, valid_row_in}
use Rattle.table.specs.WordKinds.{signs_test}

-- ---- one block

module _ (x y : ℕ) where
  pub not_low : y % 256 ≤ x % 256 → false ≡ all_below (unpacked x) (unpacked y)
  unfolding all_below
  not_low h = rw (le-ltb (x % 256) (y % 256) h)

  pub not_middle : x % 256 < y % 256 → y / 256 % 256 ≤ x / 256 % 256 → false ≡ all_below (unpacked x) (unpacked y)
  unfolding all_below
  not_middle h l = rw (lt-ltb (x % 256) (y % 256) h, le-ltb (x / 256 % 256) (y / 256 % 256) l)

  pub as_high : x % 256 < y % 256 → x / 256 % 256 < y / 256 % 256 → ltb (x / 65536) (y / 65536) ≡ all_below (unpacked x) (unpacked y)
  unfolding all_below
  as_high h l = rw (lt-ltb (x % 256) (y % 256) h, lt-ltb (x / 256 % 256) (y / 256 % 256) l) (go (ltb (x / 65536) (y / 65536)))
    where
      go : (b : Bool) → b ≡ (b && true)
      go true = refl
      go false = refl

-- ---- four blocks

below_full : (ds c : List ℕ) → valid_signs ds c ≡ all_below c (map full ds)
unfolding valid_signs all_below
below_full [] [] = refl
below_full [] (S ∷ c) = refl
below_full (d ∷ ds) [] = refl
below_full (d ∷ ds) (S ∷ c) = ap (λ b. ltb S (full d) && b) (below_full ds c)

and_third : (a b c r : Bool) → (a && (b && (c && r))) ≡ ((a && (b && (c && true))) && r)
and_third false b c r = refl
and_third true false c r = refl
and_third true true false r = refl
and_third true true true r = refl

below_block : (x y : ℕ) (u w : List ℕ)
    → all_below (unpacked x ++ u) (unpacked y ++ w) ≡ (all_below (unpacked x) (unpacked y) && all_below u w)
unfolding all_below
below_block x y u w =
    and_third (ltb (x % 256) (y % 256)) (ltb (x / 256 % 256) (y / 256 % 256)) (ltb (x / 65536) (y / 65536)) (all_below u w)

abbrev below_in : ℕ → ℕ → Bool
below_in x f = all_below (unpacked x) (unpacked f)

signs_blocks : (x f : Clause) (ds : List ℕ) → FullSigns f ds
    → (below_in x.a f.a && (below_in x.b f.b && (below_in x.c f.c && below_in x.d f.d))) ≡ valid_signs ds (signs_of x)
unfolding signs_of
signs_blocks x f ds e =
    sym
    (below_full ds (signs_of x)
    ∙ ap (λ l. all_below (signs_of x) l) (sym e)
    ∙ below_block x.a f.a _ _
    ∙ ap (λ r. below_in x.a f.a && r)
    (below_block x.b f.b _ _
    ∙ ap (λ r. below_in x.b f.b && r) (below_block x.c f.c (unpacked x.d) (unpacked f.d))))

module _ (x f : Clause) where
  pub not_a : (r : Bool) → r ≡ below_in x.a f.a → r ≡ false → (ds : List ℕ) → FullSigns f ds → false ≡ valid_signs ds (signs_of x)
  not_a r e t ds h = rw (← e, t) at (signs_blocks x f ds h)

  pub not_b : (r : Bool) → r ≡ below_in x.b f.b → r ≡ false → (ds : List ℕ) → FullSigns f ds → false ≡ valid_signs ds (signs_of x)
  not_b r e t ds h = rw (← e, t, and-false) at (signs_blocks x f ds h)

  pub not_c : (r : Bool) → r ≡ below_in x.c f.c → r ≡ false → (ds : List ℕ) → FullSigns f ds → false ≡ valid_signs ds (signs_of x)
  not_c r e t ds h = simp and-false at (rw (← e, t) at (signs_blocks x f ds h))

  pub as_d : (o p q r : Bool) → o ≡ below_in x.a f.a → o ≡ true → p ≡ below_in x.b f.b → p ≡ true → q ≡ below_in x.c f.c
      → q ≡ true → r ≡ below_in x.d f.d → (ds : List ℕ) → FullSigns f ds → r ≡ valid_signs ds (signs_of x)
  as_d o p q r i m j s k u e ds h = rw (← i, m, ← j, s, ← k, u, ← e) at (signs_blocks x f ds h)

-- ---- the kinds of four sign words

module _ (t : List ℕ) (at : ℕ) where
  kinds_at : sign_kinds (drop at t)
      ≡ (eqb (get_or t at 0 / 16777216) 80 && eqb (get_or t (at + 1) 0 / 16777216) 81 && eqb (get_or t (at + 2) 0 / 16777216) 82
      && eqb (get_or t (at + 3) 0 / 16777216) 83)
  unfolding sign_kinds
  kinds_at =
      let e : at + 0 ≡ at = omega arith in
      simp (get_or-drop, e) (rw (signs_test 0 (get_or t at 0) (omega arith), signs_test 1 (get_or t (at + 1) 0) (omega arith), signs_test 2 (get_or t (at + 2) 0) (omega arith), signs_test 3 (get_or t (at + 3) 0) (omega arith)))

  pub other_a : (get_or t at 0 / 16777216 ≡ 80 → ⊥) → false ≡ sign_kinds (drop at t)
  other_a h = sym (kinds_at ∙ rw (ne_eqb (get_or t at 0 / 16777216) 80 h))

  pub other_b : get_or t at 0 / 16777216 ≡ 80 → (get_or t (at + 1) 0 / 16777216 ≡ 81 → ⊥) → false ≡ sign_kinds (drop at t)
  other_b a h = sym (kinds_at ∙ rw (eq-eqb (get_or t at 0 / 16777216) 80 a, ne_eqb (get_or t (at + 1) 0 / 16777216) 81 h))

  pub other_c : get_or t at 0 / 16777216 ≡ 80 → get_or t (at + 1) 0 / 16777216 ≡ 81 → (get_or t (at + 2) 0 / 16777216 ≡ 82 → ⊥)
      → false ≡ sign_kinds (drop at t)
  other_c a b h =
      sym (kinds_at ∙ rw (eq-eqb (get_or t at 0 / 16777216) 80 a, eq-eqb (get_or t (at + 1) 0 / 16777216) 81 b, ne_eqb (get_or t (at + 2) 0 / 16777216) 82 h))

  pub as_fourth : get_or t at 0 / 16777216 ≡ 80 → get_or t (at + 1) 0 / 16777216 ≡ 81 → get_or t (at + 2) 0 / 16777216 ≡ 82
      → eqb (get_or t (at + 3) 0 / 16777216) 83 ≡ sign_kinds (drop at t)
  as_fourth a b c =
      sym (kinds_at ∙ rw (eq-eqb (get_or t at 0 / 16777216) 80 a, eq-eqb (get_or t (at + 1) 0 / 16777216) 81 b, eq-eqb (get_or t (at + 2) 0 / 16777216) 82 c))

-- ---- a row of any form, whose signs are those of its four sign words

module _ (f : TableForm) (t : List ℕ) (at : ℕ) (front : (f.row_of (f.rows.read (drop at t) 0)).signs ≡ signs_of (clause_in (raw_at t at))) where
  row_there : (ds : List ℕ) → valid_row_in f ds (drop at t) ≡ (sign_kinds (drop at t) && f.weighs (drop at t) && valid_signs ds (signs_of (clause_in (raw_at t at))))
  unfolding valid_row_in
  row_there ds = rw front

  pub wrong_signs : (k : Bool) → k ≡ sign_kinds (drop at t) → k ≡ false → (ds : List ℕ) → false ≡ valid_row_in f ds (drop at t)
  wrong_signs k e q ds = rw (row_there ds, ← e, q)

  pub wrong_weight : (k : Bool) → k ≡ f.weighs (drop at t) → k ≡ false → (ds : List ℕ) → false ≡ valid_row_in f ds (drop at t)
  wrong_weight k e q ds = rw (row_there ds, ← e, q, and-false)

  pub as_signs : (k w : Bool) (x fulls : Clause) (r : Bool) → k ≡ sign_kinds (drop at t) → k ≡ true → w ≡ f.weighs (drop at t) → w ≡ true
      → x ≡ clause_in (raw_at t at)
      → ((ds : List ℕ) → FullSigns fulls ds → r ≡ valid_signs ds (signs_of x)) → (ds : List ℕ) → FullSigns fulls ds → r ≡ valid_row_in f ds (drop at t)
  as_signs k w x fulls r e g i j p h ds l =
      rw (row_there ds, ← e, g, ← i, j) (h ds l ∙ ap (λ y. valid_signs ds (signs_of y)) p)
