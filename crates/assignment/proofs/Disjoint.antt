-- Clauses with no value in common: against a clause that carries chosen values this says that those falsify the row, and block by block it is
-- that the blocks have no bit in common.
use Prim.Native.Nat.{ℕ, zero, suc, ◌*◌, ◌/◌, ◌%◌, ◌^◌, ◌<◌}
use native.Mathlib.Omega.{arith}
use mathlib.Core.Path.{◌≡◌, refl, sym, ap, ap₂, ◌∙◌}
use mathlib.Core.Bool.{Bool, true, false, not, ◌&&◌}
use mathlib.Core.List.{List, [], ◌∷◌, ◌++◌}
use lib.ListN.{drop, replicate}
use lib.Bits.{bit_and, and_step, and_mask, and_zero_r, and_mod, and_shr}
use lib.Dec.{eqb}
use borrow.Author.Tests.{eqb-true, eqb-false, ne_eqb}
use Rattle.wcsp.specs.Sign.{has}
use Rattle.wcsp.specs.Clause.{falsifies}
use Rattle.wcsp.proofs.Signs.{has_head, has-step}
use Rattle.words.specs.Layout.{unpacked}
use Rattle.clause.specs.declared.Clause.{Clause}
use Rattle.clause.specs.Packed.{signs_of}
use Rattle.assignment.specs.Chosen.{disjoint, singles, Carries}

-- ---- one sign and one value

digit : (a : ℕ) → a < 2 → eqb a 0 ≡ not (eqb a 1)
digit zero h = refl
digit (suc zero) h = refl
digit (suc (suc a)) h = absurd (omega arith)

double : (x y : ℕ) → y ≡ x * 2 → eqb y 0 ≡ eqb x 0
double zero y e = let z : y ≡ 0 = omega arith in rw z
double (suc x) y e = ne_eqb y 0 (λ z. omega arith) ∙ sym (ne_eqb (suc x) 0 (λ z. omega arith))

-- a sign has nothing in common with a single value that lies outside it
pub met_single : (S v : ℕ) → eqb (bit_and S (2 ^ v)) 0 ≡ not (has S v)
met_single S zero =
    ap (λ n. eqb n 0) (and_mask S 1) ∙ digit (S % 2) (omega arith) ∙ ap not (sym (has_head S))
met_single S (suc v) =
    let e : 2 ^ suc v / 2 ≡ 2 ^ v = omega arith in
    let f : 2 ^ suc v % 2 ≡ 0 = omega arith in
    let g : bit_and S (2 ^ suc v) ≡ bit_and (S / 2) (2 ^ v) * 2 = omega (arith, and_step S (2 ^ suc v), ap (λ n. bit_and (S / 2) n) e) in
    double (bit_and (S / 2) (2 ^ v)) (bit_and S (2 ^ suc v)) g ∙ met_single (S / 2) v ∙ ap not (sym (has-step S v))

-- ---- a row and the chosen values

disjoint_zeros : (c : List ℕ) (m : ℕ) → disjoint c (replicate m 0) ≡ true
unfolding disjoint
disjoint_zeros [] m = refl
disjoint_zeros (S ∷ c) zero = refl
disjoint_zeros (S ∷ c) (suc m) = rw (and_zero_r S) (disjoint_zeros c m)

disjoint_past : (k : ℕ) (c y : List ℕ) → disjoint c (replicate k 0 ++ y) ≡ disjoint (drop k c) y
unfolding disjoint
disjoint_past zero c y = refl
disjoint_past (suc k) [] y = refl
disjoint_past (suc k) (S ∷ c) y = rw (and_zero_r S) (disjoint_past k c y)

disjoint-singles : (q c : List ℕ) (m : ℕ) → disjoint c (singles q ++ replicate m 0) ≡ falsifies q c
unfolding disjoint falsifies
disjoint-singles [] c m = disjoint_zeros c m
disjoint-singles (v ∷ q) [] m = refl
disjoint-singles (v ∷ q) (S ∷ c) m = ap₂ (λ a b. a && b) (met_single S v) (disjoint-singles q c m)

-- the chosen values falsify what has nothing in common with them
pub disjoint-falsifies : (c signs : List ℕ) (k : ℕ) (q : List ℕ) → Carries signs k q → disjoint c signs ≡ falsifies q (drop k c)
disjoint-falsifies c signs k q h =
    ap (disjoint c) h.bits ∙ disjoint_past k c (singles q ++ replicate h.rest 0) ∙ disjoint-singles q (drop k c) h.rest

-- ---- block by block

some-false : (a b c r : Bool) → (a ≡ true → b ≡ true → c ≡ true → ⊥) → (a && (b && (c && r))) ≡ false
some-false false b c r h = refl
some-false true false c r h = refl
some-false true true false r h = refl
some-false true true true r h = absurd (h refl refl refl)

-- a number is 0 if its three parts are
parts_zero : (z : ℕ) (r : Bool) → (eqb (z % 256) 0 && (eqb (z / 256 % 256) 0 && (eqb (z / 65536) 0 && r))) ≡ (eqb z 0 && r)
parts_zero z r = go (eqb z 0) refl
  where
    go : (b : Bool) → eqb z 0 ≡ b → (eqb (z % 256) 0 && (eqb (z / 256 % 256) 0 && (eqb (z / 65536) 0 && r))) ≡ (b && r)
    go true e = rw (eqb-true z 0 e)
    go false e =
        let n = eqb-false z 0 e in
        some-false (eqb (z % 256) 0) (eqb (z / 256 % 256) 0) (eqb (z / 65536) 0) r
        (λ a b c.
        let x = eqb-true (z % 256) 0 a in
        let y = eqb-true (z / 256 % 256) 0 b in
        let w = eqb-true (z / 65536) 0 c in
        n (omega arith))

disjoint_block : (x y : ℕ) (u w : List ℕ) → disjoint (unpacked x ++ u) (unpacked y ++ w) ≡ (eqb (bit_and x y) 0 && disjoint u w)
unfolding disjoint
disjoint_block x y u w =
    let p = sym (and_mod x y 8) in
    let q = sym (and_mod (x / 256) (y / 256) 8) ∙ ap (λ n. n % 256) (sym (and_shr x y 8)) in
    let r = sym (and_shr x y 16) in
    (λ i. eqb (p i) 0 && (eqb (q i) 0 && (eqb (r i) 0 && disjoint u w))) ∙ parts_zero (bit_and x y) (disjoint u w)

module _ (x y : Clause) where
  pub disjoint_clauses : disjoint (signs_of x) (signs_of y)
      ≡ (eqb (bit_and x.a y.a) 0 && (eqb (bit_and x.b y.b) 0 && (eqb (bit_and x.c y.c) 0 && (eqb (bit_and x.d y.d) 0 && true))))
  unfolding signs_of disjoint
  disjoint_clauses =
      disjoint_block x.a y.a (unpacked x.b ++ (unpacked x.c ++ unpacked x.d)) (unpacked y.b ++ (unpacked y.c ++ unpacked y.d))
      ∙ ap (λ b. eqb (bit_and x.a y.a) 0 && b)
      (disjoint_block x.b y.b (unpacked x.c ++ unpacked x.d) (unpacked y.c ++ unpacked y.d)
      ∙ ap (λ b. eqb (bit_and x.b y.b) 0 && b)
      (disjoint_block x.c y.c (unpacked x.d) (unpacked y.d)
      ∙ ap (λ b. eqb (bit_and x.c y.c) 0 && b) (disjoint_block x.d y.d [] [])))
