-- The turns of the loop that writes group 3 or 4. What is in the buffer, and behind it what is still to come and no tautology, are together always
-- the same: what was there before, and all of the group that is no tautology.
use Prim.Native.Nat.{ℕ, zero, suc, ◌+◌, ◌-◌, ◌<◌, ◌≤◌}
use native.Mathlib.Omega.{arith}
use native.Mathlib.Numerals.{add-one}
use mathlib.Core.Path.{◌≡◌, refl, sym, ap, ap₂, ◌∙◌}
use mathlib.Core.Bool.{Bool, true, false}
use mathlib.Core.List.{List, [], ◌∷◌, ◌++◌, map, append-nil, append_assoc}
use lib.ListN.{length, get_or, set, replicate, length-set}
use lib.Seq.{get_or-set_same, get_or-set_other, set-set}
use lib.Bits.{bit_or}
use lib.Dec.{eqb}
use borrow.Author.Tests.{eqb-true, eqb-false}
use Rattle.wcsp.specs.Sign.{full, complement}
use Rattle.wcsp.specs.Clause.{ValidClause, nil, cons, kept}
use Rattle.wcsp.specs.Rule.{joined, others, excluding}
use Rattle.wcsp.proofs.Signs.{full_at}
use Rattle.wcsp.proofs.Lists.{along_length}
use Rattle.wcsp.proofs.Adding.{kept_append}
use Rattle.clause.specs.declared.Clause.{Clause}
use Rattle.clause.specs.Packed.{signs_of, FitsBlocks, Holds, FullSigns}
use Rattle.clause.proofs.Signs12.{signs_of-length}
use Rattle.conclusions.specs.Buffer.{clauses_in, PackedBuffer, Below}
use Rattle.conclusions.proofs.Excluding.{excluding_from, from_start, from_end, from_absent, from_present, joined_single}

-- the buffer has n clauses and b variables are done, with the running clause r; k clauses were in the buffer B₀ before
abbrev pub Filled : List ℕ → ℕ → Clause → Clause → Clause → ℕ → List ℕ → ℕ → ℕ → Clause → Type 0
Filled B₀ k x y f v B n b r =
    (ds : List ℕ) → FullSigns f ds → ValidClause ds (signs_of x) → ValidClause ds (signs_of y)
    → clauses_in n B ++ kept ds (excluding_from ds b (signs_of r) (others v (signs_of y)))
    ≡ clauses_in k B₀ ++ kept ds (excluding ds (signs_of x) (others v (signs_of y)))

-- twelve sizes, since there are twelve signs
sizes : {ds : List ℕ} (x : Clause) → ValidClause ds (signs_of x) → length ds ≡ 12
sizes x p = along_length p ∙ signs_of-length x

others-length : (v : ℕ) (y : Clause) → length (others v (signs_of y)) ≡ 12
others-length v y = length-set (signs_of y) v 0 ∙ signs_of-length y

module _ (B₀ : List ℕ) (k : ℕ) (x y f : Clause) (v : ℕ) where
  pub filled_start : Filled B₀ k x y f v B₀ k 0 x
  filled_start ds g p q = ap (λ l. clauses_in k B₀ ++ kept ds l) (from_start ds (signs_of x) (others v (signs_of y)))

  module _ (B : List ℕ) (n b : ℕ) (r : Clause) (inv : Filled B₀ k x y f v B n b r) where
    pub filled_end : 12 ≤ b → (ds : List ℕ) → FullSigns f ds → ValidClause ds (signs_of x) → ValidClause ds (signs_of y)
        → clauses_in n B ≡ clauses_in k B₀ ++ kept ds (excluding ds (signs_of x) (others v (signs_of y)))
    unfolding kept
    filled_end h ds g p q =
        let l = sizes x p in
        sym (append-nil (clauses_in n B))
        ∙ ap (λ l. clauses_in n B ++ kept ds l) (sym (from_end ds b (signs_of r) (others v (signs_of y)) (omega arith)))
        ∙ inv ds g p q

    -- no literal at b
    filled_none : b < 12 → get_or (others v (signs_of y)) b 0 ≡ 0 → Filled B₀ k x y f v B n (b + 1) r
    filled_none h e ds g p q =
        let l = sizes x p in
        let m = signs_of-length r in
        let o = others-length v y in
        let same : excluding_from ds b (signs_of r) (others v (signs_of y)) ≡ excluding_from ds (b + 1) (signs_of r) (others v (signs_of y))
        = rw add-one (from_absent ds (signs_of r) (others v (signs_of y)) b (omega arith) (omega arith) (omega arith) e) in
        ap (λ l. clauses_in n B ++ kept ds l) (sym same) ∙ inv ds g p q

    pub filled_pass : b < 12 → b ≡ v → Filled B₀ k x y f v B n (b + 1) r
    filled_pass h e = filled_none h (rw e (get_or-set_same (signs_of y) v 0 0 (omega (arith, signs_of-length y))))

    pub filled_absent : b < 12 → (s : ℕ) → s ≡ get_or (signs_of y) b 0 → s ≡ 0 → Filled B₀ k x y f v B n (b + 1) r
    filled_absent h s e z = go (eqb b v) refl
      where
        go : (t : Bool) → eqb b v ≡ t → Filled B₀ k x y f v B n (b + 1) r
        go true t = filled_pass h (eqb-true b v t)
        go false t = filled_none h (get_or-set_other (signs_of y) v b 0 0 (eqb-false b v t) ∙ sym e ∙ z)

    -- a literal of another variable: its clause is kept unless it is a tautology, and the literal joins the running clause
    module _ (s t : ℕ) (e l q : Clause) (h : b < 12) (zeros : Holds e (replicate 12 0))
        (literal : Holds l (set (signs_of e) b s)) (other : Holds q (set (signs_of l) b (t - get_or (signs_of l) b 0))) where
      literal_signs : signs_of l ≡ set (replicate 12 0) b s
      literal_signs = literal.signs_are ∙ ap (λ a. set a b s) zeros.signs_are

      other_signs : signs_of q ≡ set (replicate 12 0) b (t - s)
      other_signs =
          other.signs_are
          ∙ ap (λ a. set a b (t - get_or a b 0)) literal_signs
          ∙ ap (λ a. set (set (replicate 12 0) b s) b (t - a)) (get_or-set_same (replicate 12 0) b s 0 h)
          ∙ set-set (replicate 12 0) b s (t - s)

      with_single : (a : Clause) (U : ℕ) → joined (signs_of a) (set (replicate 12 0) b U) ≡ set (signs_of a) b (bit_or (get_or (signs_of a) b 0) U)
      with_single a U =
          ap (λ j. joined (signs_of a) (set (replicate j 0) b U)) (sym (signs_of-length a)) ∙ joined_single (signs_of a) b U

      pub filled_present : (u w : Clause) (C : List ℕ) (m : ℕ) → (b ≡ v → ⊥) → s ≡ get_or (signs_of y) b 0 → (s ≡ 0 → ⊥)
          → t ≡ get_or (signs_of f) b 0 → Holds u (joined (signs_of r) (signs_of q))
          → ((ds : List ℕ) → FullSigns f ds → clauses_in m C ≡ clauses_in n B ++ kept ds (signs_of u ∷ []))
          → Holds w (joined (signs_of r) (signs_of l)) → Filled B₀ k x y f v C m (b + 1) w
      unfolding complement
      filled_present u w C m o sign nonzero wide found adds next ds g p j =
          ap₂ (λ a c. a ++ kept ds c) (adds ds g) (rw (add-one, wider) refl)
          ∙ append_assoc (clauses_in n B) (kept ds (signs_of u ∷ [])) (kept ds rest)
          ∙ ap (λ a. clauses_in n B ++ a) (sym (kept_append ds (signs_of u ∷ []) rest) ∙ ap (kept ds) (sym turn))
          ∙ inv ds g p j
        where
          S : ℕ
          S = get_or (signs_of r) b 0

          rest : List (List ℕ)
          rest = excluding_from ds (suc b) (set (signs_of r) b (bit_or S s)) (others v (signs_of y))

          wider : signs_of w ≡ set (signs_of r) b (bit_or S s)
          wider = next.signs_are ∙ ap (joined (signs_of r)) literal_signs ∙ with_single r s

          domain : t ≡ full (get_or ds b 0)
          domain = wide ∙ ap (λ a. get_or a b 0) g ∙ full_at ds b

          complemented : signs_of u ≡ set (signs_of r) b (bit_or S (complement (get_or ds b 0) s))
          complemented =
              found.signs_are ∙ ap (joined (signs_of r)) other_signs ∙ with_single r (t - s)
              ∙ ap (λ a. set (signs_of r) b (bit_or S (a - s))) domain

          here : get_or (others v (signs_of y)) b 0 ≡ s
          here = get_or-set_other (signs_of y) v b 0 0 o ∙ sym sign

          turn : excluding_from ds b (signs_of r) (others v (signs_of y)) ≡ signs_of u ∷ rest
          turn =
              let a = sizes x p in
              let c = signs_of-length r in
              let i = others-length v y in
              from_present ds (signs_of r) (others v (signs_of y)) b (omega arith) (omega arith) (omega arith) (λ z. nonzero (sym here ∙ z))
              ∙ rw (here, complemented)

-- the literal's sign is no greater than the full sign
pub literal_within : (y f e l : Clause) (b s t : ℕ) → b < 12 → Below y f → Holds e (replicate 12 0) → Holds l (set (signs_of e) b s)
    → s ≡ get_or (signs_of y) b 0 → t ≡ get_or (signs_of f) b 0 → get_or (signs_of l) b 0 ≤ t
literal_within y f e l b s t h below zeros literal p q =
    let i : get_or (signs_of l) b 0 ≡ s =
    ap (λ a. get_or a b 0) (literal.signs_are ∙ ap (λ a. set a b s) zeros.signs_are) ∙ get_or-set_same (replicate 12 0) b s 0 h
    in
    omega (arith, below b)

-- ---- what the callers show

valid_below : {ds c : List ℕ} → ValidClause ds c → (i : ℕ) → get_or c i 0 ≤ get_or (map full ds) i 0
valid_below nil i = omega arith
valid_below (cons h p) zero = omega arith
valid_below (cons h p) (suc i) = valid_below p i

pub below_full : (x f : Clause) (ds : List ℕ) → FullSigns f ds → ValidClause ds (signs_of x) → Below x f
below_full x f ds g p i = rw g (valid_below p i)

-- ---- the loop's invariant

pub record Turn (B₀ : List ℕ) (k : ℕ) (x y f : Clause) (v : ℕ) (B : List ℕ) (n b : ℕ) (r : Clause) : Type 0 where
  pub bound : b ≤ 12
  pub count : n ≤ k + b
  pub packed : FitsBlocks r
  pub buffer : PackedBuffer B
  pub filled : Filled B₀ k x y f v B n b r

module _ (B₀ : List ℕ) (k : ℕ) (x y f : Clause) (v : ℕ) where
  pub turn_start : FitsBlocks x → PackedBuffer B₀ → Turn B₀ k x y f v B₀ k 0 x
  turn_start p q =
      record { bound = omega arith; count = omega arith; packed = p; buffer = q; filled = filled_start B₀ k x y f v }

  module _ (B : List ℕ) (n b : ℕ) (r : Clause) (inv : Turn B₀ k x y f v B n b r) (h : b < 12) where
    pub turn_pass : b ≡ v → (C : List ℕ) (m : ℕ) (w : Clause) → C ≡ B → w ≡ r → m ≡ n → Turn B₀ k x y f v C m (b + 1) w
    turn_pass e C m w i j l =
        let o = inv.count in
        rw (i, j, l)
        (record {
          bound = omega arith;
          count = omega arith;
          packed = inv.packed;
          buffer = inv.buffer;
          filled = filled_pass B₀ k x y f v B n b r inv.filled h e;
        })

    pub turn_absent : (s : ℕ) → s ≡ get_or (signs_of y) b 0 → s ≡ 0
        → (C : List ℕ) (m : ℕ) (w : Clause) → C ≡ B → w ≡ r → m ≡ n → Turn B₀ k x y f v C m (b + 1) w
    turn_absent s e z C m w i j l =
        let o = inv.count in
        rw (i, j, l)
        (record {
          bound = omega arith;
          count = omega arith;
          packed = inv.packed;
          buffer = inv.buffer;
          filled = filled_absent B₀ k x y f v B n b r inv.filled h s e z;
        })

    module _ (s t : ℕ) (e l q u : Clause) (sign : s ≡ get_or (signs_of y) b 0) (wide : t ≡ get_or (signs_of f) b 0)
        (zeros : Holds e (replicate 12 0)) (literal : Holds l (set (signs_of e) b s))
        (other : Holds q (set (signs_of l) b (t - get_or (signs_of l) b 0))) (found : Holds u (joined (signs_of r) (signs_of q))) where
      pub turn_present : (b ≡ v → ⊥) → (s ≡ 0 → ⊥) → (C' : List ℕ) (m' : ℕ) (w' : Clause)
          → ((ds : List ℕ) → FullSigns f ds → clauses_in m' C' ≡ clauses_in n B ++ kept ds (signs_of u ∷ [])) × (m' ≤ n + 1) × PackedBuffer C'
          → Holds w' (joined (signs_of r) (signs_of l))
          → (C : List ℕ) (m : ℕ) (w : Clause) → C ≡ C' → w ≡ w' → m ≡ m' → Turn B₀ k x y f v C m (b + 1) w
      turn_present o z C' m' w' (adds, one, room) next C m w i j a =
          let c = inv.count in
          rw (i, j, a)
          (record {
            bound = omega arith;
            count = omega arith;
            packed = next.packed;
            buffer = room;
            filled =
                filled_present B₀ k x y f v B n b r inv.filled s t e l q h zeros literal other u w' C' m' o sign z wide found adds next;
          })
