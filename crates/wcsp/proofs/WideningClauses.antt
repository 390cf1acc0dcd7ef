-- Clauses widened: equality, tautologies, the rule and its permission, buckets and what an assignment falsifies are as before.
use Prim.Native.Nat.{ℕ, zero, suc, ◌<◌, ◌≤◌}
use native.Mathlib.Nat.{le_of_suc-le-suc}
use native.Mathlib.Omega.{arith}
use mathlib.Core.Path.{◌≡◌, refl, sym, ap, ap₂, ◌∙◌}
use mathlib.Core.Bool.{Bool, true, false, not, ◌&&◌, ◌||◌, cond}
use mathlib.Core.List.{List, [], ◌∷◌, ◌++◌, map, map-append, append_cancel_right}
use lib.ListN.{length, get_or, set, replicate, length-set, get_or-eq_default}
use lib.Bits.{bit_and, bit_or, and_zero_l, or_zero_l}
use lib.Dec.{eqb, eqb-suc-zero, eqb-suc-suc}
use Rattle.wcsp.specs.Sign.{has, full, complement, within, present}
use Rattle.wcsp.specs.Clause.{falsifies, tautology, same, bucket}
use Rattle.wcsp.specs.Rule.{joined, others, excluding, conclusions, clashing, nested, permitted}
use Rattle.wcsp.specs.Widening.{widened, wide, WidePermitted, NonePermitted}
use Rattle.wcsp.proofs.Lists.{same-eq, same_refl, ne_same, same-ne}
use Rattle.wcsp.proofs.EmptyRow.{falsifies_empty}

pub same-wide : (k : ℕ) (x y : List ℕ) → same (wide k x) (wide k y) ≡ same x y
same-wide k x y = go (same x y) refl
  where
    go : (b : Bool) → same x y ≡ b → same (wide k x) (wide k y) ≡ same x y
    go true e = ap (λ c. same (wide k x) (wide k c)) (sym (same-eq x y e)) ∙ same_refl (wide k x) ∙ sym e
    go false e =
        ne_same (wide k x) (wide k y) (λ f. same-ne x y e (append_cancel_right x y (replicate k 0) f)) ∙ sym e

-- ---- single signs: a further variable has the sign 0, which is what stands past the last one

pub get_d_wide : (k : ℕ) (c : List ℕ) (s : ℕ) → ◌≡◌ {A = ℕ} (get_or (wide k c) s 0) (get_or c s 0)
get_d_wide zero [] s = refl
get_d_wide (suc k) [] zero = refl
get_d_wide (suc k) [] (suc s) = get_d_wide k [] s
get_d_wide k (S ∷ c) zero = refl
get_d_wide k (S ∷ c) (suc s) = get_d_wide k c s

pub set-wide : (k : ℕ) (c : List ℕ) (s v : ℕ) → (length c ≤ s → v ≡ 0) → set (wide k c) s v ≡ wide k (set c s v)
set-wide zero [] s v h = refl
set-wide (suc k) [] zero v h = ap (λ a. a ∷ replicate k 0) (h (omega arith))
set-wide (suc k) [] (suc s) v h = ap (λ c. 0 ∷ c) (set-wide k [] s v (λ l. h (omega arith)))
set-wide k (S ∷ c) zero v h = refl
set-wide k (S ∷ c) (suc s) v h = ap (λ x. S ∷ x) (set-wide k c s v (λ l. h (omega arith)))

pub others-wide : (k s : ℕ) (x : List ℕ) → others s (wide k x) ≡ wide k (others s x)
others-wide k s x = set-wide k x s 0 (λ l. refl)

-- ---- the rule

joined_zeros : (k : ℕ) → joined (replicate k 0) (replicate k 0) ≡ replicate k 0
unfolding joined
joined_zeros zero = refl
joined_zeros (suc k) = ap₂ (λ a c. a ∷ c) (or_zero_l 0) (joined_zeros k)

pub joined-wide : (k : ℕ) (x y : List ℕ) → length x ≡ length y → joined (wide k x) (wide k y) ≡ wide k (joined x y)
unfolding joined
joined-wide k [] [] h = joined_zeros k
joined-wide k [] (T ∷ y) h = absurd (omega arith)
joined-wide k (S ∷ x) [] h = absurd (omega arith)
joined-wide k (S ∷ x) (T ∷ y) h = ap (λ c. bit_or S T ∷ c) (joined-wide k x y (omega arith))

pub joined_length : (x y : List ℕ) → length x ≡ length y → length (joined x y) ≡ length x
unfolding joined
joined_length [] [] h = refl
joined_length [] (T ∷ y) h = refl
joined_length (S ∷ x) [] h = absurd (omega arith)
joined_length (S ∷ x) (T ∷ y) h = ap suc (joined_length x y (omega arith))

excluding_zeros : (k : ℕ) → excluding (replicate k 1) (replicate k 0) (replicate k 0) ≡ []
unfolding excluding present
excluding_zeros zero = refl
excluding_zeros (suc k) = rw (excluding_zeros k)

-- a sign put in front of widened clauses
cons-wide : (k S : ℕ) (cs : List (List ℕ)) → map (λ c. S ∷ c) (map (wide k) cs) ≡ map (wide k) (map (λ c. S ∷ c) cs)
cons-wide k S [] = refl
cons-wide k S (c ∷ cs) = ap (λ t. (S ∷ wide k c) ∷ t) (cons-wide k S cs)

pub excluding-wide : (k : ℕ) (ds x y : List ℕ) → length x ≡ length ds → length y ≡ length ds
    → excluding (widened k ds) (wide k x) (wide k y) ≡ map (wide k) (excluding ds x y)
unfolding excluding
excluding-wide k [] [] [] h l = excluding_zeros k
excluding-wide k [] [] (T ∷ y) h l = absurd (omega arith)
excluding-wide k [] (S ∷ x) y h l = absurd (omega arith)
excluding-wide k (d ∷ ds) [] y h l = absurd (omega arith)
excluding-wide k (d ∷ ds) (S ∷ x) [] h l = absurd (omega arith)
excluding-wide k (d ∷ ds) (S ∷ x) (T ∷ y) h l =
    rw (excluding-wide k ds x y (omega arith) (omega arith), cons-wide k (bit_or S T) (excluding ds x y))
    (go (present T))
  where
    rest : List (List ℕ)
    rest = map (λ c. bit_or S T ∷ c) (excluding ds x y)

    go : (b : Bool) → cond b ((bit_or S (complement d T) ∷ wide k x) ∷ []) [] ++ map (wide k) rest
        ≡ map (wide k) (cond b ((bit_or S (complement d T) ∷ x) ∷ []) [] ++ rest)
    go true = refl
    go false = refl

pub conclusions-wide : (k : ℕ) (ds : List ℕ) (s : ℕ) (x y : List ℕ) → length x ≡ length ds → length y ≡ length ds
    → conclusions (widened k ds) s (wide k x) (wide k y) ≡ map (wide k) (conclusions ds s x y)
unfolding conclusions
conclusions-wide k ds s x y h l =
    rw (
      get_d_wide k x s,
      get_d_wide k y s,
      joined-wide k x y (omega arith),
      others-wide k s x,
      others-wide k s y,
      excluding-wide k ds x (others s y) h (length-set y s 0 ∙ l),
      excluding-wide k ds y (others s x) l (length-set x s 0 ∙ h),
      set-wide k (joined x y) s (bit_and (get_or x s 0) (get_or y s 0)) past,
      map-append (wide k) (excluding ds x (others s y)) (excluding ds y (others s x)),
    )
  where
    past : length (joined x y) ≤ s → bit_and (get_or x s 0) (get_or y s 0) ≡ 0
    past m =
        let e = joined_length x y (omega arith) in
        ap (λ S. bit_and S (get_or y s 0)) (get_or-eq_default x 0 (omega arith)) ∙ and_zero_l (get_or y s 0)

-- ---- the permission

clashing_zeros : (k : ℕ) → clashing (replicate k 1) (replicate k 0) (replicate k 0) ≡ false
unfolding clashing present
clashing_zeros zero = refl
clashing_zeros (suc k) = clashing_zeros k

clashing-wide : (k : ℕ) (ds x y : List ℕ) → length x ≡ length ds → length y ≡ length ds
    → clashing (widened k ds) (wide k x) (wide k y) ≡ clashing ds x y
unfolding clashing
clashing-wide k [] [] [] h l = clashing_zeros k
clashing-wide k [] [] (T ∷ y) h l = absurd (omega arith)
clashing-wide k [] (S ∷ x) y h l = absurd (omega arith)
clashing-wide k (d ∷ ds) [] y h l = absurd (omega arith)
clashing-wide k (d ∷ ds) (S ∷ x) [] h l = absurd (omega arith)
clashing-wide k (d ∷ ds) (S ∷ x) (T ∷ y) h l =
    ap (λ b. (present S && present T && eqb (bit_or S T) (full d)) || b) (clashing-wide k ds x y (omega arith) (omega arith))

pub wide_permitted : WidePermitted
unfolding permitted
wide_permitted k ds s x y h l =
    rw (
      get_d_wide k x s,
      get_d_wide k y s,
      others-wide k s x,
      others-wide k s y,
      clashing-wide k ds (others s x) (others s y) (length-set x s 0 ∙ h) (length-set y s 0 ∙ l),
    )

pub none_permitted : NonePermitted
unfolding permitted nested within
none_permitted ds s x y h = rw (get_or-eq_default x 0 h)

-- ---- buckets

-- the bucket of a widened clause, seen from a variable of the field's own
pub bucket-wide : (k : ℕ) (c : List ℕ) (s : ℕ) → s < length c → eqb (bucket (wide k c)) s ≡ eqb (bucket c) s
unfolding bucket
bucket-wide k [] s h = absurd (omega arith)
bucket-wide k (S ∷ c) s h = go (eqb S 0) s h (bucket-wide k c)
  where
    go : (b : Bool) (s : ℕ) → s < suc (length c) → ((t : ℕ) → t < length c → eqb (bucket (wide k c)) t ≡ eqb (bucket c) t)
        → eqb (cond b (suc (bucket (wide k c))) 0) s ≡ eqb (cond b (suc (bucket c)) 0) s
    go true zero l ih = eqb-suc-zero (bucket (wide k c)) ∙ sym (eqb-suc-zero (bucket c))
    go true (suc t) l ih =
        eqb-suc-suc (bucket (wide k c)) t ∙ ih t (le_of_suc-le-suc l) ∙ sym (eqb-suc-suc (bucket c) t)
    go false s l ih = refl

pub bucket_zeros : (k : ℕ) → bucket (replicate k 0) ≡ k
unfolding bucket
bucket_zeros zero = refl
bucket_zeros (suc k) = ap suc (bucket_zeros k)

-- ---- tautologies and what an assignment falsifies

tautology_zeros : (k : ℕ) → tautology (replicate k 1) (replicate k 0) ≡ false
unfolding tautology full
tautology_zeros zero = refl
tautology_zeros (suc k) = tautology_zeros k

pub tautology-wide : (k : ℕ) (ds c : List ℕ) → length c ≡ length ds → tautology (widened k ds) (wide k c) ≡ tautology ds c
unfolding tautology
tautology-wide k [] [] h = tautology_zeros k
tautology-wide k [] (S ∷ c) h = absurd (omega arith)
tautology-wide k (d ∷ ds) [] h = absurd (omega arith)
tautology-wide k (d ∷ ds) (S ∷ c) h = ap (λ b. eqb S (full d) || b) (tautology-wide k ds c (omega arith))

pub falsifies-wide : (k : ℕ) (p q c : List ℕ) → length c ≡ length p → falsifies (p ++ q) (wide k c) ≡ falsifies p c
unfolding falsifies
falsifies-wide k [] q [] h = falsifies_empty q k
falsifies-wide k [] q (S ∷ c) h = absurd (omega arith)
falsifies-wide k (v ∷ p) q [] h = absurd (omega arith)
falsifies-wide k (v ∷ p) q (S ∷ c) h = ap (λ b. not (has S v) && b) (falsifies-wide k p q c (omega arith))
