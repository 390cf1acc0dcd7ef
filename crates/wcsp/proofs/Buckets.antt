-- A clause's signs below its bucket are absent: they falsify nothing, so only the values from the bucket on count.
-- And two clauses of one bucket that the values above it falsify do not clash there: each such value lies outside both signs.
use Prim.Native.Nat.{ℕ, zero, suc, ◌<◌, ◌≤◌}
use native.Mathlib.Nat.{le_of_suc-le-suc}
use native.Mathlib.Omega.{arith}
use mathlib.Core.Path.{◌≡◌, refl, sym, ap, ap₂, ◌∙◌}
use mathlib.Core.Bool.{Bool, true, false, not, ◌&&◌, ◌||◌, and-false, false≢true}
use mathlib.Core.List.{List, [], ◌∷◌}
use lib.ListN.{length, get_or, drop, replicate}
use lib.Seq.{drop-cons}
use lib.Bits.{bit_or}
use lib.Dec.{eqb}
use borrow.Author.Tests.{eqb-true, eq-eqb, ne_eqb, not-true}
use Rattle.wcsp.specs.Sign.{has, full, present}
use Rattle.wcsp.specs.Clause.{InRange, nil, cons, falsifies, bucket}
use Rattle.wcsp.specs.Rule.{others, clashing}
use Rattle.wcsp.proofs.Signs.{has-zero, has-full, has_or}
use Rattle.wcsp.proofs.Lists.{and_left, and_right}

-- ---- the bucket

pub bucket_absent : (c : List ℕ) → bucket (0 ∷ c) ≡ suc (bucket c)
unfolding bucket
bucket_absent c = refl

pub bucket-present : (S : ℕ) (c : List ℕ) → (S ≡ 0 → ⊥) → bucket (S ∷ c) ≡ 0
unfolding bucket
bucket-present S c h = rw (ne_eqb S 0 h)

-- a bucket above 0: the first sign is absent
pub bucket_above : (k S : ℕ) (c : List ℕ) → suc k ≤ bucket (S ∷ c) → (S ≡ 0) × (k ≤ bucket c)
bucket_above k zero c h = (refl, le_of_suc-le-suc (rw bucket_absent at h))
bucket_above k (suc S) c h = absurd (omega (arith, bucket-present (suc S) c (λ e. omega arith)))

-- the sign at the bucket is present
pub bucket_sign : (c : List ℕ) → bucket c < length c → 0 < get_or c (bucket c) 0
bucket_sign [] h = absurd (omega arith)
bucket_sign (zero ∷ c) h = rw bucket_absent (bucket_sign c (omega (arith, bucket_absent c)))
bucket_sign (suc S ∷ c) h = rw (bucket-present (suc S) c (λ e. omega arith)) (omega arith)

-- only the empty clause has its bucket past the last variable
pub bucket_empty : (c : List ℕ) → length c ≤ bucket c → c ≡ replicate (length c) 0
bucket_empty [] h = refl
bucket_empty (S ∷ c) h = let (e, l) = bucket_above (length c) S c h in ap₂ (λ T x. T ∷ x) e (bucket_empty c l)

-- ---- falsified from k on

pub falsifies-nil : (p : List ℕ) → falsifies p [] ≡ true
unfolding falsifies
falsifies-nil [] = refl
falsifies-nil (v ∷ p) = refl

pub falsifies-cons : (v : ℕ) (p : List ℕ) (S : ℕ) (c : List ℕ) → falsifies (v ∷ p) (S ∷ c) ≡ (not (has S v) && falsifies p c)
unfolding falsifies
falsifies-cons v p S c = refl

-- the values below the bucket do not count
pub falsifies-drop : (k : ℕ) (p c : List ℕ) → k ≤ bucket c → falsifies p c ≡ falsifies (drop k p) (drop k c)
unfolding falsifies
falsifies-drop zero p c h = refl
falsifies-drop (suc k) [] c h = refl
falsifies-drop (suc k) (v ∷ p) [] h = sym (falsifies-nil (drop k p))
falsifies-drop (suc k) (v ∷ p) (S ∷ c) h =
    let (e, l) = bucket_above k S c h in
    ap (λ T. not (has T v) && falsifies p c) e ∙ rw has-zero (falsifies-drop k p c l)

-- value v at k before the values q above it
pub falsifies-at : (k v : ℕ) (q c : List ℕ) → k < length c
    → falsifies (v ∷ q) (drop k c) ≡ (not (has (get_or c k 0) v) && falsifies q (drop (suc k) c))
falsifies-at k v q c h = ap (falsifies (v ∷ q)) (drop-cons c k 0 h) ∙ falsifies-cons v q (get_or c k 0) (drop (suc k) c)

-- ---- no clash

-- a value outside both signs: their union is not full
outside_union : (d v S T : ℕ) → v < d → has S v ≡ false → has T v ≡ false → eqb (bit_or S T) (full d) ≡ false
outside_union d v S T l s t = go (eqb (bit_or S T) (full d)) refl
  where
    go : (b : Bool) → eqb (bit_or S T) (full d) ≡ b → b ≡ false
    go true e =
        absurd (false≢true
        (sym (has_or S T v ∙ ap₂ (λ a b. a || b) s t) ∙ ap (λ n. has n v) (eqb-true (bit_or S T) (full d) e) ∙ has-full d v l))
    go false e = refl

clash_free : {ds q : List ℕ} → InRange ds q → (x y : List ℕ) → falsifies q x ≡ true → falsifies q y ≡ true
    → clashing ds x y ≡ false
unfolding clashing falsifies
clash_free nil x y f g = refl
clash_free (cons l r) [] y f g = refl
clash_free (cons l r) (S ∷ x) [] f g = refl
clash_free (cons {a = d} {b = v} {xs = ds} {ys = q} l r) (S ∷ x) (T ∷ y) f g =
    let s = not-true (has S v) (and_left (not (has S v)) (falsifies q x) f) in
    let t = not-true (has T v) (and_left (not (has T v)) (falsifies q y) g) in
    let rest = clash_free r x y (and_right (not (has S v)) (falsifies q x) f) (and_right (not (has T v)) (falsifies q y) g) in
    rw (outside_union d v S T l s t, and-false, rest)

pub no_clash : (k : ℕ) (ds q x y : List ℕ) → InRange (drop (suc k) ds) q → k ≤ bucket x → falsifies q (drop (suc k) x) ≡ true
    → falsifies q (drop (suc k) y) ≡ true → clashing ds (others k x) (others k y) ≡ false
unfolding clashing present
no_clash k [] q x y r h f g = refl
no_clash k (d ∷ ds) q [] y r h f g = refl
no_clash zero (d ∷ ds) q (S ∷ x) [] r h f g = refl
no_clash (suc k) (d ∷ ds) q (S ∷ x) [] r h f g = refl
no_clash zero (d ∷ ds) q (S ∷ x) (T ∷ y) r h f g = clash_free r x y f g
no_clash (suc k) (d ∷ ds) q (S ∷ x) (T ∷ y) r h f g =
    let (e, l) = bucket_above k S x h in rw (eq-eqb S 0 e) (no_clash k ds q x y r l f g)
