-- The full signs of twelve variables, filled in one after the other.
use Prim.Native.Nat.{ℕ, zero, suc, ◌+◌, ◌-◌, ◌<◌, ◌≤◌}
use native.Mathlib.Omega.{arith}
use native.Mathlib.Numerals.{add-one}
use mathlib.Core.Path.{◌≡◌, refl, sym, ap, ap₂, ◌∙◌}
use mathlib.Core.List.{List, [], ◌∷◌, ◌++◌, map, append_assoc, append-nil}
use lib.ListN.{length, get_or, set, take, replicate, length-map}
use lib.Seq.{take-suc, take_all, length-take-le, set_at}
use Rattle.wcsp.specs.Sign.{full}
use Rattle.fields.specs.Padding.{padded}
use Rattle.clause.specs.declared.Clause.{Clause}
use Rattle.clause.specs.Packed.{signs_of, FitsBlocks, Holds}
use Rattle.wcsp.proofs.Signs.{full_at}

-- ---- the sizes of twelve variables

ones_at : (k i : ℕ) → i < k → get_or {A = ℕ} (replicate k 1) i 0 ≡ 1
ones_at zero i h = absurd (omega arith)
ones_at (suc k) zero h = refl
ones_at (suc k) (suc i) h = ones_at k i (omega arith)

joined_at : (ds : List ℕ) (k i : ℕ) → i < length ds + k → get_or (ds ++ replicate k 1) i 0 ≡ get_or ds i 1
joined_at [] k i h = ones_at k i (omega arith)
joined_at (d ∷ ds) k zero h = refl
joined_at (d ∷ ds) k (suc i) h = joined_at ds k i (omega arith)

pub padded_at : (ds : List ℕ) (i : ℕ) → length ds ≤ 12 → i < 12 → get_or (padded ds) i 0 ≡ get_or ds i 1
unfolding padded
padded_at ds i few h = joined_at ds (12 - length ds) i (omega arith)

-- the first i signs are full, the others 0
pub record Filled (sizes : List ℕ) (fulls : Clause) (i : ℕ) : Type 0 where
  pub upto : i ≤ 12
  pub packed : FitsBlocks fulls
  pub is : signs_of fulls ≡ take i (map full sizes) ++ replicate (12 - i) 0

filled_more : (fs : List ℕ) (i : ℕ) → length fs ≡ 12 → i < 12
    → set (take i fs ++ replicate (12 - i) 0) i (get_or fs i 0) ≡ take (i + 1) fs ++ replicate (12 - (i + 1)) 0
filled_more fs i e h =
    let n : 12 - i ≡ suc (12 - (i + 1)) = omega arith in
    let k : i < length fs = omega arith in
    let front : length (take i fs) ≡ i = length-take-le i fs (omega arith) in
    ap (λ m. set (take i fs ++ replicate m 0) i (get_or fs i 0)) n
    ∙ set_at (take i fs) 0 (replicate (12 - (i + 1)) 0) (get_or fs i 0) i front
    ∙ sym (append_assoc (take i fs) (get_or fs i 0 ∷ []) (replicate (12 - (i + 1)) 0))
    ∙ ap (λ u. u ++ replicate (12 - (i + 1)) 0) (sym (take-suc fs i 0 k) ∙ ap (λ j. take j fs) (sym (add-one i)))

filled_whole : (fs : List ℕ) (i : ℕ) → length fs ≡ 12 → i ≡ 12 → take i fs ++ replicate (12 - i) 0 ≡ fs
filled_whole fs i e h =
    let z : 12 - i ≡ 0 = omega arith in
    let l : length fs ≤ i = omega arith in
    ap (λ m. take i fs ++ replicate m 0) z ∙ append-nil (take i fs) ∙ take_all i fs l

module _ (sizes : List ℕ) (long : length sizes ≡ 12) where
  full_long : length (map full sizes) ≡ 12
  full_long = length-map sizes full ∙ long

  pub filled_start : (x : Clause) → Holds x (replicate 12 0) → Filled sizes x 0
  filled_start x h = record { upto = omega arith; packed = h.packed; is = h.signs_are }

  module _ (x : Clause) (i : ℕ) (f : Filled sizes x i) where
    pub filled_next : (y : Clause) (v : ℕ) → i < 12 → v ≡ full (get_or sizes i 0) → Holds y (set (signs_of x) i v) → Filled sizes y (i + 1)
    filled_next y v h e g =
        record {
          upto = omega arith;
          packed = g.packed;
          is = g.signs_are ∙ ap₂ (λ s u. set s i u) f.is (e ∙ sym (full_at sizes i)) ∙ filled_more (map full sizes) i full_long h;
        }

    pub filled_end : 12 ≤ i → Holds x (map full sizes)
    filled_end h =
        let upto = f.upto in
        record { packed = f.packed; signs_are = f.is ∙ filled_whole (map full sizes) i full_long (omega arith) }
