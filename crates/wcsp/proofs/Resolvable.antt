-- Two clauses of one bucket that may be resolved, taken apart along the variables: absent before the bucket's variable, signs there of which
-- neither lies in the other, and a valid union behind it. From that: the meet is valid and of a lower grade than either clause, meet and
-- union together are of a lower grade than both, and the clauses that exclude a literal are of their own clause's grade.
use Prim.Native.Nat.{ℕ, zero, suc, ◌+◌, ◌<◌}
use mathlib.Core.Path.{◌≡◌, sym, ◌∙◌}
use mathlib.Core.Bool.{true, false, not}
use mathlib.Core.List.{List, ◌∷◌}
use native.Mathlib.Omega.{arith}
use lib.ListN.{length}
use lib.Bits.{bit_and, bit_or, and_le_l, and_comm, or_zero_r}
use lib.Count.{ones}
use borrow.Author.Tests.{not-true}
use Rattle.wcsp.specs.Sign.{full, present}
use Rattle.wcsp.specs.Clause.{ValidClause, nil, cons, bucket}
use Rattle.wcsp.specs.Rule.{joined, others, excluding, clashing, nested, permitted}
use Rattle.wcsp.specs.Bound.{grade}
use Rattle.wcsp.proofs.Signs.{or_le-full}
use Rattle.wcsp.proofs.Lists.{and_left, and_right, or_left, or_right}
use Rattle.wcsp.proofs.Buckets.{bucket_absent, bucket_above}
use Rattle.wcsp.proofs.Distinctness.{different, clash_at, union_below}
use Rattle.wcsp.proofs.Validity.{Each, each_map, each_prefixed, met}
use Rattle.wcsp.proofs.Grades.{gain_less, gain_concave, ones_or_and, ones_meet_less, ones_below, grade-present, grade-cons-le, grade-le}

pub data Resolvable : List ℕ → ℕ → List ℕ → List ℕ → Type 0 where
  here : {d S T : ℕ} {ds x y : List ℕ} → S < full d → T < full d → (bit_and S T ≡ S → ⊥) → (bit_and S T ≡ T → ⊥) → ValidClause ds (joined x y)
      → Resolvable (d ∷ ds) zero (S ∷ x) (T ∷ y)
  later : {d s : ℕ} {ds x y : List ℕ} → 0 < full d → Resolvable ds s x y → Resolvable (d ∷ ds) (suc s) (zero ∷ x) (zero ∷ y)

pub joined_valid : {ds x y : List ℕ} → ValidClause ds x → ValidClause ds y → clashing ds x y ≡ false → ValidClause ds (joined x y)
unfolding clashing joined
joined_valid nil nil e = nil
joined_valid (cons {a = d} {b = S} h v) (cons {b = T} k w) e =
    cons (union_below d S T h k (or_left (clash_at d S T) _ e)) (joined_valid v w (or_right (clash_at d S T) _ e))

absent_first : (S s : ℕ) (c : List ℕ) → bucket (S ∷ c) ≡ suc s → (S ≡ 0) × (bucket c ≡ s)
absent_first S s c e =
    let z : S ≡ 0 = (bucket_above s S c (omega arith)).0 in
    let f : bucket (0 ∷ c) ≡ suc s = rw z at e in
    (z, omega (arith, bucket_absent c))

permitted_later : (d S T s : ℕ) (ds x y : List ℕ) → S ≡ 0 → permitted (d ∷ ds) (suc s) (S ∷ x) (T ∷ y) ≡ true → permitted ds s x y ≡ true
unfolding permitted clashing present
permitted_later d S T s ds x y e h = rw e at h

pub resolvable : (s : ℕ) {ds x y : List ℕ} → ValidClause ds x → ValidClause ds y → s < length ds → bucket x ≡ s → bucket y ≡ s
    → permitted ds s x y ≡ true → Resolvable ds s x y
unfolding permitted clashing present
resolvable s nil nil l bx by e = absurd (omega arith)
resolvable zero (cons {b = S} h v) (cons {b = T} k w) l bx by e =
    let apart = different S T (not-true _ (and_left _ _ e)) in
    here h k (λ q. apart.left_meet (sym q)) (λ q. apart.right_meet (sym q))
    (joined_valid v w (not-true _ (and_right (not (nested S T)) _ e)))
resolvable (suc s) (cons {a = d} {b = S} {xs = ds} {ys = x} h v) (cons {b = T} {ys = y} k w) l bx by e =
    let ax = absent_first S s x bx in
    let ay = absent_first T s y by in
    let r : Resolvable ds s x y = resolvable s v w (omega arith) ax.1 ay.1 (permitted_later d S T s ds x y ax.0 e) in
    let l : 0 < full d = omega arith in
    rw (ax.0, ay.0) (later l r)

-- the first conclusion, which meets at s, is a valid clause
pub met_valid : {s : ℕ} {ds x y : List ℕ} → Resolvable ds s x y → ValidClause ds (met s x y)
unfolding joined
met_valid (here {d = d} {S = S} {T = T} h k m n v) = let l : bit_and S T < full d = omega (arith, and_le_l S T) in cons l v
met_valid (later h r) = cons h (met_valid r)

-- the grades of the clauses that a step takes and gives
pub record Lower (x y meet union : ℕ) : Type 0 where
  pub first : meet < x
  pub second : meet < y
  pub both : meet + union < x + y

nonzero : (S T : ℕ) → (bit_and S T ≡ S → ⊥) → S ≡ 0 → ⊥
nonzero S T h e = h (rw e)

pub lower : {s : ℕ} {ds x y : List ℕ} → Resolvable ds s x y → Lower (grade ds x) (grade ds y) (grade ds (met s x y)) (grade ds (joined x y))
unfolding joined grade
lower (here {d = d} {S = S} {T = T} {ds = ds} {x = x} {y = y} h k m n v) =
    let gx = grade-present d S ds x (nonzero S T m) in
    let gy = grade-present d T ds y (nonzero T S (λ e. n (and_comm S T ∙ e))) in
    let gm = grade-cons-le d (bit_and S T) ds (joined x y) (grade-le v) in
    let gj = grade-cons-le d (bit_or S T) ds (joined x y) (grade-le v) in
    let ls = ones_meet_less S T m in
    let lt : ones (bit_and S T) < ones T = rw (and_comm S T) (ones_meet_less T S (λ e. n (and_comm S T ∙ e))) in
    let gs = gain_less d (ones (bit_and S T)) (ones S) ls (ones_below d S (omega arith)) in
    let gt = gain_less d (ones (bit_and S T)) (ones T) lt (ones_below d T (omega arith)) in
    let gc =
    gain_concave d (ones (bit_and S T)) (ones (bit_or S T)) (ones S) (ones T) (ones_or_and S T) ls lt
    (ones_below d (bit_or S T) (or_le-full d S T (omega arith) (omega arith)))
    in
    record { first = omega arith; second = omega arith; both = omega arith }
lower (later h r) = lower r

-- a clause of group 3 or 4 has its premise's sign at the bucket's variable, and so its grade
pub kept : {s : ℕ} {ds x y : List ℕ} → Resolvable ds s x y
    → Each (λ c. grade ds c ≡ grade ds x) (excluding ds x (others s y)) × Each (λ c. grade ds c ≡ grade ds y) (excluding ds y (others s x))
unfolding excluding present grade
kept (here {d = d} {S = S} {T = T} {ds = ds} {x = x} {y = y} h k m n v) =
    let t = nonzero T S (λ e. n (and_comm S T ∙ e)) in (
      each_prefixed (bit_or S 0) (λ c. rw (or_zero_r S) (same-grade S x c (nonzero S T m))) (excluding ds x y),
      each_prefixed (bit_or T 0) (λ c. rw (or_zero_r T) (same-grade T y c t)) (excluding ds y x),
    )
  where
    same-grade : (U : ℕ) (z c : List ℕ) → (U ≡ 0 → ⊥) → grade (d ∷ ds) (U ∷ c) ≡ grade (d ∷ ds) (U ∷ z)
    same-grade U z c u = grade-present d U ds c u ∙ sym (grade-present d U ds z u)
kept (later h r) = let (a, b) = kept r in (each_map (λ c. zero ∷ c) (λ c e. e) a, each_map (λ c. zero ∷ c) (λ c e. e) b)
