-- The value rebuilt at a variable of a table with no pair left is in range and lies in every sign that counts.
-- Any two of those signs are nested, else their rows would be a pair; so their meet is one of them, or full, and has a value.
use Prim.Native.Nat.{ℕ, zero, suc, ◌<◌, ◌≤◌, suc-le-suc}
use native.Mathlib.Nat.{le_refl, le_of_suc-le-suc}
use native.Mathlib.Omega.{arith}
use mathlib.Core.Path.{◌≡◌, refl, sym, ap, ◌∙◌}
use mathlib.Core.Logic.{◌⊎◌, inl, inr}
use mathlib.Core.Bool.{Bool, true, false, ◌&&◌, ◌||◌, or-true}
use mathlib.Core.List.{List, [], ◌∷◌}
use mathlib.Core.Option.{none}
use lib.ListN.{length, get_or, drop}
use lib.Bits.{bit_and, and_comm, and_le_l}
use lib.Pow.{pow_pos}
use lib.Dec.{eqb}
use borrow.Author.Tests.{eqb-true, eq-eqb}
use Rattle.wcsp.specs.Sign.{has, full, within}
use Rattle.wcsp.specs.Clause.{InRange, AllPositive, nil_positive, cons_positive, falsifies, bucket}
use Rattle.wcsp.specs.Row.{Row, ValidRows}
use Rattle.wcsp.specs.Rule.{others, nested, clashing, permitted}
use Rattle.wcsp.specs.Resolve.{next_pair}
use Rattle.wcsp.specs.Rebuild.{counts, narrowed, rebuilt_value}
use Rattle.wcsp.proofs.Signs.{has_and, has-full, sign_ext, and_le-full, lowest-has}
use Rattle.wcsp.proofs.Lists.{and_left, and_right, along_length, along_at}
use Rattle.wcsp.proofs.Validity.{valid_signs_lem}
use Rattle.wcsp.proofs.PairSearch.{signs_at}
use Rattle.wcsp.proofs.NextPair.{none_left}
use Rattle.wcsp.proofs.Buckets.{bucket_sign, no_clash}

-- ---- nested signs

-- the meet of nested signs is one of them
pub nested_meet : (S T : ℕ) → nested S T ≡ true → (bit_and S T ≡ S) ⊎ (bit_and S T ≡ T)
unfolding nested within
nested_meet S T e = go (eqb (bit_and S T) S) refl e
  where
    go : (b : Bool) → eqb (bit_and S T) S ≡ b → (b || eqb (bit_and T S) T) ≡ true → (bit_and S T ≡ S) ⊎ (bit_and S T ≡ T)
    go true f h = inl (eqb-true (bit_and S T) S f)
    go false f h = inr (and_comm S T ∙ eqb-true (bit_and T S) T h)

-- every sign of d values is nested with the full one
pub nested-full : (d T : ℕ) → T ≤ full d → nested (full d) T ≡ true
unfolding nested within
nested-full d T h = rw (eq-eqb (bit_and T (full d)) T meet) (or-true (eqb (bit_and (full d) T) (full d)))
  where
    drops : (b c : Bool) → c ≡ true → (b && c) ≡ b
    drops true c e = e
    drops false c e = refl

    meet : bit_and T (full d) ≡ T
    meet = sign_ext d (bit_and T (full d)) T (and_le-full d T (full d) h (le_refl (full d))) h
        (λ v l. has_and T (full d) v ∙ drops (has T v) (has (full d) v) (has-full d v l))

pub full_positive : (d : ℕ) → 0 < d → 0 < full d
unfolding full
full_positive zero h = h
full_positive (suc d) h = let p = pow_pos d in omega arith

pub positive_at : {ds : List ℕ} → AllPositive ds → (k : ℕ) → k < length ds → 0 < get_or ds k 0
positive_at nil_positive k h = absurd (omega arith)
positive_at (cons_positive p a) zero h = p
positive_at (cons_positive p a) (suc k) h = positive_at a k (le_of_suc-le-suc h)

-- ---- the signs that count, met

-- the sign of row i at k
abbrev sign_at : ℕ → List Row → ℕ → ℕ
sign_at k rs i = get_or (signs_at rs i) k 0

module _ (k : ℕ) (q : List ℕ) where
  narrowed_yes : (S : ℕ) (r : Row) (rs : List Row) → counts k q r.signs ≡ true
      → narrowed k q S (r ∷ rs) ≡ narrowed k q (bit_and S (get_or r.signs k 0)) rs
  unfolding narrowed
  narrowed_yes S r rs e = rw e

  narrowed_no : (S : ℕ) (r : Row) (rs : List Row) → counts k q r.signs ≡ false → narrowed k q S (r ∷ rs) ≡ narrowed k q S rs
  unfolding narrowed
  narrowed_no S r rs e = rw e

  narrowed-nil : (S : ℕ) → narrowed k q S [] ≡ S
  unfolding narrowed
  narrowed-nil S = refl

  -- narrowing takes values away
  pub narrowed-le : (S : ℕ) (rs : List Row) → narrowed k q S rs ≤ S
  narrowed-le S [] = rw narrowed-nil (le_refl S)
  narrowed-le S (r ∷ rs) = go (counts k q r.signs) refl (narrowed-le S rs) (narrowed-le (bit_and S (get_or r.signs k 0)) rs)
    where
      go : (b : Bool) → counts k q r.signs ≡ b → narrowed k q S rs ≤ S
          → narrowed k q (bit_and S (get_or r.signs k 0)) rs ≤ bit_and S (get_or r.signs k 0) → narrowed k q S (r ∷ rs) ≤ S
      go true e m n = rw (narrowed_yes S r rs e) (omega (arith, and_le_l S (get_or r.signs k 0)))
      go false e m n = rw (narrowed_no S r rs e) m

  -- what is left lies in the sign at the start and in every sign that counts
  pub narrowed_start : (S v : ℕ) (rs : List Row) → has (narrowed k q S rs) v ≡ true → has S v ≡ true
  narrowed_start S v [] h = rw narrowed-nil at h
  narrowed_start S v (r ∷ rs) h =
      go (counts k q r.signs) refl (narrowed_start S v rs) (narrowed_start (bit_and S (get_or r.signs k 0)) v rs)
    where
      T : ℕ
      T = get_or r.signs k 0

      go : (b : Bool) → counts k q r.signs ≡ b → (has (narrowed k q S rs) v ≡ true → has S v ≡ true)
          → (has (narrowed k q (bit_and S T) rs) v ≡ true → has (bit_and S T) v ≡ true) → has S v ≡ true
      go true e m n =
          and_left (has S v) (has T v) (sym (has_and S T v) ∙ n (ap (λ x. has x v) (sym (narrowed_yes S r rs e)) ∙ h))
      go false e m n = m (ap (λ x. has x v) (sym (narrowed_no S r rs e)) ∙ h)

  pub narrowed_in : (S v : ℕ) (rs : List Row) (i : ℕ) → i < length rs → counts k q (signs_at rs i) ≡ true
      → has (narrowed k q S rs) v ≡ true → has (sign_at k rs i) v ≡ true
  narrowed_in S v [] i l c h = absurd (omega arith)
  narrowed_in S v (r ∷ rs) zero l c h =
      and_right (has S v) (has (get_or r.signs k 0) v)
      (sym (has_and S (get_or r.signs k 0) v)
      ∙ narrowed_start (bit_and S (get_or r.signs k 0)) v rs (ap (λ x. has x v) (sym (narrowed_yes S r rs c)) ∙ h))
  narrowed_in S v (r ∷ rs) (suc i) l c h =
      go (counts k q r.signs) refl (λ T. narrowed_in T v rs i (le_of_suc-le-suc l) c)
    where
      go : (b : Bool) → counts k q r.signs ≡ b → ((T : ℕ) → has (narrowed k q T rs) v ≡ true → has (sign_at k rs i) v ≡ true)
          → has (sign_at k rs i) v ≡ true
      go true e n = n (bit_and S (get_or r.signs k 0)) (ap (λ x. has x v) (sym (narrowed_yes S r rs e)) ∙ h)
      go false e n = n S (ap (λ x. has x v) (sym (narrowed_no S r rs e)) ∙ h)

  -- S is nested with every sign that counts
  abbrev NestedWith : ℕ → List Row → Type 0
  NestedWith S rs = (i : ℕ) → i < length rs → counts k q (signs_at rs i) ≡ true → nested S (sign_at k rs i) ≡ true

  -- the signs that count are present, and any two are nested
  record Chain (rs : List Row) : Type 0 where
    here : (i : ℕ) → i < length rs → counts k q (signs_at rs i) ≡ true → 0 < sign_at k rs i
    pairwise : (i j : ℕ) → i < j → j < length rs → counts k q (signs_at rs i) ≡ true → counts k q (signs_at rs j) ≡ true
        → nested (sign_at k rs i) (sign_at k rs j) ≡ true

  -- so something is left of them
  narrowed_positive : (S : ℕ) (rs : List Row) → 0 < S → NestedWith S rs → Chain rs → 0 < narrowed k q S rs
  narrowed_positive S [] p n c = rw narrowed-nil p
  narrowed_positive S (r ∷ rs) p n c =
      go (counts k q r.signs) refl (λ T. narrowed_positive T rs)
    where
      T : ℕ
      T = get_or r.signs k 0

      tail : Chain rs
      tail = record {
        here = λ i l. c.here (suc i) (suc-le-suc l);
        pairwise = λ i j o l. c.pairwise (suc i) (suc j) (suc-le-suc o) (suc-le-suc l);
      }

      met : counts k q r.signs ≡ true → ((U : ℕ) → 0 < U → NestedWith U rs → Chain rs → 0 < narrowed k q U rs)
          → (bit_and S T ≡ S) ⊎ (bit_and S T ≡ T) → 0 < narrowed k q (bit_and S T) rs
      met e ih (inl f) = rw f (ih S p (λ i l. n (suc i) (suc-le-suc l)) tail)
      met e ih (inr f) = rw f
          (ih T (c.here 0 (omega arith) e) (λ i l. c.pairwise 0 (suc i) (omega arith) (suc-le-suc l) e) tail)

      go : (b : Bool) → counts k q r.signs ≡ b → ((U : ℕ) → 0 < U → NestedWith U rs → Chain rs → 0 < narrowed k q U rs)
          → 0 < narrowed k q S (r ∷ rs)
      go true e ih = rw (narrowed_yes S r rs e) (met e ih (nested_meet S T (n 0 (omega arith) e)))
      go false e ih = rw (narrowed_no S r rs e) (ih S p (λ i l. n (suc i) (suc-le-suc l)) tail)

-- ---- the rebuilt value

counted : (k : ℕ) (q c : List ℕ) → counts k q c ≡ true → (bucket c ≡ k) × (falsifies q (drop (suc k) c) ≡ true)
unfolding counts
counted k q c e = (
  eqb-true (bucket c) k (and_left (eqb (bucket c) k) (falsifies q (drop (suc k) c)) e),
  and_right (eqb (bucket c) k) (falsifies q (drop (suc k) c)) e,
)

module _ (ds : List ℕ) (rs : List Row) (valid : ValidRows ds rs) (k : ℕ) (q : List ℕ) (known : k < length ds)
    (above : InRange (drop (suc k) ds) q) where
  present-at : (i : ℕ) → i < length rs → counts k q (signs_at rs i) ≡ true → 0 < sign_at k rs i
  present-at i l e =
      let b = (counted k q (signs_at rs i) e).0 in
      let n = along_length (valid_signs_lem i valid l) in
      rw b at (bucket_sign (signs_at rs i) (omega arith))

  nested_pair : next_pair ds rs ≡ none → (i j : ℕ) → i < j → j < length rs → counts k q (signs_at rs i) ≡ true
      → counts k q (signs_at rs j) ≡ true → nested (sign_at k rs i) (sign_at k rs j) ≡ true
  unfolding permitted
  nested_pair done i j o l e f = go (nested (sign_at k rs i) (sign_at k rs j)) refl
    where
      one : (bucket (signs_at rs i) ≡ k) × (falsifies q (drop (suc k) (signs_at rs i)) ≡ true)
      one = counted k q (signs_at rs i) e

      two : (bucket (signs_at rs j) ≡ k) × (falsifies q (drop (suc k) (signs_at rs j)) ≡ true)
      two = counted k q (signs_at rs j) f

      free : clashing ds (others k (signs_at rs i)) (others k (signs_at rs j)) ≡ false
      free = let b = one.0 in no_clash k ds q (signs_at rs i) (signs_at rs j) above (omega arith) one.1 two.1

      go : (b : Bool) → nested (sign_at k rs i) (sign_at k rs j) ≡ b → b ≡ true
      go true g = refl
      go false g = absurd
          ((none_left ds rs).0 done (record { variable = k; first = i; second = j })
          (record {
            pair = record { ordered = o; in_table = l; known = known; may = rw (g, free) };
            first_in = one.0;
            second_in = two.0;
          }))

  module _ (positive : AllPositive ds) (done : next_pair ds rs ≡ none) where
    left_over : 0 < narrowed k q (full (get_or ds k 0)) rs
    left_over = narrowed_positive k q (full (get_or ds k 0)) rs (full_positive (get_or ds k 0) (positive_at positive k known))
        (λ i l e. nested-full (get_or ds k 0) (sign_at k rs i) (let h = along_at (valid_signs_lem i valid l) k known in omega arith))
        (record { here = present-at; pairwise = nested_pair done })

    lowest_left : (rebuilt_value ds rs k q < get_or ds k 0)
        × (has (narrowed k q (full (get_or ds k 0)) rs) (rebuilt_value ds rs k q) ≡ true)
    unfolding rebuilt_value
    lowest_left = lowest-has (get_or ds k 0) (narrowed k q (full (get_or ds k 0)) rs) left_over (narrowed-le k q (full (get_or ds k 0)) rs)

    pub value_in_range : rebuilt_value ds rs k q < get_or ds k 0
    value_in_range = lowest_left.0

    pub value_in_signs : (i : ℕ) → i < length rs → counts k q (signs_at rs i) ≡ true → has (get_or (signs_at rs i) k 0) (rebuilt_value ds rs k q) ≡ true
    value_in_signs i l e = narrowed_in k q (full (get_or ds k 0)) (rebuilt_value ds rs k q) rs i l e lowest_left.1
