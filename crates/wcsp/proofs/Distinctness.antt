-- The conclusions of a permitted pair differ from both premises and from each other.
-- Between groups the sign at s tells clauses apart, since neither premise's sign there contains the other.
-- Within a group, and against its premise, some value that neither sign has is brought in by the complement alone.
use Prim.Native.Nat.{ℕ, zero, suc, ◌<◌, ◌≤◌}
use native.Mathlib.Nat.{le_of_suc-le-suc}
use native.Mathlib.Omega.{arith}
use mathlib.Core.Path.{◌≡◌, refl, sym, ap, ap₂, ◌∙◌}
use mathlib.Core.Bool.{Bool, true, false, not, ◌&&◌, ◌||◌, cond, and-false, false≢true}
use mathlib.Core.List.{List, [], ◌∷◌, ◌++◌, map}
use lib.ListN.{length, get_or}
use lib.Seq.{get_or-set_same}
use lib.Bits.{bit_and, bit_or, and_comm, or_comm, or_zero_l, or_zero_r, and_self, and_le_l, and_le_r, or_add_and}
use lib.Dec.{eqb}
use borrow.Author.Tests.{eqb-true, eqb-false, not-true}
use Rattle.wcsp.specs.Sign.{has, full, complement, within, present}
use Rattle.wcsp.specs.Clause.{nil, cons, ValidClause, same}
use Rattle.wcsp.specs.Rule.{joined, others, excluding, conclusions, clashing, nested, permitted}
use Rattle.wcsp.specs.Theorems.{Apart, nil_apart, cons_apart, Distinct, nil_distinct, cons_distinct, DistinctConclusions}
use Rattle.wcsp.proofs.Signs.{has_or, has-complement, or_le-full, outside}
use Rattle.wcsp.proofs.Lists.{and_left, and_right, or_left, or_right, ne_same, along_length}
use Rattle.wcsp.proofs.Validity.{Each, nil_each, cons_each, each_append, each_map, each_prefixed, met, bounded_valid, joined_bounded, others_valid}

and_swap : (a b c : Bool) → (a && b && c) ≡ (b && a && c)
and_swap true true c = refl
and_swap true false c = refl
and_swap false true c = refl
and_swap false false c = refl

-- the signs clash at a variable of d values
abbrev pub clash_at : ℕ → ℕ → ℕ → Bool
clash_at d S T = present S && present T && eqb (bit_or S T) (full d)

-- which of two clauses comes first makes no clash
pub clashing_sym : (ds x y : List ℕ) → clashing ds x y ≡ clashing ds y x
unfolding clashing
clashing_sym [] x y = refl
clashing_sym (d ∷ ds) [] [] = refl
clashing_sym (d ∷ ds) [] (T ∷ y) = refl
clashing_sym (d ∷ ds) (S ∷ x) [] = refl
clashing_sym (d ∷ ds) (S ∷ x) (T ∷ y) =
    ap₂ (λ a b. a || b)
    (and_swap (present S) (present T) (eqb (bit_or S T) (full d)) ∙ ap (λ n. present T && present S && eqb n (full d)) (or_comm S T))
    (clashing_sym ds x y)

-- a variable absent from the one clause makes none, whatever the other has there
clashing-others : (s : ℕ) (ds x y : List ℕ) → clashing ds x (others s y) ≡ clashing ds (others s x) (others s y)
unfolding clashing present
clashing-others s [] x y = refl
clashing-others s (d ∷ ds) [] y = refl
clashing-others zero (d ∷ ds) (S ∷ x) [] = refl
clashing-others (suc s) (d ∷ ds) (S ∷ x) [] = refl
clashing-others zero (d ∷ ds) (S ∷ x) (T ∷ y) = rw and-false
clashing-others (suc s) (d ∷ ds) (S ∷ x) (T ∷ y) =
    ap (λ b. clash_at d S T || b) (clashing-others s ds x y)

-- ---- two signs at one variable

-- signs that are not nested differ from each other, from their meet and from their union
pub record Different (S T : ℕ) : Type 0 where
  pub sides : S ≡ T → ⊥
  pub left_meet : S ≡ bit_and S T → ⊥
  pub right_meet : T ≡ bit_and S T → ⊥
  pub left_union : S ≡ bit_or S T → ⊥
  pub right_union : T ≡ bit_or S T → ⊥
  pub meet_union : bit_and S T ≡ bit_or S T → ⊥

pub different : (S T : ℕ) → nested S T ≡ false → Different S T
unfolding nested within
different S T n =
    let l = eqb-false (bit_and S T) S (or_left _ _ n) in
    let r = eqb-false (bit_and T S) T (or_right (eqb (bit_and S T) S) _ n) in
    let c = and_comm S T in
    let sum = or_add_and S T in
    let ll = and_le_l S T in
    let lr = and_le_r S T in
    record {
      sides = λ e. l (ap (λ u. bit_and S u) (sym e) ∙ and_self S);
      left_meet = omega arith;
      right_meet = omega arith;
      left_union = omega arith;
      right_union = omega arith;
      meet_union = omega arith;
    }

-- with no clash the union is not full
pub union_below : (d S T : ℕ) → S < full d → T < full d → clash_at d S T ≡ false → bit_or S T < full d
unfolding present
union_below d S T hs ht n = go (eqb S 0) (eqb T 0) refl refl n
  where
    go : (a b : Bool) → eqb S 0 ≡ a → eqb T 0 ≡ b → (not a && not b && eqb (bit_or S T) (full d)) ≡ false → bit_or S T < full d
    go true b e f n = rw (eqb-true S 0 e, or_zero_l T) ht
    go false true e f n = rw (eqb-true T 0 f, or_zero_r S) hs
    go false false e f n =
        let k = eqb-false (bit_or S T) (full d) n in
        let l : bit_or S T ≤ full d = or_le-full d S T (omega arith) (omega arith) in omega arith

-- the complement then brings in a value that neither sign has
record Brought (d S T : ℕ) : Type 0 where
  premise : S ≡ bit_or S (complement d T) → ⊥
  union : bit_or S (complement d T) ≡ bit_or S T → ⊥

brought : (d S T : ℕ) → S < full d → T < full d → clash_at d S T ≡ false → Brought d S T
brought d S T hs ht n = go (outside d (bit_or S T) (union_below d S T hs ht n))
  where
    go : (v : ℕ) × (v < d) × (has (bit_or S T) v ≡ false) → Brought d S T
    go f =
        let v : ℕ = f.0 in
        let neither : (has S v || has T v) ≡ false = sym (has_or S T v) ∙ f.2 in
        let lacks : has S v ≡ false = or_left (has S v) (has T v) neither in
        let gained : has (bit_or S (complement d T)) v ≡ true =
        has_or S (complement d T) v
        ∙ ap₂ (λ a b. a || b) lacks
        (has-complement d T v (omega arith) f.1 ∙ ap not (or_right (has S v) (has T v) neither)) in
        record {
          premise = λ e. false≢true (sym lacks ∙ ap (λ u. has u v) e ∙ gained);
          union = λ e. false≢true (sym f.2 ∙ ap (λ u. has u v) (sym e) ∙ gained);
        }

-- ---- lists of clauses

-- every clause has the sign S at s
abbrev pub At : ℕ → ℕ → List (List ℕ) → Type 0
At s S cs = Each (λ c. get_or c s 0 ≡ S) cs

-- a clause with another sign at s
apart_at : {s S : ℕ} (c : List ℕ) {cs : List (List ℕ)} → (get_or c s 0 ≡ S → ⊥) → At s S cs → Apart c cs
apart_at c n nil_each = nil_apart
apart_at {s} c n (cons_each {c = b} e a) = cons_apart (ne_same c b (λ f. n (ap (λ u. get_or u s 0) f ∙ e))) (apart_at c n a)

apart_append : {c : List ℕ} {cs es : List (List ℕ)} → Apart c cs → Apart c es → Apart c (cs ++ es)
apart_append nil_apart b = b
apart_append (cons_apart e a) b = cons_apart e (apart_append a b)

-- a clause more, with another sign at s
apart_more : (s : ℕ) {c e : List ℕ} {cs : List (List ℕ)} → (get_or c s 0 ≡ get_or e s 0 → ⊥) → Apart c cs → Apart c (e ∷ cs)
apart_more s {c} {e} n a = cons_apart (ne_same c e (λ f. n (ap (λ u. get_or u s 0) f))) a

-- clauses that differ after their first sign, and clauses that differ there
apart_after : (S U : ℕ) {c : List ℕ} {cs : List (List ℕ)} → Apart c cs → Apart (S ∷ c) (map (λ e. U ∷ e) cs)
unfolding same
apart_after S U nil_apart = nil_apart
apart_after S U (cons_apart e a) = cons_apart (ap (λ t. eqb S U && t) e ∙ none (eqb S U)) (apart_after S U a)
  where
    none : (t : Bool) → (t && false) ≡ false
    none true = refl
    none false = refl

apart_first : (S U : ℕ) (c : List ℕ) (cs : List (List ℕ)) → (S ≡ U → ⊥) → Apart (S ∷ c) (map (λ e. U ∷ e) cs)
apart_first S U c [] n = nil_apart
apart_first S U c (b ∷ cs) n = apart_more 0 n (apart_first S U c cs n)

distinct_after : (U : ℕ) {cs : List (List ℕ)} → Distinct cs → Distinct (map (λ c. U ∷ c) cs)
distinct_after U nil_distinct = nil_distinct
distinct_after U (cons_distinct a t) = cons_distinct (apart_after U U a) (distinct_after U t)

distinct_append : (s S T : ℕ) {cs es : List (List ℕ)} → (S ≡ T → ⊥) → At s S cs → At s T es → Distinct cs → Distinct es → Distinct (cs ++ es)
distinct_append s S T n nil_each b nil_distinct q = q
distinct_append s S T n (cons_each {c = c} e a) b (cons_distinct p t) q =
    cons_distinct (apart_append p (apart_at c (λ f. n (sym e ∙ f)) b)) (distinct_append s S T n a b t q)

-- ---- the conclusions

pub joined_at : {ds x y : List ℕ} (s : ℕ) → ValidClause ds x → ValidClause ds y → s < length ds
    → get_or (joined x y) s 0 ≡ bit_or (get_or x s 0) (get_or y s 0)
unfolding joined
joined_at s nil nil h = absurd (omega arith)
joined_at zero (cons r a) (cons q b) h = refl
joined_at (suc s) (cons r a) (cons q b) h = joined_at s a b (le_of_suc-le-suc h)

pub met_at : {ds x y : List ℕ} (s : ℕ) → ValidClause ds x → ValidClause ds y → s < length ds
    → get_or (met s x y) s 0 ≡ bit_and (get_or x s 0) (get_or y s 0)
met_at {x = x} {y = y} s a b h =
    get_or-set_same (joined x y) s _ 0 (omega (arith, along_length (joined_bounded (bounded_valid a) (bounded_valid b))))

pub excluding-at : {ds x y : List ℕ} (s : ℕ) → ValidClause ds x → ValidClause ds y → s < length ds
    → At s (get_or x s 0) (excluding ds x (others s y))
unfolding excluding present
excluding-at s nil nil h = absurd (omega arith)
excluding-at zero (cons {b = S} {xs = ds} {ys = x} r a) (cons {ys = y} q b) h = each_prefixed (bit_or S 0) (λ c. or_zero_r S) (excluding ds x y)
excluding-at (suc s) (cons {a = d} {b = S} {ys = x} r a) (cons {b = T} q b) h =
    each_append (own (present T)) (each_map (λ c. bit_or S T ∷ c) (λ c e. e) (excluding-at s a b (le_of_suc-le-suc h)))
  where
    own : (t : Bool) → At (suc s) (get_or x s 0) (cond t ((bit_or S (complement d T) ∷ x) ∷ []) [])
    own true = cons_each refl nil_each
    own false = nil_each

-- the premise that the group keeps the sign of
excluding_apart : {ds x y : List ℕ} → ValidClause ds x → ValidClause ds y → clashing ds x y ≡ false → Apart x (excluding ds x y)
unfolding excluding clashing
excluding_apart nil nil n = nil_apart
excluding_apart (cons {a = d} {b = S} {ys = x} r a) (cons {b = T} q b) n =
    apart_append (own (present T)) (apart_after S (bit_or S T) (excluding_apart a b (or_right (clash_at d S T) _ n)))
  where
    own : (t : Bool) → Apart (S ∷ x) (cond t ((bit_or S (complement d T) ∷ x) ∷ []) [])
    own true = apart_more 0 (brought d S T r q (or_left (clash_at d S T) _ n)).premise nil_apart
    own false = nil_apart

excluding_distinct : {ds x y : List ℕ} → ValidClause ds x → ValidClause ds y → clashing ds x y ≡ false → Distinct (excluding ds x y)
unfolding excluding clashing
excluding_distinct nil nil n = nil_distinct
excluding_distinct (cons {a = d} {b = S} {xs = ds} {ys = x} r a) (cons {b = T} {ys = y} q b) n =
    own (present T) (distinct_after (bit_or S T) (excluding_distinct a b (or_right (clash_at d S T) _ n)))
  where
    own : (t : Bool) → Distinct (map (λ c. bit_or S T ∷ c) (excluding ds x y))
        → Distinct (cond t ((bit_or S (complement d T) ∷ x) ∷ []) [] ++ map (λ c. bit_or S T ∷ c) (excluding ds x y))
    own true t = cons_distinct (apart_first _ _ x (excluding ds x y) (brought d S T r q (or_left (clash_at d S T) _ n)).union) t
    own false t = t

pub distinct_conclusions : DistinctConclusions
unfolding conclusions permitted
distinct_conclusions ds s x y a b h m =
    cons_distinct first (cons_distinct second (cons_distinct meet (cons_distinct union
    (distinct_append s (get_or x s 0) (get_or y s 0) k.sides group3 group4 (excluding_distinct a b' n) (excluding_distinct b a' n')))))
  where
    a' : ValidClause ds (others s x)
    a' = others_valid s a

    b' : ValidClause ds (others s y)
    b' = others_valid s b

    k : Different (get_or x s 0) (get_or y s 0)
    k = different _ _ (not-true _ (and_left _ _ m))

    free : clashing ds (others s x) (others s y) ≡ false
    free = not-true _ (and_right (not (nested (get_or x s 0) (get_or y s 0))) _ m)

    n : clashing ds x (others s y) ≡ false
    n = clashing-others s ds x y ∙ free

    n' : clashing ds y (others s x) ≡ false
    n' = clashing-others s ds y x ∙ clashing_sym ds (others s y) (others s x) ∙ free

    meets : get_or (met s x y) s 0 ≡ bit_and (get_or x s 0) (get_or y s 0)
    meets = met_at s a b h

    joins : get_or (joined x y) s 0 ≡ bit_or (get_or x s 0) (get_or y s 0)
    joins = joined_at s a b h

    group3 : At s (get_or x s 0) (excluding ds x (others s y))
    group3 = excluding-at s a b h

    group4 : At s (get_or y s 0) (excluding ds y (others s x))
    group4 = excluding-at s b a h

    first : Apart x (y ∷ conclusions ds s x y)
    first = apart_more s k.sides (apart_more s (λ e. k.left_meet (e ∙ meets)) (apart_more s (λ e. k.left_union (e ∙ joins))
        (apart_append (excluding_apart a b' n) (apart_at x k.sides group4))))

    second : Apart y (conclusions ds s x y)
    second = apart_more s (λ e. k.right_meet (e ∙ meets)) (apart_more s (λ e. k.right_union (e ∙ joins))
        (apart_append (apart_at y (λ e. k.sides (sym e)) group3) (excluding_apart b a' n')))

    meet : Apart (met s x y) (joined x y ∷ (excluding ds x (others s y) ++ excluding ds y (others s x)))
    meet = apart_more s (λ e. k.meet_union (sym meets ∙ e ∙ joins))
        (apart_append (apart_at _ (λ e. k.left_meet (sym e ∙ meets)) group3) (apart_at _ (λ e. k.right_meet (sym e ∙ meets)) group4))

    union : Apart (joined x y) (excluding ds x (others s y) ++ excluding ds y (others s x))
    union = apart_append (apart_at _ (λ e. k.left_union (sym e ∙ joins)) group3) (apart_at _ (λ e. k.right_union (sym e ∙ joins)) group4)
