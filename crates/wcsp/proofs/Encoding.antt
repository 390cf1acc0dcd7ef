-- The encoding: its rows are valid, and every assignment in range falsifies exactly its cost. The clause of an entry is falsified
-- where the assignment has all the bindings, since their variables rise and so each is set where the sign is still 0.
use Prim.Native.Nat.{ℕ, zero, suc, ◌+◌, ◌-◌, ◌*◌, ◌^◌, ◌<◌, ◌≤◌}
use mathlib.Core.Path.{◌≡◌, refl, sym, ◌∙◌}
use mathlib.Core.Bool.{Bool, true, false, not, ◌&&◌, cond}
use mathlib.Core.List.{List, [], ◌∷◌}
use native.Mathlib.Omega.{arith}
use lib.ListN.{length, get_or, set, replicate}
use lib.Seq.{get_or-set_other}
use lib.Dec.{eqb}
use borrow.Author.Tests.{eqb-true, eqb-false, eq-eqb, ne_eqb}
use Rattle.wcsp.specs.Sign.{has, full}
use Rattle.wcsp.specs.Clause.{Along, nil, cons, InRange, falsifies}
use Rattle.wcsp.specs.Row.{Row, falsified, add, ValidRows, nil_rows}
use Rattle.wcsp.specs.Entry.{Binding, Entry, matches, cost, Rising, nil_rising, cons_rising, WellFormed, nil_entries, cons_entries, clause_of, encode_onto, encoded}
use Rattle.wcsp.specs.Theorems.{EncodingValid, EncodingExact}
use Rattle.wcsp.proofs.Signs.{has-zero, has_but_one}
use Rattle.wcsp.proofs.Lists.{along_length, along_at}
use Rattle.wcsp.proofs.EmptyRow.{falsifies_empty}
use Rattle.wcsp.proofs.Validity.{Bounded, valid_add}
use Rattle.wcsp.proofs.Falsified.{hit, falsified-add}

zeros_bounded : (ds : List ℕ) → Bounded ds (replicate (length ds) 0)
zeros_bounded [] = nil
zeros_bounded (d ∷ ds) = let h : 0 ≤ full d = omega arith in cons h (zeros_bounded ds)

-- one place of the second list changed
pub along_set : {R : ℕ → ℕ → Type 0} {xs ys : List ℕ} (i v : ℕ) → Along R xs ys → R (get_or xs i 0) v → Along R xs (set ys i v)
along_set i v nil h = nil
along_set zero v (cons k t) h = cons h t
along_set (suc i) v (cons k t) h = cons k (along_set i v t h)

pub clause_bounded : (ds : List ℕ) (bs : List Binding) → Bounded ds (clause_of ds bs)
unfolding clause_of
clause_bounded ds [] = zeros_bounded ds
clause_bounded ds (b ∷ bs) =
    let h : full (get_or ds b.variable 0) - 2 ^ b.value ≤ full (get_or ds b.variable 0) = omega arith in
    along_set b.variable (full (get_or ds b.variable 0) - 2 ^ b.value) (clause_bounded ds bs) h

valid_onto : (ds : List ℕ) (rs : List Row) (es : List Entry) → ValidRows ds rs → ValidRows ds (encode_onto ds rs es)
unfolding encode_onto
valid_onto ds rs [] v = v
valid_onto ds rs (e ∷ es) v =
    valid_onto ds (cond (eqb e.cost 0) rs (add ds e.cost rs (clause_of ds e.bindings))) es (go (eqb e.cost 0) refl)
  where
    go : (b : Bool) → eqb e.cost 0 ≡ b → ValidRows ds (cond b rs (add ds e.cost rs (clause_of ds e.bindings)))
    go true k = v
    go false k =
        let p : 0 < e.cost = omega (arith, eqb-false e.cost 0 k) in
        valid_add e.cost (clause_of ds e.bindings) p (clause_bounded ds e.bindings) v

pub encoding_valid : EncodingValid
unfolding encoded
encoding_valid ds es a w = valid_onto ds [] es nil_rows

-- a sign set where there was none: falsified if its variable's value lies outside it and the rest is
falsifies-set : (p c : List ℕ) (i S : ℕ) → i < length p → i < length c → get_or c i 0 ≡ 0
    → falsifies p (set c i S) ≡ (not (has S (get_or p i 0)) && falsifies p c)
unfolding falsifies
falsifies-set [] c i S h k e = absurd (omega arith)
falsifies-set (v ∷ p) [] i S h k e = absurd (omega arith)
falsifies-set (v ∷ p) (T ∷ c) zero S h k e = rw (e, has-zero v)
falsifies-set (v ∷ p) (T ∷ c) (suc i) S h k e =
    rw (falsifies-set p c i S (omega arith) (omega arith) e) (swap (not (has T v)) (not (has S (get_or p i 0))) (falsifies p c))
  where
    swap : (a b c : Bool) → (a && (b && c)) ≡ (b && (a && c))
    swap true true c = refl
    swap true false c = refl
    swap false true c = refl
    swap false false c = refl

zeros_at : (n i : ℕ) → ◌≡◌ {A = ℕ} (get_or (replicate n 0) i 0) 0
zeros_at zero i = refl
zeros_at (suc n) zero = refl
zeros_at (suc n) (suc i) = zeros_at n i

-- below the lowest bound variable the clause has no sign
clause_below : {ds : List ℕ} {k : ℕ} {bs : List Binding} → Rising ds k bs → (i : ℕ) → i < k → get_or (clause_of ds bs) i 0 ≡ 0
unfolding clause_of
clause_below {ds} nil_rising i h = zeros_at (length ds) i
clause_below {ds} (cons_rising {b = b} {bs = bs} l m n r) i h =
    get_or-set_other (clause_of ds bs) b.variable i (full (get_or ds b.variable 0) - 2 ^ b.value) 0 (omega arith)
    ∙ clause_below r i (omega arith)

-- the values that the sign of a binding leaves out: the bound one
but_one : (d v w : ℕ) → v < d → w < d → not (has (full d - 2 ^ v) w) ≡ eqb w v
but_one d v w h k = rw (has_but_one d v w h k) (go (eqb v w) refl)
  where
    go : (b : Bool) → eqb v w ≡ b → not (not b) ≡ eqb w v
    go true e = sym (eq-eqb w v (sym (eqb-true v w e)))
    go false e = sym (ne_eqb w v (λ x. eqb-false v w e (sym x)))

pub clause_matches : {ds p : List ℕ} {k : ℕ} {bs : List Binding} → InRange ds p → Rising ds k bs
    → falsifies p (clause_of ds bs) ≡ matches p bs
unfolding clause_of matches
clause_matches {ds} {p} r nil_rising = falsifies_empty p (length ds)
clause_matches {ds} {p} r (cons_rising {b = b} {bs = bs} l m n q) =
    let len : length ds ≡ length p = along_length r in
    let len' : length ds ≡ length (clause_of ds bs) = along_length (clause_bounded ds bs) in
    rw (
      falsifies-set
          p
          (clause_of ds bs)
          b.variable
          (full (get_or ds b.variable 0) - 2 ^ b.value)
          (omega arith)
          (omega arith)
          (clause_below q b.variable (omega arith)),
      but_one (get_or ds b.variable 0) b.value (get_or p b.variable 0) n (along_at r b.variable m),
      clause_matches r q,
    )

scaled : (b : Bool) (n : ℕ) → n * cond b 1 0 ≡ cond b n 0
scaled true n = omega arith
scaled false n = omega arith

clause_cost : {ds p : List ℕ} {k : ℕ} {bs : List Binding} → InRange ds p → Rising ds k bs → (u : ℕ)
    → u * hit p (clause_of ds bs) ≡ cond (matches p bs) u 0
unfolding hit
clause_cost {p = p} {bs = bs} r q u = rw (clause_matches r q) (scaled (matches p bs) u)

exact_onto : {ds p : List ℕ} {es : List Entry} → InRange ds p → (rs : List Row) → WellFormed ds es
    → falsified p (encode_onto ds rs es) ≡ falsified p rs + cost es p
unfolding encode_onto cost
exact_onto r rs nil_entries = omega arith
exact_onto {ds} {p} r rs (cons_entries {e = e} {es = es} q w) =
    omega (arith, exact_onto r (cond (eqb e.cost 0) rs (add ds e.cost rs (clause_of ds e.bindings))) w, go (eqb e.cost 0) refl)
  where
    nothing : (b : Bool) → e.cost ≡ 0 → cond b e.cost 0 ≡ 0
    nothing true k = k
    nothing false k = refl

    go : (b : Bool) → eqb e.cost 0 ≡ b → falsified p (cond b rs (add ds e.cost rs (clause_of ds e.bindings)))
        ≡ falsified p rs + cond (matches p e.bindings) e.cost 0
    go true k = omega (arith, nothing (matches p e.bindings) (eqb-true e.cost 0 k))
    go false k = omega (arith, falsified-add r e.cost rs (clause_of ds e.bindings), clause_cost r q e.cost)

pub encoding_exact : EncodingExact
unfolding encoded falsified
encoding_exact ds es p w r = omega (arith, exact_onto r [] w)
