-- A clause that goes with no row of its bucket goes with none after a step there: what bars it from a premise bars it from the conclusions.
-- Besides the step's variable a conclusion holds the signs of a premise, so a union that was full stays full; at the variable it has a premise's
-- own sign, or the meet or the union of both, which nest with every sign that nests with both.
use Prim.Native.Nat.{ℕ, zero, suc, ◌<◌, ◌≤◌}
use native.Mathlib.Omega.{arith}
use mathlib.Core.Path.{◌≡◌, refl, sym, ap, ◌∙◌}
use mathlib.Core.Logic.{◌⊎◌, inl, inr}
use mathlib.Core.Bool.{Bool, true, false, not, ◌&&◌, ◌||◌, cond, false≢true}
use mathlib.Core.List.{List, [], ◌∷◌}
use lib.ListN.{length, get_or}
use lib.Seq.{set-set}
use lib.Bits.{bit_and, bit_or, or_zero_r}
use lib.Dec.{eqb}
use borrow.Author.Tests.{eqb-true, eqb-false, eq-eqb, not-true}
use Rattle.wcsp.specs.Sign.{has, full, complement, within, present}
use Rattle.wcsp.specs.Clause.{ValidClause, nil, cons, bucket}
use Rattle.wcsp.specs.Row.{Row, ValidRows}
use Rattle.wcsp.specs.Rule.{joined, others, excluding, conclusions, clashing, nested, permitted}
use Rattle.wcsp.specs.Resolve.{Pair, candidate, moved_weight, conclusions_of, resolve}
use Rattle.wcsp.specs.Theorems.{CandidatePair}
use Rattle.wcsp.proofs.Signs.{has-full, has_or, has_and, within_has, or_le-full, and_le-full, complement-le-full, sign_ext}
use Rattle.wcsp.proofs.Lists.{and_left, and_right, both_true, along_at}
use Rattle.wcsp.proofs.Validity.{Each, nil_each, cons_each, each_append, each_map, Bounded, bounded_valid, met, others_bounded, others_valid, valid_signs_lem}
use Rattle.wcsp.proofs.Distinctness.{clash_at, At, joined_at, met_at, excluding-at}
use Rattle.wcsp.proofs.NextPair.{candidate-goes, goes-candidate}
use Rattle.wcsp.proofs.Adding.{kept_each}
use Rattle.wcsp.proofs.AsWritten.{kept_of, resolve_as_written}
use Rattle.wcsp.proofs.Settled.{Alone, alone_at, alone_lessen, alone_raised, alone_fresh, alone_append, each_weaken}

-- ---- one sign in another, value by value

abbrev Inside : ℕ → ℕ → Type 0
Inside S T = (v : ℕ) → has S v ≡ true → has T v ≡ true

either : (a b : Bool) → (a || b) ≡ true → (a ≡ true) ⊎ (b ≡ true)
either true b e = inl refl
either false b e = inr e

or_here : (a b : Bool) → a ≡ true → (a || b) ≡ true
or_here a b e = rw e

or_there : (a b : Bool) → b ≡ true → (a || b) ≡ true
or_there true b e = refl
or_there false b e = e

module _ (S T : ℕ) where
  inside_left : Inside S (bit_or S T)
  inside_left v e = has_or S T v ∙ or_here (has S v) (has T v) e

  inside_right : Inside T (bit_or S T)
  inside_right v e = has_or S T v ∙ or_there (has S v) (has T v) e

  -- the meet lies in either sign
  meet_inside : (U : ℕ) → Inside S U → Inside (bit_and S T) U
  meet_inside U f v e = f v (and_left (has S v) (has T v) (sym (has_and S T v) ∙ e))

  inside_meet : (U : ℕ) → Inside U S → Inside U T → Inside U (bit_and S T)
  inside_meet U f g v e = has_and S T v ∙ both_true (has S v) (has T v) (f v e) (g v e)

  union_inside : (U : ℕ) → Inside S U → Inside T U → Inside (bit_or S T) U
  union_inside U f g v e = go (either (has S v) (has T v) (sym (has_or S T v) ∙ e))
    where
      go : (has S v ≡ true) ⊎ (has T v ≡ true) → has U v ≡ true
      go (inl p) = f v p
      go (inr p) = g v p

same_values : (a b : Bool) → (a ≡ true → b ≡ true) → (b ≡ true → a ≡ true) → a ≡ b
same_values true true f g = refl
same_values true false f g = sym (f refl)
same_values false true f g = g refl
same_values false false f g = refl

inside_within : (d S T : ℕ) → S ≤ full d → T ≤ full d → Inside S T → within S T ≡ true
unfolding within
inside_within d S T h k f =
    eq-eqb (bit_and S T) S
    (sign_ext d (bit_and S T) S (and_le-full d S T h k) h
    (λ v l. has_and S T v
    ∙ same_values (has S v && has T v) (has S v) (λ e. and_left (has S v) (has T v) e) (λ e. both_true (has S v) (has T v) e (f v e))))

-- a union that is full stays so with a greater sign
full_inside : (d U S T : ℕ) → U ≤ full d → T ≤ full d → Inside S T → bit_or U S ≡ full d → bit_or U T ≡ full d
full_inside d U S T h k f e =
    sign_ext d (bit_or U T) (full d) (or_le-full d U T h k) (omega arith)
    (λ v l. has_all v (either (has U v) (has S v) (sym (has_or U S v) ∙ ap (λ n. has n v) e ∙ has-full d v l)) ∙ sym (has-full d v l))
  where
    has_all : (v : ℕ) → (has U v ≡ true) ⊎ (has S v ≡ true) → has (bit_or U T) v ≡ true
    has_all v (inl p) = inside_left U T v p
    has_all v (inr p) = inside_right U T v (f v p)

-- ---- signs that nest

nested_either : (U S : ℕ) → nested U S ≡ true → Inside U S ⊎ Inside S U
unfolding nested
nested_either U S e = go (either (within U S) (within S U) e)
  where
    go : (within U S ≡ true) ⊎ (within S U ≡ true) → Inside U S ⊎ Inside S U
    go (inl w) = inl (λ v p. within_has U S v w p)
    go (inr w) = inr (λ v p. within_has S U v w p)

either_nested : (d U S : ℕ) → U ≤ full d → S ≤ full d → Inside U S ⊎ Inside S U → nested U S ≡ true
unfolding nested
either_nested d U S h k (inl f) = or_here (within U S) (within S U) (inside_within d U S h k f)
either_nested d U S h k (inr f) = or_there (within U S) (within S U) (inside_within d S U k h f)

-- a sign that nests with two that do not nest lies in both or holds both
data Beside (U S T : ℕ) : Type 0 where
  in_both : Inside U S → Inside U T → Beside U S T
  of_both : Inside S U → Inside T U → Beside U S T

beside : (d U S T : ℕ) → S ≤ full d → T ≤ full d → nested S T ≡ false → nested U S ≡ true → nested U T ≡ true → Beside U S T
beside d U S T h k n e f = go (nested_either U S e) (nested_either U T f)
  where
    never : Inside S T ⊎ Inside T S → ⊥
    never i = false≢true (sym n ∙ either_nested d S T h k i)

    go : Inside U S ⊎ Inside S U → Inside U T ⊎ Inside T U → Beside U S T
    go (inl p) (inl q) = in_both p q
    go (inl p) (inr q) = absurd (never (inr (λ v e. p v (q v e))))
    go (inr p) (inl q) = absurd (never (inl (λ v e. q v (p v e))))
    go (inr p) (inr q) = of_both p q

module _ (d U S T : ℕ) (l : U ≤ full d) (h : S ≤ full d) (k : T ≤ full d) where
  meet_nested : Beside U S T → nested U (bit_and S T) ≡ true
  meet_nested (in_both p q) = either_nested d U (bit_and S T) l (and_le-full d S T h k) (inl (inside_meet S T U p q))
  meet_nested (of_both p q) = either_nested d U (bit_and S T) l (and_le-full d S T h k) (inr (meet_inside S T U p))

  union_nested : Beside U S T → nested U (bit_or S T) ≡ true
  union_nested (in_both p q) = either_nested d U (bit_or S T) l (or_le-full d S T h k) (inl (λ v e. inside_left S T v (p v e)))
  union_nested (of_both p q) = either_nested d U (bit_or S T) l (or_le-full d S T h k) (inr (union_inside S T U p q))

-- ---- clauses that hold another

-- the signs of x lie in those of c
data Holding : List ℕ → List ℕ → List ℕ → Type 0 where
  nil_holding : Holding [] [] []
  cons_holding : {d S T : ℕ} {ds x c : List ℕ} → Inside S T → T ≤ full d → Holding ds x c → Holding (d ∷ ds) (S ∷ x) (T ∷ c)

holding_others : (s : ℕ) {ds x c : List ℕ} → Holding ds x c → Holding ds (others s x) (others s c)
holding_others s nil_holding = nil_holding
holding_others zero (cons_holding {d = d} f l h) = let z : 0 ≤ full d = omega arith in cons_holding (λ v e. e) z h
holding_others (suc s) (cons_holding f l h) = cons_holding f l (holding_others s h)

union_holds_first : {ds x y : List ℕ} → Bounded ds x → Bounded ds y → Holding ds x (joined x y)
unfolding joined
union_holds_first nil nil = nil_holding
union_holds_first (cons {a = d} {b = S} h a) (cons {b = T} k b) =
    cons_holding (inside_left S T) (or_le-full d S T h k) (union_holds_first a b)

union_holds_second : {ds x y : List ℕ} → Bounded ds x → Bounded ds y → Holding ds y (joined x y)
unfolding joined
union_holds_second nil nil = nil_holding
union_holds_second (cons {a = d} {b = S} h a) (cons {b = T} k b) =
    cons_holding (inside_right S T) (or_le-full d S T h k) (union_holds_second a b)

holds_itself : {ds x : List ℕ} → Bounded ds x → Holding ds x x
holds_itself nil = nil_holding
holds_itself (cons h a) = cons_holding (λ v e. e) h (holds_itself a)

excluding_holds : {ds x y : List ℕ} → Bounded ds x → Bounded ds y → Each (Holding ds x) (excluding ds x y)
unfolding excluding
excluding_holds nil nil = nil_each
excluding_holds (cons {a = d} {b = S} {xs = ds} {ys = x} h a) (cons {b = T} k b) =
    each_append (one (present T))
    (each_map (λ c. bit_or S T ∷ c) (λ c q. cons_holding (inside_left S T) (or_le-full d S T h k) q) (excluding_holds a b))
  where
    one : (t : Bool) → Each (Holding (d ∷ ds) (S ∷ x)) (cond t ((bit_or S (complement d T) ∷ x) ∷ []) [])
    one true =
        cons_each (cons_holding (inside_left S (complement d T)) (or_le-full d S (complement d T) h (complement-le-full d T)) (holds_itself a)) nil_each
    one false = nil_each

-- ---- what bars a clause

clash_at_lem : (d U S T : ℕ) → U < full d → T ≤ full d → Inside S T → clash_at d U S ≡ true → clash_at d U T ≡ true
unfolding present
clash_at_lem d U S T h k f e =
    let p = and_left (present U && present S) (eqb (bit_or U S) (full d)) e in
    both_true (present U && present T) (eqb (bit_or U T) (full d))
    (both_true (present U) (present T) (and_left (present U) (present S) p) (there (eqb T 0) refl)) (eq-eqb (bit_or U T) (full d) whole)
  where
    whole : bit_or U T ≡ full d
    whole = full_inside d U S T (omega arith) k f
        (eqb-true (bit_or U S) (full d) (and_right (present U && present S) (eqb (bit_or U S) (full d)) e))

    -- U alone is not full
    there : (b : Bool) → eqb T 0 ≡ b → not b ≡ true
    there true q = absurd (let z : bit_or U T ≡ U = ap (bit_or U) (eqb-true T 0 q) ∙ or_zero_r U in omega (arith, whole))
    there false q = refl

clash_held : {ds z x c : List ℕ} → ValidClause ds z → Holding ds x c → clashing ds z x ≡ true → clashing ds z c ≡ true
unfolding clashing
clash_held nil nil_holding e = e
clash_held (cons {a = d} {b = U} {xs = ds} {ys = z} h v) (cons_holding {S = S} {T = T} {x = x} {c = c} f l q) e =
    go (either (clash_at d U S) (clashing ds z x) e) (clash_held v q)
  where
    go : (clash_at d U S ≡ true) ⊎ (clashing ds z x ≡ true)
        → (clashing ds z x ≡ true → clashing ds z c ≡ true)
        → (clash_at d U T || clashing ds z c) ≡ true
    go (inl p) ih = or_here (clash_at d U T) (clashing ds z c) (clash_at_lem d U S T h l f p)
    go (inr p) ih = or_there (clash_at d U T) (clashing ds z c) (ih p)

module _ (ds : List ℕ) (s : ℕ) (z x : List ℕ) where
  abbrev Barred : Type 0
  Barred = (nested (get_or z s 0) (get_or x s 0) ≡ true) ⊎ (clashing ds (others s z) (others s x) ≡ true)

  barred : permitted ds s z x ≡ false → Barred
  unfolding permitted
  barred e = go (nested (get_or z s 0) (get_or x s 0)) (clashing ds (others s z) (others s x)) e
    where
      go : (a b : Bool) → (not a && not b) ≡ false → (a ≡ true) ⊎ (b ≡ true)
      go true b e = inl refl
      go false true e = inr refl
      go false false e = absurd (false≢true (sym e))

  not_permitted : Barred → permitted ds s z x ≡ false
  unfolding permitted
  not_permitted (inl e) = rw e
  not_permitted (inr e) = go (nested (get_or z s 0) (get_or x s 0)) (clashing ds (others s z) (others s x)) e
    where
      go : (a b : Bool) → b ≡ true → (not a && not b) ≡ false
      go true b e = refl
      go false b e = rw e

-- ---- the conclusions

module _ (ds : List ℕ) (s : ℕ) (z : List ℕ) (vz : ValidClause ds z) where
  clash_passed : {x c : List ℕ} → Holding ds x c → clashing ds (others s z) (others s x) ≡ true → clashing ds (others s z) (others s c) ≡ true
  clash_passed h e = clash_held (others_valid s vz) (holding_others s h) e

  -- what is barred from x is barred from each clause that holds x and has its sign at s
  held : (x : List ℕ) → Barred ds s z x → {cs : List (List ℕ)} → At s (get_or x s 0) cs → Each (Holding ds x) cs
      → Each (λ c. permitted ds s z c ≡ false) cs
  held x b nil_each nil_each = nil_each
  held x b (cons_each {c = c} e es) (cons_each h hs) = cons_each (not_permitted ds s z c (one b)) (held x b es hs)
    where
      one : Barred ds s z x → Barred ds s z c
      one (inl n) = inl (ap (nested (get_or z s 0)) e ∙ n)
      one (inr n) = inr (clash_passed h n)

  module _ (x y : List ℕ) (vx : ValidClause ds x) (vy : ValidClause ds y) (l : s < length ds) (may : permitted ds s x y ≡ true)
      (nx : permitted ds s z x ≡ false) (ny : permitted ds s z y ≡ false) where
    below_full : {c : List ℕ} → ValidClause ds c → get_or c s 0 ≤ full (get_or ds s 0)
    below_full v = let h = along_at v s l in omega arith

    crossing : nested (get_or x s 0) (get_or y s 0) ≡ false
    unfolding permitted
    crossing = not-true _ (and_left _ _ may)

    a : Bounded ds x
    a = bounded_valid vx

    b : Bounded ds y
    b = bounded_valid vy

    -- a clause that is the union but at s, with a sign there that nests where both nest
    both_passed : (c : List ℕ) → others s c ≡ others s (joined x y)
        → (Beside (get_or z s 0) (get_or x s 0) (get_or y s 0) → nested (get_or z s 0) (get_or c s 0) ≡ true) → permitted ds s z c ≡ false
    both_passed c u f = not_permitted ds s z c (go (barred ds s z x nx) (barred ds s z y ny))
      where
        clash : clashing ds (others s z) (others s (joined x y)) ≡ true → Barred ds s z c
        clash e = inr (ap (clashing ds (others s z)) u ∙ e)

        go : Barred ds s z x → Barred ds s z y → Barred ds s z c
        go (inr e) q = clash (clash_passed (union_holds_first a b) e)
        go (inl p) (inr e) = clash (clash_passed (union_holds_second a b) e)
        go (inl p) (inl q) = inl (f (beside (get_or ds s 0) _ _ _ (below_full vx) (below_full vy) crossing p q))

    conclusions_passed : Each (λ c. permitted ds s z c ≡ false) (conclusions ds s x y)
    unfolding conclusions
    conclusions_passed =
        let d = get_or ds s 0 in
        cons_each (both_passed (met s x y) (set-set (joined x y) s _ 0)
        (λ p. rw (met_at s vx vy l) (meet_nested d _ _ _ (below_full vz) (below_full vx) (below_full vy) p)))
        (cons_each (both_passed (joined x y) refl
        (λ p. rw (joined_at s vx vy l) (union_nested d _ _ _ (below_full vz) (below_full vx) (below_full vy) p)))
        (each_append
        (held x (barred ds s z x nx) (excluding-at s vx vy l) (excluding_holds a (others_bounded s b)))
        (held y (barred ds s z y ny) (excluding-at s vy vx l) (excluding_holds b (others_bounded s a)))))

-- ---- over a step

module _ (ds : List ℕ) (s : ℕ) (z : List ℕ) where
  no_candidate : (c : List ℕ) → (bucket z ≡ s → permitted ds s z c ≡ false) → candidate ds s z c ≡ false
  no_candidate c n = go (candidate ds s z c) refl
    where
      go : (b : Bool) → candidate ds s z c ≡ b → b ≡ false
      go true e = let g = candidate-goes ds s z c e in absurd (false≢true (sym (n g.first_in) ∙ g.may))
      go false e = refl

  candidate_barred : (x : List ℕ) → bucket z ≡ s → bucket x ≡ s → candidate ds s z x ≡ false → permitted ds s z x ≡ false
  candidate_barred x p q e = go (permitted ds s z x) refl
    where
      go : (b : Bool) → permitted ds s z x ≡ b → b ≡ false
      go true m = absurd (false≢true (sym e ∙ goes-candidate ds s z x (record { first_in = p; second_in = q; may = m })))
      go false m = refl

pub alone_step : {ds : List ℕ} {rs : List Row} {pr : Pair} {z : List ℕ} → ValidClause ds z → ValidRows ds rs → CandidatePair ds rs pr
    → Alone ds pr.variable z rs → Alone ds pr.variable z (resolve ds pr rs)
unfolding conclusions_of
alone_step {ds} {rs} {pr} {z} vz v c a =
    rw (resolve_as_written v c.pair)
    (alone_append ds s z (alone_lessen ds s z u pr.first (alone_lessen ds s z u pr.second (alone_raised ds s z u (kept_of ds pr rs) a)))
    (alone_fresh ds s z u rs (kept_each ds concluded)))
  where
    s : ℕ
    s = pr.variable

    u : ℕ
    u = moved_weight pr rs

    h : pr.first < length rs
    h = omega (arith, c.pair.ordered, c.pair.in_table)

    passed : bucket z ≡ s → Each (λ e. permitted ds s z e ≡ false) (conclusions_of ds pr rs)
    passed p =
        conclusions_passed ds s z vz _ _ (valid_signs_lem pr.first v h) (valid_signs_lem pr.second v c.pair.in_table) c.pair.known c.pair.may
        (candidate_barred ds s z _ p c.first_in (alone_at ds s z a pr.first h))
        (candidate_barred ds s z _ p c.second_in (alone_at ds s z a pr.second c.pair.in_table))

    concluded : Each (λ e. candidate ds s z e ≡ false) (conclusions_of ds pr rs)
    concluded = go (eqb (bucket z) s) refl
      where
        all : (cs : List (List ℕ)) → (bucket z ≡ s → ⊥) → Each (λ e. candidate ds s z e ≡ false) cs
        all [] n = nil_each
        all (e ∷ es) n = cons_each (no_candidate ds s z e (λ p. absurd (n p))) (all es n)

        go : (b : Bool) → eqb (bucket z) s ≡ b → Each (λ e. candidate ds s z e ≡ false) (conclusions_of ds pr rs)
        go true e = each_weaken (λ w n. no_candidate ds s z w (λ p. n)) (passed (eqb-true (bucket z) s e))
        go false e = all (conclusions_of ds pr rs) (eqb-false (bucket z) s e)
