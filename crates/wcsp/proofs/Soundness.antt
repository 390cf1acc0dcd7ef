-- The rule is sound at every variable: an assignment falsifies as many conclusions as premises.
-- By induction along the variables each conclusion's test becomes one of Booleans; the conclusions of `excluding` count one in all,
-- exactly if the assignment falsifies x and not y.
use Prim.Native.Nat.{ℕ, zero, suc, ◌+◌, ◌<◌}
use native.Mathlib.Omega.{arith}
use mathlib.Core.Path.{◌≡◌, refl, sym, ap₂, ◌∙◌}
use mathlib.Core.Bool.{Bool, true, false, not, ◌&&◌, ◌||◌, cond, false≢true}
use mathlib.Core.List.{List, [], ◌∷◌, ◌++◌, map}
use lib.Bits.{bit_or}
use lib.Dec.{eqb}
use borrow.Author.Tests.{eqb-true}
use Rattle.wcsp.specs.Sign.{has, full, complement, present}
use Rattle.wcsp.specs.Clause.{Along, nil, cons, InRange, ValidClause, falsifies}
use Rattle.wcsp.specs.Rule.{joined, others, excluding, conclusions}
use Rattle.wcsp.specs.Theorems.{falsified_count, Soundness}
use Rattle.wcsp.proofs.Signs.{has-zero, has_or, has_and, has-complement}
use Rattle.wcsp.proofs.Validity.{met, others_valid}

-- 1 where the test passes, else 0
abbrev pub once : Bool → ℕ
once b = cond b 1 0

-- ---- laws of Booleans

join_law : (a b f g : Bool) → (not (a || b) && (f && g)) ≡ ((not a && f) && (not b && g))
join_law true b f g = refl
join_law false true true g = refl
join_law false true false g = refl
join_law false false f g = refl

meet_law : (a b f g : Bool) → (not (a && b) && (f && g)) ≡ (((not a && f) || (not b && g)) && (f && g))
meet_law true true f g = refl
meet_law true false true true = refl
meet_law true false true false = refl
meet_law true false false true = refl
meet_law true false false false = refl
meet_law false b true g = refl
meet_law false true false g = refl
meet_law false false false true = refl
meet_law false false false false = refl

join_more : (a b f g m n : Bool)
    → (not (a || b) && ((f || g) && (m && n))) ≡ (((not a && f) || (not b && g)) && ((not a && m) && (not b && n)))
join_more true true f g m n = refl
join_more true false f true m n = refl
join_more true false f false m n = refl
join_more false true true g true n = refl
join_more false true true g false n = refl
join_more false true false g m n = refl
join_more false false f g m n = refl

keep_law : (a f g : Bool) → f ≡ (f && g) → (not a && f) ≡ ((not a && f) && (not a && g))
keep_law true f g e = refl
keep_law false f g e = e

-- one literal of y: its own conclusion, and those of the literals after it
literal_law : (a b f e : Bool)
    → once (not (a || not b) && f) + cond (not (a || b)) (once (f && not e)) 0 ≡ once ((not a && f) && not (not b && e))
literal_law true b f e = refl
literal_law false true true e = refl
literal_law false true false e = refl
literal_law false false true true = refl
literal_law false false true false = refl
literal_law false false false e = refl

total_law : (f g m n : Bool) → f ≡ (f && m) → g ≡ (g && n)
    → once ((f || g) && (m && n)) + (once (f && g) + (once (f && not n) + once (g && not m))) ≡ once f + (once g + 0)
total_law true true true true h k = refl
total_law true true true false h k = absurd (false≢true (sym k))
total_law true true false n h k = absurd (false≢true (sym h))
total_law true false true true h k = refl
total_law true false true false h k = refl
total_law true false false n h k = absurd (false≢true (sym h))
total_law false true true true h k = refl
total_law false true false true h k = refl
total_law false true m false h k = absurd (false≢true (sym k))
total_law false false m n h k = refl

-- ---- the conclusions' tests

module _ {R Q P : ℕ → ℕ → Type 0} where
  pub falsifies-joined : {ds x y p : List ℕ} → Along R ds x → Along Q ds y → Along P ds p
      → falsifies p (joined x y) ≡ (falsifies p x && falsifies p y)
  unfolding falsifies joined
  falsifies-joined nil nil nil = refl
  falsifies-joined (cons {b = S} r a) (cons {b = T} q b) (cons {b = v} h c) =
      rw (has_or S T v, falsifies-joined a b c) (join_law (has S v) (has T v) _ _)

  pub falsifies-met : (s : ℕ) {ds x y p : List ℕ} → Along R ds x → Along Q ds y → Along P ds p
      → falsifies p (met s x y) ≡ ((falsifies p x || falsifies p y) && (falsifies p (others s x) && falsifies p (others s y)))
  unfolding falsifies joined
  falsifies-met s nil nil nil = refl
  falsifies-met zero (cons {b = S} r a) (cons {b = T} q b) (cons {b = v} h c) =
      rw (has_and S T v, has-zero v, falsifies-joined a b c) (meet_law (has S v) (has T v) _ _)
  falsifies-met (suc s) (cons {b = S} r a) (cons {b = T} q b) (cons {b = v} h c) =
      rw (has_or S T v, falsifies-met s a b c) (join_more (has S v) (has T v) _ _ _ _)

-- what is falsified is so without a literal
pub falsifies-others : {R P : ℕ → ℕ → Type 0} (s : ℕ) {ds x p : List ℕ} → Along R ds x → Along P ds p
    → falsifies p x ≡ (falsifies p x && falsifies p (others s x))
unfolding falsifies
falsifies-others s nil nil = refl
falsifies-others zero (cons {b = S} {ys = x} r a) (cons {b = v} {ys = p} h c) = rw (has-zero v) (idem (not (has S v)) (falsifies p x))
  where
    idem : (a f : Bool) → (a && f) ≡ ((a && f) && f)
    idem true true = refl
    idem true false = refl
    idem false f = refl
falsifies-others (suc s) (cons {b = S} r a) (cons {b = v} h c) = keep_law (has S v) _ _ (falsifies-others s a c)

-- ---- counting

pub count_append : (p : List ℕ) (cs ds : List (List ℕ)) → falsified_count p (cs ++ ds) ≡ falsified_count p cs + falsified_count p ds
unfolding falsified_count
count_append p [] ds = omega arith
count_append p (c ∷ cs) ds = rw (count_append p cs ds) (omega arith)

pub count_prefixed : (v S : ℕ) (p : List ℕ) (cs : List (List ℕ))
    → falsified_count (v ∷ p) (map (λ c. S ∷ c) cs) ≡ cond (not (has S v)) (falsified_count p cs) 0
unfolding falsified_count falsifies
count_prefixed v S p [] = none (has S v)
  where
    none : (a : Bool) → ◌≡◌ {A = ℕ} 0 (cond (not a) 0 0)
    none true = refl
    none false = refl
count_prefixed v S p (c ∷ cs) = rw (count_prefixed v S p cs) (both (has S v) (falsifies p c) _)
  where
    both : (a f : Bool) (n : ℕ) → once (not a && f) + cond (not a) n 0 ≡ cond (not a) (once f + n) 0
    both true f n = refl
    both false f n = refl

-- the clause that complements one literal
literal : (d S T v : ℕ) (x p : List ℕ) → T < full d → v < d
    → falsified_count (v ∷ p) (cond (present T) ((bit_or S (complement d T) ∷ x) ∷ []) []) ≡ once (not (has S v || not (has T v)) && falsifies p x)
unfolding falsified_count falsifies present
literal d S T v x p ht hv = go (eqb T 0) refl
  where
    absent : (a f : Bool) → 0 ≡ once (not (a || true) && f)
    absent true f = refl
    absent false f = refl

    go : (b : Bool) → eqb T 0 ≡ b
        → falsified_count (v ∷ p) (cond (not b) ((bit_or S (complement d T) ∷ x) ∷ []) []) ≡ once (not (has S v || not (has T v)) && falsifies p x)
    go true e = rw (eqb-true T 0 e, has-zero v) (absent (has S v) (falsifies p x))
    go false e = rw (has_or S (complement d T) v, has-complement d T v (omega arith) hv) (omega arith)

pub count_excluding : {ds x y p : List ℕ} → ValidClause ds x → ValidClause ds y → InRange ds p
    → falsified_count p (excluding ds x y) ≡ once (falsifies p x && not (falsifies p y))
unfolding excluding falsifies falsified_count
count_excluding nil nil nil = refl
count_excluding (cons {a = d} {b = S} {xs = ds} {ys = x} r a) (cons {b = T} {ys = y} q b) (cons {b = v} {ys = p} h c) =
    count_append (v ∷ p) (cond (present T) ((bit_or S (complement d T) ∷ x) ∷ []) []) (map (λ c. bit_or S T ∷ c) (excluding ds x y))
    ∙ ap₂ (λ m n. m + n) (literal d S T v x p q h)
    (count_prefixed v (bit_or S T) p (excluding ds x y) ∙ rw (has_or S T v, count_excluding a b c) refl)
    ∙ literal_law (has S v) (has T v) (falsifies p x) (falsifies p y)

pub soundness : Soundness
unfolding conclusions falsified_count
soundness ds s x y p a b c =
    rw (
      count_append p (excluding ds x (others s y)) (excluding ds y (others s x)),
      count_excluding a (others_valid s b) c,
      count_excluding b (others_valid s a) c,
      falsifies-met s a b c,
      falsifies-joined a b c,
    )
    (total_law (falsifies p x) (falsifies p y) (falsifies p (others s x)) (falsifies p (others s y))
    (falsifies-others s a c) (falsifies-others s b c))
