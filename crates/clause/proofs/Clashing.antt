-- Two valid clauses clash at a variable other than v exactly if their union, with nothing at v, has a full sign.
-- A full union needs both signs present, since neither alone is full.
use Prim.Native.Nat.{ℕ, zero, suc, ◌<◌}
use native.Mathlib.Omega.{arith}
use mathlib.Core.Path.{◌≡◌, refl, ap, ap₂, ◌∙◌}
use mathlib.Core.Bool.{true, ◌&&◌, ◌||◌, and-false}
use mathlib.Core.List.{List, [], ◌∷◌, map}
use lib.ListN.{set}
use lib.Bits.{bit_and, bit_or, or_zero_l, or_zero_r, and_comm}
use lib.Dec.{eqb}
use borrow.Author.Tests.{eq-eqb, ne_eqb}
use Rattle.wcsp.specs.Sign.{full, present, within}
use Rattle.wcsp.specs.Clause.{ValidClause, nil, cons, tautology}
use Rattle.wcsp.specs.Rule.{joined, others, clashing, nested}
use Rattle.wcsp.proofs.Validity.{others_valid}
use Rattle.clause.specs.Packed.{any_equal}

-- ---- a full sign as a place where two lists agree

pub tautology-any_equal : (ds x : List ℕ) → tautology ds x ≡ any_equal x (map full ds)
unfolding tautology any_equal
tautology-any_equal [] [] = refl
tautology-any_equal [] (S ∷ x) = refl
tautology-any_equal (d ∷ ds) [] = refl
tautology-any_equal (d ∷ ds) (S ∷ x) = ap (λ b. eqb S (full d) || b) (tautology-any_equal ds x)

-- ---- clashes

-- of two signs that are not full, a full union says that both are present
full_union : (d S T : ℕ) → S < full d → T < full d
    → eqb (bit_or S T) (full d) ≡ (present S && present T && eqb (bit_or S T) (full d))
unfolding present
full_union d zero T h l = ap (λ n. eqb n (full d)) (or_zero_l T) ∙ ne_eqb T (full d) (λ e. omega arith)
full_union d (suc S) zero h l =
    ap (λ n. eqb n (full d)) (or_zero_r (suc S)) ∙ ne_eqb (suc S) (full d) (λ e. omega arith) ∙ rw and-false
full_union d (suc S) (suc T) h l =
    rw (ne_eqb (suc S) 0 (λ e. omega arith), ne_eqb (suc T) 0 (λ e. omega arith))

tautology-clashing : {ds x y : List ℕ} → ValidClause ds x → ValidClause ds y → tautology ds (joined x y) ≡ clashing ds x y
unfolding tautology joined clashing
tautology-clashing nil nil = refl
tautology-clashing (cons {a = d} {b = S} h hs) (cons {b = T} l ls) =
    ap₂ (λ a b. a || b) (full_union d S T h l) (tautology-clashing hs ls)

-- nothing at v, in the union or in both
joined-others : (v : ℕ) (x y : List ℕ) → set (joined x y) v 0 ≡ joined (others v x) (others v y)
unfolding joined
joined-others v [] y = refl
joined-others zero (S ∷ x) [] = refl
joined-others (suc v) (S ∷ x) [] = refl
joined-others zero (S ∷ x) (T ∷ y) = refl
joined-others (suc v) (S ∷ x) (T ∷ y) = ap (λ l. bit_or S T ∷ l) (joined-others v x y)

pub tautology-clashing-at : {ds x y : List ℕ} → (v : ℕ) → ValidClause ds x → ValidClause ds y
    → tautology ds (set (joined x y) v 0) ≡ clashing ds (others v x) (others v y)
tautology-clashing-at {ds} {x} {y} v a b =
    ap (tautology ds) (joined-others v x y) ∙ tautology-clashing (others_valid v a) (others_valid v b)

-- ---- nested signs

pub nested_left : (S T : ℕ) → bit_and S T ≡ S → true ≡ nested S T
unfolding nested within
nested_left S T e = rw (eq-eqb (bit_and S T) S e)

pub nested_right : (S T : ℕ) → (bit_and S T ≡ S → ⊥) → eqb (bit_and S T) T ≡ nested S T
unfolding nested within
nested_right S T h = rw (ne_eqb (bit_and S T) S h) (ap (λ n. eqb n T) (and_comm S T))
