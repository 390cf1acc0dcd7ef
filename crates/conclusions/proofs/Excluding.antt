-- Group 3 by index: at variable b the running clause is x joined with the literals of y before b, and what is still to come
-- are the conclusions over the variables from b on, each behind the b signs that the running clause has in front.
use Prim.Native.Nat.{ℕ, zero, suc, ◌<◌, ◌≤◌}
use native.Mathlib.Omega.{arith}
use mathlib.Core.Path.{◌≡◌, refl, sym, ap, ap₂, ◌∙◌}
use mathlib.Core.Bool.{Bool, true, false, cond}
use mathlib.Core.List.{List, [], ◌∷◌, ◌++◌, map, map-id}
use lib.ListN.{length, get_or, set, take, drop, replicate, drop_of_length-le}
use lib.Seq.{drop-cons, take-suc-set, drop-set-lt, set_split, set-get_or, append_snoc}
use lib.Bits.{bit_or, or_zero_r}
use borrow.Author.Tests.{ne_eqb}
use Rattle.wcsp.specs.Sign.{complement, present}
use Rattle.wcsp.specs.Rule.{joined, excluding}

-- ---- one variable further

-- every clause of the list with these signs in front
behind : List ℕ → List (List ℕ) → List (List ℕ)
behind p cs = map (λ c. p ++ c) cs

behind_sign : (p : List ℕ) (S : ℕ) (cs : List (List ℕ)) → behind p (map (λ c. S ∷ c) cs) ≡ behind (p ++ (S ∷ [])) cs
unfolding behind
behind_sign p S [] = refl
behind_sign p S (c ∷ cs) = ap₂ (λ a l. a ∷ l) (sym (append_snoc p S c)) (behind_sign p S cs)

behind_none : (cs : List (List ℕ)) → behind [] cs ≡ cs
unfolding behind
behind_none cs = map-id cs

taken : (p : List ℕ) (d S T : ℕ) (ds x y : List ℕ)
    → behind p (excluding (d ∷ ds) (S ∷ x) (T ∷ y))
    ≡ cond (present T) ((p ++ (bit_or S (complement d T) ∷ x)) ∷ []) [] ++ behind (p ++ (bit_or S T ∷ [])) (excluding ds x y)
unfolding excluding behind
taken p d S T ds x y = go (present T)
  where
    rest : behind p (map (λ c. bit_or S T ∷ c) (excluding ds x y)) ≡ behind (p ++ (bit_or S T ∷ [])) (excluding ds x y)
    rest = behind_sign p (bit_or S T) (excluding ds x y)

    go : (t : Bool)
        → behind p (cond t ((bit_or S (complement d T) ∷ x) ∷ []) [] ++ map (λ c. bit_or S T ∷ c) (excluding ds x y))
        ≡ cond t ((p ++ (bit_or S (complement d T) ∷ x)) ∷ []) [] ++ behind (p ++ (bit_or S T ∷ [])) (excluding ds x y)
    go true = ap (λ l. (p ++ (bit_or S (complement d T) ∷ x)) ∷ l) rest
    go false = rest

-- what is still to come at variable b, with the running clause r
pub excluding_from : List ℕ → ℕ → List ℕ → List ℕ → List (List ℕ)
excluding_from ds b r y = behind (take b r) (excluding (drop b ds) (drop b r) (drop b y))

pub from_start : (ds x y : List ℕ) → excluding_from ds 0 x y ≡ excluding ds x y
unfolding excluding_from
from_start ds x y = behind_none (excluding ds x y)

pub from_end : (ds : List ℕ) (b : ℕ) (r y : List ℕ) → length ds ≤ b → excluding_from ds b r y ≡ []
unfolding excluding_from excluding behind
from_end ds b r y h = rw (drop_of_length-le ds h)

module _ (ds r y : List ℕ) (b : ℕ) (h : b < length ds) (k : b < length r) (l : b < length y) where
  from_at : excluding_from ds b r y
      ≡ cond (present (get_or y b 0)) (set r b (bit_or (get_or r b 0) (complement (get_or ds b 0) (get_or y b 0))) ∷ []) []
      ++ excluding_from ds (suc b) (set r b (bit_or (get_or r b 0) (get_or y b 0))) y
  unfolding excluding_from
  from_at =
      rw (drop-cons ds b 0 h, drop-cons r b 0 k, drop-cons y b 0 l)
      (taken (take b r) _ _ _ (drop (suc b) ds) (drop (suc b) r) (drop (suc b) y)
      ∙ (λ i. cond (present (get_or y b 0)) (whole i ∷ []) [] ++ behind (front i) (excluding (drop (suc b) ds) (back i) (drop (suc b) y))))
    where
      U : ℕ
      U = bit_or (get_or r b 0) (get_or y b 0)

      W : ℕ
      W = bit_or (get_or r b 0) (complement (get_or ds b 0) (get_or y b 0))

      whole : take b r ++ (W ∷ drop (suc b) r) ≡ set r b W
      whole = sym (set_split r b W k)

      front : take b r ++ (U ∷ []) ≡ take (suc b) (set r b U)
      front = sym (take-suc-set r b U k)

      back : drop (suc b) r ≡ drop (suc b) (set r b U)
      back = sym (drop-set-lt (suc b) r b U (omega arith))

  pub from_absent : get_or y b 0 ≡ 0 → excluding_from ds b r y ≡ excluding_from ds (suc b) r y
  unfolding present
  from_absent e =
      from_at
      ∙ rw e (ap (λ S. excluding_from ds (suc b) (set r b S) y) (or_zero_r (get_or r b 0))
      ∙ ap (λ x. excluding_from ds (suc b) x y) (set-get_or r b 0))

  pub from_present : (get_or y b 0 ≡ 0 → ⊥) → excluding_from ds b r y
      ≡ set r b (bit_or (get_or r b 0) (complement (get_or ds b 0) (get_or y b 0)))
      ∷ excluding_from ds (suc b) (set r b (bit_or (get_or r b 0) (get_or y b 0))) y
  unfolding present
  from_present e = from_at ∙ rw (ne_eqb (get_or y b 0) 0 e)

-- ---- a clause of one literal joined

pub joined_single : (r : List ℕ) (b U : ℕ) → joined r (set (replicate (length r) 0) b U) ≡ set r b (bit_or (get_or r b 0) U)
unfolding joined
joined_single [] b U = refl
joined_single (S ∷ r) zero U = ap (λ l. bit_or S U ∷ l) (none r)
  where
    none : (x : List ℕ) → joined x (replicate (length x) 0) ≡ x
    none [] = refl
    none (T ∷ x) = ap₂ (λ a l. a ∷ l) (or_zero_r T) (none x)
joined_single (S ∷ r) (suc b) U = ap₂ (λ a l. a ∷ l) (or_zero_r S) (joined_single r b U)
