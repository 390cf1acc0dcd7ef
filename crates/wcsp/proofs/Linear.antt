-- The linear law: any sum over the rows of weight times a value of the signs changes, by a step, as the conclusions' values against the premises'.
-- It is said once over an arbitrary value f that is 0 at tautologies; the falsified weight and the potential are instances.
use Prim.Native.Nat.{ℕ, zero, suc, ◌+◌, ◌-◌, ◌*◌, ◌<◌, ◌≤◌}
use mathlib.Core.Path.{◌≡◌, refl, ap}
use mathlib.Core.Bool.{Bool, true, false, cond}
use mathlib.Core.List.{List, [], ◌∷◌}
use native.Mathlib.Omega.{arith}
use lib.ListN.{length, get_or}
use lib.Dec.{eqb}
use borrow.Author.Tests.{eqb-true}
use Rattle.wcsp.specs.Clause.{same, tautology}
use Rattle.wcsp.specs.Row.{Row, merge, add, add_all}
use Rattle.wcsp.specs.Bound.{total}
use Rattle.wcsp.specs.Rule.{conclusions}
use Rattle.wcsp.specs.Resolve.{Pair, no_row, lessen, moved_weight, conclusions_of, resolve}
use Rattle.wcsp.proofs.Lists.{same-eq}

-- the sum of the weights, each times the value of its row's signs
unfoldable pub weighted : (List ℕ → ℕ) → List Row → ℕ
weighted f [] = zero
weighted f (r ∷ rs) = r.weight * f r.signs + weighted f rs

module _ (f : List ℕ → ℕ) where
  pub weighted-merge : (u : ℕ) (rs : List Row) (c : List ℕ) → weighted f (merge u rs c) ≡ weighted f rs + u * f c
  unfolding weighted merge
  weighted-merge u [] c = omega arith
  weighted-merge u (r ∷ rs) c = go (same r.signs c) refl (weighted-merge u rs c)
    where
      go : (b : Bool) → same r.signs c ≡ b → weighted f (merge u rs c) ≡ weighted f rs + u * f c
          → weighted f (cond b (record { signs = r.signs; weight = r.weight + u } ∷ rs) (r ∷ merge u rs c))
          ≡ r.weight * f r.signs + weighted f rs + u * f c
      go true e ih = omega (arith, ap (λ x. u * f x) (same-eq r.signs c e))
      go false e ih = omega arith

  pub weighted-lessen : (u i : ℕ) (rs : List Row) → i < length rs → u ≤ (get_or rs i no_row).weight
      → weighted f (lessen u i rs) + u * f (get_or rs i no_row).signs ≡ weighted f rs
  unfolding weighted lessen
  weighted-lessen u i [] h k = omega arith
  weighted-lessen u zero (r ∷ rs) h k = go (eqb (r.weight - u) 0) refl
    where
      kept : (r.weight - u) * f r.signs + u * f r.signs ≡ r.weight * f r.signs
      kept = let e : r.weight - u + u ≡ r.weight = omega arith in omega (arith, ap (λ n. n * f r.signs) e)

      go : (b : Bool) → eqb (r.weight - u) 0 ≡ b
          → weighted f (cond b rs (record { signs = r.signs; weight = r.weight - u } ∷ rs)) + u * f r.signs
          ≡ r.weight * f r.signs + weighted f rs
      go true e = omega (arith, kept, ap (λ n. n * f r.signs) (eqb-true (r.weight - u) 0 e))
      go false e = omega (arith, kept)
  weighted-lessen u (suc i) (r ∷ rs) h k = omega (arith, weighted-lessen u i rs (omega arith) k)

module _ (ds : List ℕ) (f : List ℕ → ℕ) (none : (c : List ℕ) → tautology ds c ≡ true → f c ≡ 0) where
  pub weighted-add : (u : ℕ) (rs : List Row) (c : List ℕ) → weighted f (add ds u rs c) ≡ weighted f rs + u * f c
  unfolding add
  weighted-add u rs c = go (tautology ds c) refl
    where
      go : (b : Bool) → tautology ds c ≡ b → weighted f (cond b rs (merge u rs c)) ≡ weighted f rs + u * f c
      go true e = omega (arith, ap (λ n. u * n) (none c e))
      go false e = weighted-merge f u rs c

  pub weighted-add_all : (u : ℕ) (rs : List Row) (cs : List (List ℕ)) → weighted f (add_all ds u rs cs) ≡ weighted f rs + u * total f cs
  unfolding add_all total
  weighted-add_all u rs [] = omega arith
  weighted-add_all u rs (c ∷ cs) = omega (arith, weighted-add_all u (add ds u rs c) cs, weighted-add u rs c)

-- a row below the lessened one is left alone
pub lessen_below : (u i j : ℕ) (rs : List Row) → i < j → get_or (lessen u j rs) i no_row ≡ get_or rs i no_row
unfolding lessen
lessen_below u i j [] h = refl
lessen_below u zero zero (r ∷ rs) h = absurd (omega arith)
lessen_below u (suc i) zero (r ∷ rs) h = absurd (omega arith)
lessen_below u zero (suc j) (r ∷ rs) h = refl
lessen_below u (suc i) (suc j) (r ∷ rs) h = lessen_below u i j rs (omega arith)

-- and is a row still
pub lessen_keeps : (u i j : ℕ) (rs : List Row) → i < j → j < length rs → i < length (lessen u j rs)
unfolding lessen
lessen_keeps u i j [] h k = omega arith
lessen_keeps u i zero (r ∷ rs) h k = omega arith
lessen_keeps u zero (suc j) (r ∷ rs) h k = omega arith
lessen_keeps u (suc i) (suc j) (r ∷ rs) h k = omega (arith, lessen_keeps u i j rs (omega arith) (omega arith))

-- the step at any two rows in order and any weight that both have
pub linear_at : (ds : List ℕ) (f : List ℕ → ℕ) → ((c : List ℕ) → tautology ds c ≡ true → f c ≡ 0) → (u i j : ℕ) (rs : List Row) (cs : List (List ℕ))
    → i < j → j < length rs → u ≤ (get_or rs i no_row).weight → u ≤ (get_or rs j no_row).weight
    → weighted f (add_all ds u (lessen u i (lessen u j rs)) cs) + u * (f (get_or rs i no_row).signs + f (get_or rs j no_row).signs)
    ≡ weighted f rs + u * total f cs
linear_at ds f none u i j rs cs h k wi wj =
    omega (arith, weighted-add_all ds f none u (lessen u i (lessen u j rs)) cs, first, weighted-lessen f u j rs k wj)
  where
    stays : get_or (lessen u j rs) i no_row ≡ get_or rs i no_row
    stays = lessen_below u i j rs h

    first : weighted f (lessen u i (lessen u j rs)) + u * f (get_or rs i no_row).signs ≡ weighted f (lessen u j rs)
    first = rw stays at (weighted-lessen f u i (lessen u j rs) (lessen_keeps u i j rs h k) (rw stays wi))

-- The step: the second row is lessened first, so the first index still names the first row.
pub linear : (ds : List ℕ) (rs : List Row) (pr : Pair) (f : List ℕ → ℕ) → ((c : List ℕ) → tautology ds c ≡ true → f c ≡ 0)
    → pr.first < pr.second → pr.second < length rs
    → weighted f (resolve ds pr rs)
    + moved_weight pr rs * (f (get_or rs pr.first no_row).signs + f (get_or rs pr.second no_row).signs)
    ≡ weighted f rs
    + moved_weight pr rs
    * total f (conclusions ds pr.variable (get_or rs pr.first no_row).signs (get_or rs pr.second no_row).signs)
unfolding resolve
linear ds rs pr f none h k =
    linear_at ds f none (moved_weight pr rs) pr.first pr.second rs (conclusions_of ds pr rs) h k (omega arith) (omega arith)
