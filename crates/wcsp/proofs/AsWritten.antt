-- The step in the order of writing: the rows found are raised, then the two premises lessened, then the missing conclusions put behind.
-- Conclusions differ from both premises, so it does not matter that `resolve` lessens first; and so many rows the result has.
use Prim.Native.Nat.{ℕ, zero, suc, ◌+◌, ◌-◌, ◌<◌, ◌≤◌}
use native.Mathlib.Omega.{arith}
use mathlib.Core.Path.{◌≡◌, refl, sym, ap, ap₂, ◌∙◌}
use mathlib.Core.Bool.{Bool, true, false, cond}
use mathlib.Core.List.{List, [], ◌∷◌, ◌++◌}
use lib.ListN.{length, get_or, length-append}
use lib.Dec.{eqb}
use borrow.Author.Tests.{eqb-true, eqb-false, eq-eqb, ne_eqb}
use Rattle.wcsp.specs.Clause.{kept}
use Rattle.wcsp.specs.Row.{Row, ValidRows}
use Rattle.wcsp.specs.Resolve.{Pair, no_row, lessen, moved_weight, conclusions_of, resolve, MayResolve}
use Rattle.wcsp.specs.Theorems.{cons_apart, Distinct, cons_distinct}
use Rattle.wcsp.proofs.Linear.{lessen_below, lessen_keeps}
use Rattle.wcsp.proofs.Validity.{valid_signs_lem, valid_lessen}
use Rattle.wcsp.proofs.Distinctness.{distinct_conclusions}
use Rattle.wcsp.proofs.Adding.{member, raised, fresh, apart_member, add_all-kept, kept_plain, kept_apart, kept_distinct, adding}
use Rattle.wcsp.proofs.Raising.{raised-length, raised-lessen, fresh-lessen}

-- the conclusions that a step gives weight to
abbrev pub kept_of : List ℕ → Pair → List Row → List (List ℕ)
kept_of ds pr rs = kept ds (conclusions_of ds pr rs)

-- what the step's proof needs of them: no premise among them, and no two the same
pub record Outcome (ds : List ℕ) (pr : Pair) (rs : List Row) : Type 0 where
  pub first_other : member (get_or rs pr.first no_row).signs (kept_of ds pr rs) ≡ false
  pub second_other : member (get_or rs pr.second no_row).signs (kept_of ds pr rs) ≡ false
  pub distinct : Distinct (kept_of ds pr rs)

pub outcome : {ds : List ℕ} {rs : List Row} {pr : Pair} → ValidRows ds rs → MayResolve ds rs pr → Outcome ds pr rs
unfolding conclusions_of
outcome {ds} {rs} {pr} v p = go (distinct_conclusions ds pr.variable _ _ (valid_signs_lem pr.first v h) (valid_signs_lem pr.second v p.in_table) p.known p.may)
  where
    h : pr.first < length rs
    h = omega (arith, p.ordered, p.in_table)

    go : Distinct ((get_or rs pr.first no_row).signs ∷ (get_or rs pr.second no_row).signs ∷ conclusions_of ds pr rs) → Outcome ds pr rs
    go (cons_distinct (cons_apart e a) (cons_distinct b d)) =
        record { first_other = apart_member (kept_apart ds a); second_other = apart_member (kept_apart ds b); distinct = kept_distinct ds d }

-- the two premises lessened: the second first, so that the first index still names the first row
abbrev pub lessened : ℕ → Pair → List Row → List Row
lessened u pr rs = lessen u pr.first (lessen u pr.second rs)

module _ {ds : List ℕ} {rs : List Row} {pr : Pair} (v : ValidRows ds rs) (p : MayResolve ds rs pr) where
  -- a premise is still there, with the same signs, once the other is lessened
  first_other : member (get_or (lessen (moved_weight pr rs) pr.second rs) pr.first no_row).signs (kept_of ds pr rs) ≡ false
  first_other =
      ap (λ r. member r.signs (kept_of ds pr rs)) (lessen_below (moved_weight pr rs) pr.first pr.second rs p.ordered)
      ∙ (outcome v p).first_other

  -- raising before or after
  pub raised-lessened : raised (moved_weight pr rs) (kept_of ds pr rs) (lessened (moved_weight pr rs) pr rs)
      ≡ lessened (moved_weight pr rs) pr (raised (moved_weight pr rs) (kept_of ds pr rs) rs)
  raised-lessened =
      let u = moved_weight pr rs in
      let cs = kept_of ds pr rs in
      let h = lessen_keeps u pr.first pr.second rs p.ordered p.in_table in
      raised-lessen u u cs pr.first (lessen u pr.second rs) h first_other
      ∙ ap (lessen u pr.first) (raised-lessen u u cs pr.second rs p.in_table (outcome v p).second_other)

  pub resolve_as_written : resolve ds pr rs
      ≡ lessened (moved_weight pr rs) pr (raised (moved_weight pr rs) (kept_of ds pr rs) rs) ++ fresh (moved_weight pr rs) (kept_of ds pr rs) rs
  unfolding resolve
  resolve_as_written =
      let u = moved_weight pr rs in
      let cs = kept_of ds pr rs in
      add_all-kept ds u (lessened u pr rs) (conclusions_of ds pr rs)
      ∙ adding u (valid_lessen u pr.first (valid_lessen u pr.second v)) (outcome v p).distinct (kept_plain ds (conclusions_of ds pr rs))
      ∙ ap₂ (λ a b. a ++ b) raised-lessened
      (fresh-lessen u u cs pr.first (lessen u pr.second rs) first_other ∙ fresh-lessen u u cs pr.second rs (outcome v p).second_other)

-- ---- how many rows

-- a row that weighs just the weight taken goes
unfoldable pub gone : ℕ → ℕ → List Row → ℕ
gone u i rs = cond (eqb (get_or rs i no_row).weight u) 1 0

-- how many of the premises go
unfoldable pub removed : Pair → List Row → ℕ
unfolding gone
removed pr rs = gone (moved_weight pr rs) pr.first rs + gone (moved_weight pr rs) pr.second rs

pub lessen-length : (u i : ℕ) (rs : List Row) → i < length rs → u ≤ (get_or rs i no_row).weight → length (lessen u i rs) + gone u i rs ≡ length rs
unfolding lessen gone
lessen-length u i [] h k = absurd (omega arith)
lessen-length u zero (r ∷ rs) h k = go (eqb r.weight u) refl
  where
    go : (b : Bool) → eqb r.weight u ≡ b
        → length (cond (eqb (r.weight - u) 0) rs (record { signs = r.signs; weight = r.weight - u } ∷ rs)) + cond b 1 0 ≡ suc (length rs)
    go true e = let z : r.weight - u ≡ 0 = omega (arith, eqb-true r.weight u e) in rw (eq-eqb (r.weight - u) 0 z) (omega arith)
    go false e =
        let n = eqb-false r.weight u e in
        let z : r.weight - u ≡ 0 → ⊥ = λ q. n (omega arith) in
        rw (ne_eqb (r.weight - u) 0 z) (omega arith)
lessen-length u (suc i) (r ∷ rs) h k = omega (arith, lessen-length u i rs (omega arith) k)

lessen_two : (u i j : ℕ) (rs : List Row) → i < j → j < length rs → u ≤ (get_or rs i no_row).weight → u ≤ (get_or rs j no_row).weight
    → length (lessen u i (lessen u j rs)) + (gone u i rs + gone u j rs) ≡ length rs
unfolding gone
lessen_two u i j rs h k wi wj =
    let stays : get_or (lessen u j rs) i no_row ≡ get_or rs i no_row = lessen_below u i j rs h in
    let two = lessen-length u j rs k wj in
    let one : length (lessen u i (lessen u j rs)) + cond (eqb (get_or rs i no_row).weight u) 1 0 ≡ length (lessen u j rs)
    = rw stays at (lessen-length u i (lessen u j rs) (lessen_keeps u i j rs h k) (rw stays wi)) in
    omega arith

pub lessened-length : (pr : Pair) (rs : List Row) → pr.first < pr.second → pr.second < length rs
    → length (lessened (moved_weight pr rs) pr rs) + removed pr rs ≡ length rs
unfolding removed moved_weight
lessened-length pr rs h k = lessen_two (moved_weight pr rs) pr.first pr.second rs h k (omega arith) (omega arith)

pub removed-le : (pr : Pair) (rs : List Row) → removed pr rs ≤ 2
unfolding removed gone
removed-le pr rs = go (eqb (get_or rs pr.first no_row).weight (moved_weight pr rs)) (eqb (get_or rs pr.second no_row).weight (moved_weight pr rs))
  where
    go : (a b : Bool) → cond a 1 0 + cond b 1 0 ≤ 2
    go true true = omega arith
    go true false = omega arith
    go false true = omega arith
    go false false = omega arith

module _ {ds : List ℕ} {rs : List Row} {pr : Pair} (v : ValidRows ds rs) (p : MayResolve ds rs pr) where
  -- the rows that stay, before any new one
  pub written-length : length (lessened (moved_weight pr rs) pr (raised (moved_weight pr rs) (kept_of ds pr rs) rs)) ≡ length rs - removed pr rs
  written-length =
      let e = ap length (sym (raised-lessened v p)) ∙ raised-length (moved_weight pr rs) (kept_of ds pr rs) (lessened (moved_weight pr rs) pr rs) in
      omega (arith, lessened-length pr rs p.ordered p.in_table)

  pub resolve-length : length (resolve ds pr rs) ≡ length rs - removed pr rs + length (fresh (moved_weight pr rs) (kept_of ds pr rs) rs)
  resolve-length =
      let u = moved_weight pr rs in
      let cs = kept_of ds pr rs in
      ap length (resolve_as_written v p) ∙ length-append (lessened u pr (raised u cs rs)) (fresh u cs rs)
      ∙ ap (λ n. n + length (fresh u cs rs)) written-length
