-- When a step makes some row heavier than a limit L: exactly if some conclusion's weight so far and the moved weight come to more.
-- Only raised rows can pass the limit, since new rows and the premises weigh at most what a premise weighed.
use Prim.Native.Nat.{ℕ, zero, suc, ◌+◌, ◌-◌, ◌<◌, ◌≤◌}
use native.Mathlib.Omega.{arith}
use mathlib.Core.Path.{◌≡◌, refl, sym, ap, ◌∙◌}
use mathlib.Core.Bool.{Bool, true, false, ◌&&◌, ◌||◌, cond, or-false}
use mathlib.Core.List.{List, [], ◌∷◌, ◌++◌}
use lib.ListN.{length, get_or}
use lib.Dec.{eqb, ltb}
use borrow.Author.Tests.{ltb-false, le-ltb}
use Rattle.wcsp.specs.Clause.{same}
use Rattle.wcsp.specs.Row.{Row, weight_of, heavy, ValidRows}
use Rattle.wcsp.specs.Resolve.{Pair, no_row, lessen, moved_weight, resolve, MayResolve}
use Rattle.wcsp.proofs.Lists.{same_refl, same-eq, or_left, or_right}
use Rattle.wcsp.proofs.EmptyRow.{weight_of-same, weight_of_other, weight_of_absent}
use Rattle.wcsp.proofs.Linear.{lessen_below}
use Rattle.wcsp.proofs.Adding.{member, has_row, row_of, raised, fresh, Single, nil_single, cons_single, single, has_absent, other_at}
use Rattle.wcsp.proofs.Raising.{raised_other}
use Rattle.wcsp.proofs.AsWritten.{kept_of, outcome, lessened, resolve_as_written}

-- some clause would weigh more than L, with u more than now
unfoldable pub heavy_any : ℕ → ℕ → List (List ℕ) → List Row → Bool
unfolding weight_of
heavy_any L u [] rs = false
heavy_any L u (c ∷ cs) rs = ltb L (weight_of c rs + u) || heavy_any L u cs rs

-- ---- every row at most L

pub heavy-at : (L : ℕ) (rs : List Row) (i : ℕ) → heavy L rs ≡ false → (get_or rs i no_row).weight ≤ L
unfolding heavy
heavy-at L [] i e = omega arith
heavy-at L (r ∷ rs) zero e = ltb-false L r.weight (or_left (ltb L r.weight) _ e)
heavy-at L (r ∷ rs) (suc i) e = heavy-at L rs i (or_right (ltb L r.weight) _ e)

pub heavy-weight_of : (L : ℕ) (c : List ℕ) (rs : List Row) → heavy L rs ≡ false → weight_of c rs ≤ L
unfolding heavy weight_of
heavy-weight_of L c [] e = omega arith
heavy-weight_of L c (r ∷ rs) e = go (same r.signs c) (heavy-weight_of L c rs (or_right (ltb L r.weight) (heavy L rs) e))
  where
    go : (b : Bool) → weight_of c rs ≤ L → cond b r.weight (weight_of c rs) ≤ L
    go true ih = ltb-false L r.weight (or_left (ltb L r.weight) (heavy L rs) e)
    go false ih = ih

pub light : (L : ℕ) (rs : List Row) → ((i : ℕ) → i < length rs → (get_or rs i no_row).weight ≤ L) → heavy L rs ≡ false
unfolding heavy
light L [] f = refl
light L (r ∷ rs) f = rw (le-ltb L r.weight (f 0 (omega arith))) (light L rs (λ i h. f (suc i) (omega arith)))

heavy-append : (L : ℕ) (xs ys : List Row) → heavy L (xs ++ ys) ≡ (heavy L xs || heavy L ys)
unfolding heavy
heavy-append L [] ys = refl
heavy-append L (r ∷ xs) ys = go (ltb L r.weight) (heavy-append L xs ys)
  where
    go : (b : Bool) → heavy L (xs ++ ys) ≡ (heavy L xs || heavy L ys) → (b || heavy L (xs ++ ys)) ≡ (b || heavy L xs || heavy L ys)
    go true ih = refl
    go false ih = ih

heavy-fresh : (L u : ℕ) (cs : List (List ℕ)) (rs : List Row) → u ≤ L → heavy L (fresh u cs rs) ≡ false
unfolding heavy fresh
heavy-fresh L u [] rs h = refl
heavy-fresh L u (c ∷ cs) rs h = go (has_row c rs) (heavy-fresh L u cs rs h)
  where
    go : (b : Bool) → heavy L (fresh u cs rs) ≡ false → heavy L (cond b (fresh u cs rs) (row_of c u ∷ fresh u cs rs)) ≡ false
    go true ih = ih
    go false ih = rw (le-ltb L u h) ih

-- taking weight from a row that is not too heavy
heavy-lessen : (L u i : ℕ) (rs : List Row) → (get_or rs i no_row).weight ≤ L → heavy L (lessen u i rs) ≡ heavy L rs
unfolding heavy lessen
heavy-lessen L u i [] h = refl
heavy-lessen L u zero (r ∷ rs) h = go (eqb (r.weight - u) 0)
  where
    go : (b : Bool) → heavy L (cond b rs (record { signs = r.signs; weight = r.weight - u } ∷ rs)) ≡ (ltb L r.weight || heavy L rs)
    go true = rw (le-ltb L r.weight h)
    go false = rw (le-ltb L r.weight h, le-ltb L (r.weight - u) (omega arith))
heavy-lessen L u (suc i) (r ∷ rs) h = rw (heavy-lessen L u i rs h)

-- ---- the raised rows

heavy_any-nil : (L u : ℕ) (cs : List (List ℕ)) → u ≤ L → heavy_any L u cs [] ≡ false
unfolding heavy_any
heavy_any-nil L u [] h = refl
heavy_any-nil L u (c ∷ cs) h = rw (le-ltb L (0 + u) (omega arith)) (heavy_any-nil L u cs h)

-- the first row counts if one of the clauses has its signs
heavy_any-cons : (L u : ℕ) (cs : List (List ℕ)) (r : Row) (rs : List Row) → u ≤ L → has_row r.signs rs ≡ false
    → heavy_any L u cs (r ∷ rs) ≡ ((member r.signs cs && ltb L (r.weight + u)) || heavy_any L u cs rs)
unfolding heavy_any member
heavy_any-cons L u [] r rs h a = refl
heavy_any-cons L u (c ∷ cs) r rs h a = go (same r.signs c) refl (heavy_any-cons L u cs r rs h a)
  where
    again : (t m b : Bool) → (t || ((m && t) || b)) ≡ (t || b)
    again true m b = refl
    again false true b = refl
    again false false b = refl

    swap : (t m b : Bool) → (t || (m || b)) ≡ (m || (t || b))
    swap true true b = refl
    swap true false b = refl
    swap false m b = refl

    go : (b : Bool) → same r.signs c ≡ b
        → heavy_any L u cs (r ∷ rs) ≡ ((member r.signs cs && ltb L (r.weight + u)) || heavy_any L u cs rs)
        → (ltb L (weight_of c (r ∷ rs) + u) || heavy_any L u cs (r ∷ rs))
        ≡ (((b || member r.signs cs) && ltb L (r.weight + u)) || (ltb L (weight_of c rs + u) || heavy_any L u cs rs))
    go true e ih =
        let z : weight_of c rs ≡ 0 = weight_of_absent c (has_absent c rs (ap (λ x. has_row x rs) (sym (same-eq r.signs c e)) ∙ a)) in
        rw (weight_of-same c r rs e, ih, z, le-ltb L (0 + u) (omega arith)) (again (ltb L (r.weight + u)) (member r.signs cs) (heavy_any L u cs rs))
    go false e ih = rw (weight_of_other c r rs e, ih) (swap (ltb L (weight_of c rs + u)) (member r.signs cs && ltb L (r.weight + u)) (heavy_any L u cs rs))

pub heavy-raised : (L u : ℕ) (cs : List (List ℕ)) {rs : List Row} → Single rs → u ≤ L → heavy L rs ≡ false → heavy L (raised u cs rs) ≡ heavy_any L u cs rs
unfolding heavy raised
heavy-raised L u cs nil_single h e = sym (heavy_any-nil L u cs h)
heavy-raised L u cs (cons_single {r = r} {rs = rs} a t) h e =
    rw (heavy-raised L u cs t h (or_right (ltb L r.weight) _ e), heavy_any-cons L u cs r rs h a)
    (ap (λ b. b || heavy_any L u cs rs) (go (member r.signs cs)))
  where
    go : (b : Bool) → ltb L (cond b (r.weight + u) r.weight) ≡ (b && ltb L (r.weight + u))
    go true = refl
    go false = or_left (ltb L r.weight) _ e

-- ---- the step

moved_le : (pr : Pair) (rs : List Row) → moved_weight pr rs ≤ (get_or rs pr.first no_row).weight
unfolding moved_weight
moved_le pr rs = omega arith

pub too_heavy : {ds : List ℕ} (L : ℕ) {rs : List Row} {pr : Pair} → ValidRows ds rs → MayResolve ds rs pr → heavy L rs ≡ false
    → heavy L (resolve ds pr rs) ≡ heavy_any L (moved_weight pr rs) (kept_of ds pr rs) rs
too_heavy {ds} L {rs} {pr} v p e =
    let u = moved_weight pr rs in
    let cs = kept_of ds pr rs in
    let up = raised u cs rs in
    let one = heavy-at L rs pr.first e in
    let two = heavy-at L rs pr.second e in
    let below = ap (λ r. r.weight) (lessen_below u pr.first pr.second up p.ordered) in
    let first = raised_other u cs rs pr.first (outcome v p).first_other in
    let second = raised_other u cs rs pr.second (outcome v p).second_other in
    let fits : u ≤ L = omega (arith, moved_le pr rs) in
    ap (heavy L) (resolve_as_written v p) ∙ heavy-append L (lessened u pr up) (fresh u cs rs)
    ∙ rw (heavy-fresh L u cs rs fits) (or-false (heavy L (lessened u pr up)))
    ∙ heavy-lessen L u pr.first (lessen u pr.second up) (omega arith)
    ∙ heavy-lessen L u pr.second up (omega arith)
    ∙ heavy-raised L u cs (single v) fits e

-- ---- clause by clause

pub heavy_any_more : (L u : ℕ) (cs : List (List ℕ)) (c : List ℕ) (rs : List Row)
    → heavy_any L u (cs ++ (c ∷ [])) rs ≡ (heavy_any L u cs rs || ltb L (weight_of c rs + u))
unfolding heavy_any
heavy_any_more L u [] c rs = or-false (ltb L (weight_of c rs + u))
heavy_any_more L u (b ∷ cs) c rs = go (ltb L (weight_of b rs + u)) (heavy_any_more L u cs c rs)
  where
    go : (t : Bool) → heavy_any L u (cs ++ (c ∷ [])) rs ≡ (heavy_any L u cs rs || ltb L (weight_of c rs + u))
        → (t || heavy_any L u (cs ++ (c ∷ [])) rs) ≡ (t || heavy_any L u cs rs || ltb L (weight_of c rs + u))
    go true ih = refl
    go false ih = ih

-- the weight looked up for the signs of row k
pub weight_of-at : {rs : List Row} (k : ℕ) (c : List ℕ) → Single rs → k < length rs → (get_or rs k no_row).signs ≡ c → weight_of c rs ≡ (get_or rs k no_row).weight
weight_of-at k c nil_single h e = absurd (omega arith)
weight_of-at zero c (cons_single {r = r} {rs = rs} a t) h e = weight_of-same c r rs (ap (λ x. same x c) e ∙ same_refl c)
weight_of-at (suc k) c (cons_single {r = r} {rs = rs} a t) h e =
    weight_of_other c r rs (other_at rs r.signs k c a (omega arith) e) ∙ weight_of-at k c t (omega arith) e
