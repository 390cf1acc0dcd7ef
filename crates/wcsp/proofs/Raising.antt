-- Raising one clause at a time: a clause more raises the one row that has its signs, or stands behind as a new row if none has.
-- And the raised rows stand where the rows stood, with the same signs, so that taking weight from a row of other signs commutes with it.
use Prim.Native.Nat.{ℕ, zero, suc, ◌+◌, ◌-◌, ◌<◌}
use native.Mathlib.Omega.{arith}
use mathlib.Core.Path.{◌≡◌, refl, sym, ap, ◌∙◌}
use mathlib.Core.Bool.{Bool, true, false, ◌||◌, cond, or-false}
use mathlib.Core.List.{List, [], ◌∷◌, ◌++◌, append-nil}
use lib.ListN.{length, get_or}
use lib.Dec.{eqb}
use Rattle.wcsp.specs.Clause.{same}
use Rattle.wcsp.specs.Row.{Row, Absent, ValidRows}
use Rattle.wcsp.specs.Resolve.{no_row, lessen}
use Rattle.wcsp.proofs.Lists.{same_refl, or_left, or_right}
use Rattle.wcsp.proofs.Adding.{member, has_row, row_of, raised, fresh, Single, nil_single, cons_single, single, absent_has, has-at, other_at}

-- row k with the weight w
unfoldable pub set_weight : List Row → ℕ → ℕ → List Row
set_weight [] k w = []
set_weight (r ∷ rs) zero w = row_of r.signs w ∷ rs
set_weight (r ∷ rs) (suc k) w = r ∷ set_weight rs k w

-- ---- places

pub raised-length : (u : ℕ) (cs : List (List ℕ)) (rs : List Row) → length (raised u cs rs) ≡ length rs
unfolding raised
raised-length u cs [] = refl
raised-length u cs (r ∷ rs) = ap suc (raised-length u cs rs)

pub raised_signs : (u : ℕ) (cs : List (List ℕ)) (rs : List Row) (k : ℕ) → (get_or (raised u cs rs) k no_row).signs ≡ (get_or rs k no_row).signs
unfolding raised
raised_signs u cs [] k = refl
raised_signs u cs (r ∷ rs) zero = refl
raised_signs u cs (r ∷ rs) (suc k) = raised_signs u cs rs k

pub raised_other : (u : ℕ) (cs : List (List ℕ)) (rs : List Row) (k : ℕ) → member (get_or rs k no_row).signs cs ≡ false
    → (get_or (raised u cs rs) k no_row).weight ≡ (get_or rs k no_row).weight
unfolding raised
raised_other u cs [] k n = refl
raised_other u cs (r ∷ rs) zero n = rw n
raised_other u cs (r ∷ rs) (suc k) n = raised_other u cs rs k n

pub set_weight-length : (rs : List Row) (k w : ℕ) → length (set_weight rs k w) ≡ length rs
unfolding set_weight
set_weight-length [] k w = refl
set_weight-length (r ∷ rs) zero w = refl
set_weight-length (r ∷ rs) (suc k) w = ap suc (set_weight-length rs k w)

-- ---- one clause more

pub member_more : (x : List ℕ) (cs : List (List ℕ)) (c : List ℕ) → member x (cs ++ (c ∷ [])) ≡ (member x cs || same x c)
unfolding member
member_more x [] c = or-false (same x c)
member_more x (b ∷ cs) c = go (same x b) (member_more x cs c)
  where
    go : (t : Bool) → member x (cs ++ (c ∷ [])) ≡ (member x cs || same x c) → (t || member x (cs ++ (c ∷ []))) ≡ (t || member x cs || same x c)
    go true ih = refl
    go false ih = ih

pub raised_more_without : (u : ℕ) (cs : List (List ℕ)) (c : List ℕ) (rs : List Row) → has_row c rs ≡ false → raised u (cs ++ (c ∷ [])) rs ≡ raised u cs rs
unfolding raised has_row
raised_more_without u cs c [] h = refl
raised_more_without u cs c (r ∷ rs) h =
    let e : member r.signs (cs ++ (c ∷ [])) ≡ member r.signs cs
    = rw (member_more, or_left (same r.signs c) _ h) (or-false (member r.signs cs)) in
    rw (e, raised_more_without u cs c rs (or_right (same r.signs c) _ h))

pub raised_more_absent : (u : ℕ) (cs : List (List ℕ)) {c : List ℕ} {rs : List Row} → Absent c rs → raised u (cs ++ (c ∷ [])) rs ≡ raised u cs rs
raised_more_absent u cs {c} {rs} a = raised_more_without u cs c rs (absent_has a)

-- the row that has the signs weighs u more, and no other changes
pub raised_more_at : (u : ℕ) (cs : List (List ℕ)) (c : List ℕ) {rs : List Row} (k : ℕ) → Single rs → member c cs ≡ false → k < length rs
    → (get_or rs k no_row).signs ≡ c → raised u (cs ++ (c ∷ [])) rs ≡ set_weight (raised u cs rs) k ((get_or rs k no_row).weight + u)
unfolding raised set_weight
raised_more_at u cs c k nil_single n h e = absurd (omega arith)
raised_more_at u cs c zero (cons_single {r = r} {rs = rs} a t) n h e =
    let m : member r.signs (cs ++ (c ∷ [])) ≡ true = rw (member_more, e, n) (same_refl c) in
    rw (m, raised_more_without u cs c rs (ap (λ x. has_row x rs) (sym e) ∙ a))
raised_more_at u cs c (suc k) (cons_single {r = r} {rs = rs} a t) n h e =
    let m : member r.signs (cs ++ (c ∷ [])) ≡ member r.signs cs
    = rw (member_more, other_at rs r.signs k c a (omega arith) e) (or-false (member r.signs cs)) in
    rw (m, raised_more_at u cs c k t n (omega arith) e)

pub raised_more : {ds : List ℕ} (u : ℕ) (cs : List (List ℕ)) (c : List ℕ) {rs : List Row} (k : ℕ) → ValidRows ds rs → member c cs ≡ false → k < length rs
    → (get_or rs k no_row).signs ≡ c → raised u (cs ++ (c ∷ [])) rs ≡ set_weight (raised u cs rs) k ((get_or rs k no_row).weight + u)
raised_more u cs c k v n h e = raised_more_at u cs c k (single v) n h e

fresh_more : (u : ℕ) (cs : List (List ℕ)) (c : List ℕ) (rs : List Row) → fresh u (cs ++ (c ∷ [])) rs ≡ fresh u cs rs ++ cond (has_row c rs) [] (row_of c u ∷ [])
unfolding fresh
fresh_more u [] c rs = refl
fresh_more u (b ∷ cs) c rs = go (has_row b rs) (fresh_more u cs c rs)
  where
    go : (t : Bool) → fresh u (cs ++ (c ∷ [])) rs ≡ fresh u cs rs ++ cond (has_row c rs) [] (row_of c u ∷ [])
        → cond t (fresh u (cs ++ (c ∷ [])) rs) (row_of b u ∷ fresh u (cs ++ (c ∷ [])) rs)
        ≡ cond t (fresh u cs rs) (row_of b u ∷ fresh u cs rs) ++ cond (has_row c rs) [] (row_of c u ∷ [])
    go true ih = ih
    go false ih = rw ih

pub fresh_more_absent : (u : ℕ) (cs : List (List ℕ)) {c : List ℕ} {rs : List Row} → Absent c rs
    → fresh u (cs ++ (c ∷ [])) rs ≡ fresh u cs rs ++ (row_of c u ∷ [])
fresh_more_absent u cs {c} {rs} a = fresh_more u cs c rs ∙ rw (absent_has a)

pub fresh_more_at : (u : ℕ) (cs : List (List ℕ)) (c : List ℕ) (rs : List Row) (k : ℕ) → k < length rs → (get_or rs k no_row).signs ≡ c
    → fresh u (cs ++ (c ∷ [])) rs ≡ fresh u cs rs
fresh_more_at u cs c rs k h e = fresh_more u cs c rs ∙ rw (has-at rs k c h e) (append-nil (fresh u cs rs))

-- ---- taking weight away

pub raised-lessen : (u v : ℕ) (cs : List (List ℕ)) (i : ℕ) (rs : List Row) → i < length rs → member (get_or rs i no_row).signs cs ≡ false
    → raised u cs (lessen v i rs) ≡ lessen v i (raised u cs rs)
unfolding raised lessen
raised-lessen u v cs i [] h n = refl
raised-lessen u v cs zero (r ∷ rs) h n = rw n (go (eqb (r.weight - v) 0))
  where
    go : (b : Bool) → raised u cs (cond b rs (row_of r.signs (r.weight - v) ∷ rs))
        ≡ cond b (raised u cs rs) (row_of r.signs (r.weight - v) ∷ raised u cs rs)
    go true = refl
    go false = rw n
raised-lessen u v cs (suc i) (r ∷ rs) h n = rw (raised-lessen u v cs i rs (omega arith) n)

has-lessen : (v i : ℕ) (rs : List Row) (c : List ℕ) → same (get_or rs i no_row).signs c ≡ false → has_row c (lessen v i rs) ≡ has_row c rs
unfolding has_row lessen
has-lessen v i [] c n = refl
has-lessen v zero (r ∷ rs) c n = go (eqb (r.weight - v) 0)
  where
    go : (b : Bool) → has_row c (cond b rs (row_of r.signs (r.weight - v) ∷ rs)) ≡ (same r.signs c || has_row c rs)
    go true = rw n
    go false = refl
has-lessen v (suc i) (r ∷ rs) c n = rw (has-lessen v i rs c n)

pub fresh-lessen : (u v : ℕ) (cs : List (List ℕ)) (i : ℕ) (rs : List Row) → member (get_or rs i no_row).signs cs ≡ false
    → fresh u cs (lessen v i rs) ≡ fresh u cs rs
unfolding fresh member
fresh-lessen u v [] i rs n = refl
fresh-lessen u v (c ∷ cs) i rs n =
    let x = (get_or rs i no_row).signs in
    rw (has-lessen v i rs c (or_left (same x c) _ n), fresh-lessen u v cs i rs (or_right (same x c) _ n))
