-- Adding clauses all at once: rows that have one of the clauses' signs are raised where they stand, and the clauses that no row has
-- come behind, in order. Adding one after another comes to the same, if the clauses differ pairwise and no two rows have equal signs.
use Prim.Native.Nat.{ℕ, zero, suc, ◌+◌, ◌<◌}
use native.Mathlib.Omega.{arith}
use mathlib.Core.Path.{◌≡◌, refl, sym, ap, ◌∙◌}
use mathlib.Core.Bool.{Bool, true, false, ◌||◌, cond, or-true, true≢false}
use mathlib.Core.List.{List, [], ◌∷◌, ◌++◌, append-nil, append_assoc}
use lib.ListN.{length, get_or}
use Rattle.wcsp.specs.Clause.{same, tautology, kept}
use Rattle.wcsp.specs.Row.{Row, merge, add, add_all, Absent, nil_absent, cons_absent, ValidRows, nil_rows, cons_rows}
use Rattle.wcsp.specs.Resolve.{no_row}
use Rattle.wcsp.specs.Theorems.{Apart, nil_apart, cons_apart, Distinct, nil_distinct, cons_distinct}
use Rattle.wcsp.proofs.Lists.{same_refl, same-eq, same_sym, ne_same, or_left, or_right}
use Rattle.wcsp.proofs.Validity.{Each, nil_each, cons_each}

-- one of the clauses has the signs x
unfoldable pub member : List ℕ → List (List ℕ) → Bool
member x [] = false
member x (c ∷ cs) = same x c || member x cs

-- one of the rows has the signs c
unfoldable pub has_row : List ℕ → List Row → Bool
has_row c [] = false
has_row c (r ∷ rs) = same r.signs c || has_row c rs

-- the row of these signs and this weight
abbrev pub row_of : List ℕ → ℕ → Row
row_of c u = record { signs = c; weight = u }

-- every row whose signs one of the clauses has weighs u more
unfoldable pub raised : ℕ → List (List ℕ) → List Row → List Row
unfolding member
raised u cs [] = []
raised u cs (r ∷ rs) = row_of r.signs (cond (member r.signs cs) (r.weight + u) r.weight) ∷ raised u cs rs

-- a row of weight u for every clause that no row has
unfoldable pub fresh : ℕ → List (List ℕ) → List Row → List Row
unfolding has_row
fresh u [] rs = []
fresh u (c ∷ cs) rs = cond (has_row c rs) (fresh u cs rs) (row_of c u ∷ fresh u cs rs)

-- no two rows have equal signs
pub data Single : List Row → Type 0 where
  nil_single : Single []
  cons_single : {r : Row} {rs : List Row} → has_row r.signs rs ≡ false → Single rs → Single (r ∷ rs)

-- ---- the tests and the specification's data

pub absent_has : {c : List ℕ} {rs : List Row} → Absent c rs → has_row c rs ≡ false
unfolding has_row
absent_has nil_absent = refl
absent_has (cons_absent e a) = rw e (absent_has a)

pub has_absent : (c : List ℕ) (rs : List Row) → has_row c rs ≡ false → Absent c rs
unfolding has_row
has_absent c [] e = nil_absent
has_absent c (r ∷ rs) e = cons_absent (or_left (same r.signs c) _ e) (has_absent c rs (or_right (same r.signs c) _ e))

pub apart_member : {x : List ℕ} {cs : List (List ℕ)} → Apart x cs → member x cs ≡ false
unfolding member
apart_member nil_apart = refl
apart_member (cons_apart e a) = rw e (apart_member a)

pub single : {ds : List ℕ} {rs : List Row} → ValidRows ds rs → Single rs
single nil_rows = nil_single
single (cons_rows k w a t) = cons_single (absent_has a) (single t)

-- a row at k has its signs
pub has-at : (rs : List Row) (k : ℕ) (c : List ℕ) → k < length rs → (get_or rs k no_row).signs ≡ c → has_row c rs ≡ true
unfolding has_row
has-at [] k c h e = absurd (omega arith)
has-at (r ∷ rs) zero c h e = rw (sym e, same_refl r.signs)
has-at (r ∷ rs) (suc k) c h e = rw (has-at rs k c (omega arith) e) (or-true (same r.signs c))

-- so signs that no row has differ from it
pub other_at : (rs : List Row) (x : List ℕ) (k : ℕ) (c : List ℕ) → has_row x rs ≡ false → k < length rs → (get_or rs k no_row).signs ≡ c → same x c ≡ false
other_at rs x k c a h e = ne_same x c (λ q. true≢false (sym (has-at rs k x h (e ∙ sym q)) ∙ a))

-- ---- without the tautologies

pub add_all-kept : (ds : List ℕ) (u : ℕ) (rs : List Row) (cs : List (List ℕ)) → add_all ds u rs cs ≡ add_all ds u rs (kept ds cs)
unfolding add_all kept add
add_all-kept ds u rs [] = refl
add_all-kept ds u rs (c ∷ cs) = go (tautology ds c) refl (λ rs'. add_all-kept ds u rs' cs)
  where
    go : (b : Bool) → tautology ds c ≡ b → ((rs' : List Row) → add_all ds u rs' cs ≡ add_all ds u rs' (kept ds cs))
        → add_all ds u (cond b rs (merge u rs c)) cs ≡ add_all ds u rs (cond b (kept ds cs) (c ∷ kept ds cs))
    go true e ih = ih rs
    go false e ih = ih (merge u rs c) ∙ ap (λ b. add_all ds u (cond b rs (merge u rs c)) (kept ds cs)) (sym e)

pub kept_plain : (ds : List ℕ) (cs : List (List ℕ)) → Each (λ c. tautology ds c ≡ false) (kept ds cs)
unfolding kept
kept_plain ds [] = nil_each
kept_plain ds (c ∷ cs) = go (tautology ds c) refl (kept_plain ds cs)
  where
    go : (b : Bool) → tautology ds c ≡ b → Each (λ c. tautology ds c ≡ false) (kept ds cs)
        → Each (λ c. tautology ds c ≡ false) (cond b (kept ds cs) (c ∷ kept ds cs))
    go true e ih = ih
    go false e ih = cons_each e ih

pub kept_each : {P : List ℕ → Type 0} (ds : List ℕ) {cs : List (List ℕ)} → Each P cs → Each P (kept ds cs)
unfolding kept
kept_each ds nil_each = nil_each
kept_each {P} ds (cons_each {c = c} {cs = cs} h t) = go (tautology ds c) (kept_each ds t)
  where
    go : (b : Bool) → Each P (kept ds cs) → Each P (cond b (kept ds cs) (c ∷ kept ds cs))
    go true ih = ih
    go false ih = cons_each h ih

pub kept_apart : {x : List ℕ} (ds : List ℕ) {cs : List (List ℕ)} → Apart x cs → Apart x (kept ds cs)
unfolding kept
kept_apart ds nil_apart = nil_apart
kept_apart {x} ds (cons_apart {d = c} {cs = cs} e t) = go (tautology ds c) (kept_apart ds t)
  where
    go : (b : Bool) → Apart x (kept ds cs) → Apart x (cond b (kept ds cs) (c ∷ kept ds cs))
    go true ih = ih
    go false ih = cons_apart e ih

pub kept_distinct : (ds : List ℕ) {cs : List (List ℕ)} → Distinct cs → Distinct (kept ds cs)
unfolding kept
kept_distinct ds nil_distinct = nil_distinct
kept_distinct ds (cons_distinct {c = c} {cs = cs} a t) = go (tautology ds c) (kept_distinct ds t)
  where
    go : (b : Bool) → Distinct (kept ds cs) → Distinct (cond b (kept ds cs) (c ∷ kept ds cs))
    go true ih = ih
    go false ih = cons_distinct (kept_apart ds a) ih

pub kept_append : (ds : List ℕ) (xs ys : List (List ℕ)) → kept ds (xs ++ ys) ≡ kept ds xs ++ kept ds ys
unfolding kept
kept_append ds [] ys = refl
kept_append ds (c ∷ xs) ys = go (tautology ds c) (kept_append ds xs ys)
  where
    go : (b : Bool) → kept ds (xs ++ ys) ≡ kept ds xs ++ kept ds ys
        → cond b (kept ds (xs ++ ys)) (c ∷ kept ds (xs ++ ys)) ≡ cond b (kept ds xs) (c ∷ kept ds xs) ++ kept ds ys
    go true ih = ih
    go false ih = rw ih

-- ---- one clause merged

-- a clause of other signs changes nothing for d
has-merge : (u : ℕ) (rs : List Row) (c d : List ℕ) → same c d ≡ false → has_row d (merge u rs c) ≡ has_row d rs
unfolding has_row merge
has-merge u [] c d n = rw n
has-merge u (r ∷ rs) c d n = go (same r.signs c) (has-merge u rs c d n)
  where
    go : (b : Bool) → has_row d (merge u rs c) ≡ has_row d rs
        → has_row d (cond b (row_of r.signs (r.weight + u) ∷ rs) (r ∷ merge u rs c)) ≡ (same r.signs d || has_row d rs)
    go true ih = refl
    go false ih = rw ih

single_merge : (u : ℕ) {rs : List Row} (c : List ℕ) → Single rs → Single (merge u rs c)
unfolding merge has_row
single_merge u c nil_single = cons_single refl nil_single
single_merge u c (cons_single {r = r} {rs = rs} h t) = go (same r.signs c) refl (single_merge u c t)
  where
    go : (b : Bool) → same r.signs c ≡ b → Single (merge u rs c)
        → Single (cond b (row_of r.signs (r.weight + u) ∷ rs) (r ∷ merge u rs c))
    go true e ih = cons_single h t
    go false e ih = cons_single (has-merge u rs c r.signs (same_sym c r.signs ∙ e) ∙ h) ih

fresh-merge : (u v : ℕ) (rs : List Row) (c : List ℕ) {cs : List (List ℕ)} → Apart c cs → fresh u cs (merge v rs c) ≡ fresh u cs rs
unfolding fresh
fresh-merge u v rs c nil_apart = refl
fresh-merge u v rs c (cons_apart {d = d} e a) = rw (has-merge v rs c d e, fresh-merge u v rs c a)

raised_absent_head : (u : ℕ) (c : List ℕ) (cs : List (List ℕ)) (rs : List Row) → has_row c rs ≡ false → raised u (c ∷ cs) rs ≡ raised u cs rs
unfolding raised has_row
raised_absent_head u c cs [] h = refl
raised_absent_head u c cs (r ∷ rs) h =
    rw (or_left (same r.signs c) _ h, raised_absent_head u c cs rs (or_right (same r.signs c) _ h))

-- a merged clause is one more to raise by, and a row behind if no row has it
raised-merge : (u : ℕ) (c : List ℕ) (cs : List (List ℕ)) → member c cs ≡ false → {rs : List Row} → Single rs
    → raised u cs (merge u rs c) ≡ raised u (c ∷ cs) rs ++ cond (has_row c rs) [] (row_of c u ∷ [])
unfolding raised merge has_row
raised-merge u c cs n nil_single = rw n
raised-merge u c cs n (cons_single {r = r} {rs = rs} h t) = go (same r.signs c) refl (raised-merge u c cs n t)
  where
    go : (b : Bool) → same r.signs c ≡ b
        → raised u cs (merge u rs c) ≡ raised u (c ∷ cs) rs ++ cond (has_row c rs) [] (row_of c u ∷ [])
        → raised u cs (cond b (row_of r.signs (r.weight + u) ∷ rs) (r ∷ merge u rs c))
        ≡ raised u (c ∷ cs) (r ∷ rs) ++ cond (b || has_row c rs) [] (row_of c u ∷ [])
    go true e ih =
        let q : r.signs ≡ c = same-eq r.signs c e in
        let m : member r.signs cs ≡ false = ap (λ x. member x cs) q ∙ n in
        let a : has_row c rs ≡ false = ap (λ x. has_row x rs) (sym q) ∙ h in
        rw (e, m, append-nil (raised u (c ∷ cs) rs), raised_absent_head u c cs rs a)
    go false e ih = rw (e, ih)

-- ---- all clauses

pub raised-nil : (u : ℕ) (rs : List Row) → raised u [] rs ≡ rs
unfolding raised
raised-nil u [] = refl
raised-nil u (r ∷ rs) = rw (raised-nil u rs)

pub adding_single : (ds : List ℕ) (u : ℕ) {rs : List Row} {cs : List (List ℕ)} → Single rs → Distinct cs → Each (λ c. tautology ds c ≡ false) cs
    → add_all ds u rs cs ≡ raised u cs rs ++ fresh u cs rs
unfolding add_all add fresh
adding_single ds u {rs} t nil_distinct nil_each = rw (append-nil, raised-nil)
adding_single ds u {rs} t (cons_distinct {c = c} {cs = cs} a d) (cons_each e es) =
    rw e (adding_single ds u {rs = merge u rs c} (single_merge u c t) d es
    ∙ rw (fresh-merge u u rs c a, raised-merge u c cs (apart_member a) t, append_assoc) (ap (λ l. raised u (c ∷ cs) rs ++ l) (behind (has_row c rs))))
  where
    behind : (b : Bool) → cond b [] (row_of c u ∷ []) ++ fresh u cs rs ≡ cond b (fresh u cs rs) (row_of c u ∷ fresh u cs rs)
    behind true = refl
    behind false = refl

pub adding : {ds : List ℕ} (u : ℕ) {rs : List Row} {cs : List (List ℕ)} → ValidRows ds rs → Distinct cs → Each (λ c. tautology ds c ≡ false) cs
    → add_all ds u rs cs ≡ raised u cs rs ++ fresh u cs rs
adding {ds} u v d e = adding_single ds u (single v) d e
