-- A step keeps the rows valid: conclusions of valid clauses stay within their sizes, so each is a tautology or a valid clause,
-- adding keeps equal signs together, and taking weight away removes a row that has none left.
use Prim.Native.Nat.{ℕ, zero, suc, ◌+◌, ◌-◌, ◌<◌, ◌≤◌}
use mathlib.Core.Path.{◌≡◌, refl, ◌∙◌}
use mathlib.Core.Bool.{Bool, true, false, ◌||◌, cond, true≢false}
use mathlib.Core.List.{List, [], ◌∷◌, ◌++◌, map}
use native.Mathlib.Omega.{arith}
use lib.ListN.{length, get_or, set}
use lib.Bits.{bit_and, bit_or}
use lib.Dec.{eqb}
use borrow.Author.Tests.{eqb-false}
use Rattle.wcsp.specs.Sign.{full, complement, present}
use Rattle.wcsp.specs.Clause.{Along, nil, cons, ValidClause, same, tautology}
use Rattle.wcsp.specs.Row.{Row, merge, add, add_all, Absent, nil_absent, cons_absent, ValidRows, nil_rows, cons_rows}
use Rattle.wcsp.specs.Rule.{joined, others, excluding, conclusions}
use Rattle.wcsp.specs.Resolve.{Pair, no_row, lessen, moved_weight, resolve}
use Rattle.wcsp.specs.Theorems.{StepValid}
use Rattle.wcsp.proofs.Signs.{or_le-full, and_le-full, complement-le-full}
use Rattle.wcsp.proofs.Lists.{same_sym, along_map, along_others}

-- a clause over these sizes: a full sign is allowed
abbrev pub Bounded : List ℕ → List ℕ → Type 0
Bounded ds c = Along (λ d S. S ≤ full d) ds c

-- P holds of every clause of the list
pub data Each (P : List ℕ → Type 0) : List (List ℕ) → Type 0 where
  nil_each : Each P []
  cons_each : {c : List ℕ} {cs : List (List ℕ)} → P c → Each P cs → Each P (c ∷ cs)

pub each_append : {P : List ℕ → Type 0} {xs ys : List (List ℕ)} → Each P xs → Each P ys → Each P (xs ++ ys)
each_append nil_each t = t
each_append (cons_each h s) t = cons_each h (each_append s t)

pub each_map : {P Q : List ℕ → Type 0} (f : List ℕ → List ℕ) {xs : List (List ℕ)} → ((c : List ℕ) → P c → Q (f c)) → Each P xs → Each Q (map f xs)
each_map f g nil_each = nil_each
each_map f g (cons_each {c = c} h s) = cons_each (g c h) (each_map f g s)

pub each_prefixed : {P : List ℕ → Type 0} (S : ℕ) → ((c : List ℕ) → P (S ∷ c)) → (cs : List (List ℕ)) → Each P (map (λ c. S ∷ c) cs)
each_prefixed S f [] = nil_each
each_prefixed S f (c ∷ cs) = cons_each (f c) (each_prefixed S f cs)

pub bounded_valid : {ds c : List ℕ} → ValidClause ds c → Bounded ds c
bounded_valid v = along_map (λ d S h. omega arith) v

-- what is no tautology is valid
pub valid_bounded : {ds c : List ℕ} → Bounded ds c → tautology ds c ≡ false → ValidClause ds c
unfolding tautology
valid_bounded nil e = nil
valid_bounded (cons {a = d} {b = S} {xs = ds} {ys = c} h t) e = go (eqb S (full d)) refl e (valid_bounded t)
  where
    go : (b : Bool) → eqb S (full d) ≡ b → (b || tautology ds c) ≡ false → (tautology ds c ≡ false → ValidClause ds c) → ValidClause (d ∷ ds) (S ∷ c)
    go true k e ih = absurd (true≢false e)
    go false k e ih = let l : S < full d = omega (arith, eqb-false S (full d) k) in cons l (ih e)

-- the first conclusion: the signs met at s and joined elsewhere
abbrev pub met : ℕ → List ℕ → List ℕ → List ℕ
met s x y = set (joined x y) s (bit_and (get_or x s 0) (get_or y s 0))

pub joined_bounded : {ds x y : List ℕ} → Bounded ds x → Bounded ds y → Bounded ds (joined x y)
unfolding joined
joined_bounded nil nil = nil
joined_bounded (cons {a = d} {b = S} h s) (cons {b = T} k t) = cons (or_le-full d S T h k) (joined_bounded s t)

pub met_bounded : (s : ℕ) {ds x y : List ℕ} → Bounded ds x → Bounded ds y → Bounded ds (met s x y)
unfolding joined
met_bounded s nil nil = nil
met_bounded zero (cons {a = d} {b = S} h s) (cons {b = T} k t) = cons (and_le-full d S T h k) (joined_bounded s t)
met_bounded (suc i) (cons {a = d} {b = S} h s) (cons {b = T} k t) = cons (or_le-full d S T h k) (met_bounded i s t)

pub others_bounded : (s : ℕ) {ds x : List ℕ} → Bounded ds x → Bounded ds (others s x)
others_bounded s b = along_others s (λ d S h. omega arith) b

pub others_valid : (s : ℕ) {ds x : List ℕ} → ValidClause ds x → ValidClause ds (others s x)
others_valid s v = along_others s (λ d S h. omega arith) v

pub excluding_bounded : {ds x y : List ℕ} → Bounded ds x → Bounded ds y → Each (Bounded ds) (excluding ds x y)
unfolding excluding
excluding_bounded nil nil = nil_each
excluding_bounded (cons {a = d} {b = S} {xs = ds} {ys = x} h s) (cons {b = T} k t) =
    each_append (one (present T)) (each_map (λ c. bit_or S T ∷ c) (λ c b. cons (or_le-full d S T h k) b) (excluding_bounded s t))
  where
    one : (b : Bool) → Each (Bounded (d ∷ ds)) (cond b ((bit_or S (complement d T) ∷ x) ∷ []) [])
    one true = cons_each (cons (or_le-full d S (complement d T) h (complement-le-full d T)) s) nil_each
    one false = nil_each

-- the conclusions of two clauses go beyond no size
pub conclusions_bounded : (s : ℕ) {ds x y : List ℕ} → ValidClause ds x → ValidClause ds y → Each (Bounded ds) (conclusions ds s x y)
unfolding conclusions
conclusions_bounded s {ds} {x} {y} v w =
    let a : Bounded ds x = bounded_valid v in
    let b : Bounded ds y = bounded_valid w in
    cons_each (met_bounded s a b) (cons_each (joined_bounded a b) (each_append (excluding_bounded a (others_bounded s b)) (excluding_bounded b (others_bounded s a))))

absent_merge : {a : List ℕ} (u : ℕ) {rs : List Row} (c : List ℕ) → same c a ≡ false → Absent a rs → Absent a (merge u rs c)
unfolding merge
absent_merge u c e nil_absent = cons_absent e nil_absent
absent_merge {a} u c e (cons_absent {r = r} {rs = rs} h t) = go (same r.signs c) (absent_merge u c e t)
  where
    go : (b : Bool) → Absent a (merge u rs c) → Absent a (cond b (record { signs = r.signs; weight = r.weight + u } ∷ rs) (r ∷ merge u rs c))
    go true ih = cons_absent h t
    go false ih = cons_absent h ih

pub valid_merge : {ds : List ℕ} (u : ℕ) {rs : List Row} (c : List ℕ) → 0 < u → ValidClause ds c → ValidRows ds rs → ValidRows ds (merge u rs c)
unfolding merge
valid_merge u c p v nil_rows = cons_rows v p nil_absent nil_rows
valid_merge {ds} u c p v (cons_rows {r = r} {rs = rs} k w a t) = go (same r.signs c) refl (valid_merge u c p v t)
  where
    go : (b : Bool) → same r.signs c ≡ b → ValidRows ds (merge u rs c)
        → ValidRows ds (cond b (record { signs = r.signs; weight = r.weight + u } ∷ rs) (r ∷ merge u rs c))
    go true e ih = let l : 0 < r.weight + u = omega arith in cons_rows k l a t
    go false e ih = cons_rows k w (absent_merge u c (same_sym c r.signs ∙ e) a) ih

pub valid_add : {ds : List ℕ} (u : ℕ) {rs : List Row} (c : List ℕ) → 0 < u → Bounded ds c → ValidRows ds rs → ValidRows ds (add ds u rs c)
unfolding add
valid_add {ds} u {rs} c p b t = go (tautology ds c) refl
  where
    go : (b : Bool) → tautology ds c ≡ b → ValidRows ds (cond b rs (merge u rs c))
    go true e = t
    go false e = valid_merge u c p (valid_bounded b e) t

pub valid_add_all : {ds : List ℕ} (u : ℕ) {rs : List Row} {cs : List (List ℕ)} → 0 < u → Each (Bounded ds) cs → ValidRows ds rs → ValidRows ds (add_all ds u rs cs)
unfolding add_all
valid_add_all u p nil_each t = t
valid_add_all {ds = ds} u {rs = rs} p (cons_each {c = c} b bs) t = valid_add_all u {rs = add ds u rs c} p bs (valid_add u c p b t)

absent_lessen : {a : List ℕ} (u i : ℕ) {rs : List Row} → Absent a rs → Absent a (lessen u i rs)
unfolding lessen
absent_lessen u i nil_absent = nil_absent
absent_lessen {a} u zero (cons_absent {r = r} {rs = rs} h t) = go (eqb (r.weight - u) 0)
  where
    go : (b : Bool) → Absent a (cond b rs (record { signs = r.signs; weight = r.weight - u } ∷ rs))
    go true = t
    go false = cons_absent h t
absent_lessen u (suc i) (cons_absent h t) = cons_absent h (absent_lessen u i t)

pub valid_lessen : {ds : List ℕ} (u i : ℕ) {rs : List Row} → ValidRows ds rs → ValidRows ds (lessen u i rs)
unfolding lessen
valid_lessen u i nil_rows = nil_rows
valid_lessen {ds} u zero (cons_rows {r = r} {rs = rs} k w a t) = go (eqb (r.weight - u) 0) refl
  where
    go : (b : Bool) → eqb (r.weight - u) 0 ≡ b → ValidRows ds (cond b rs (record { signs = r.signs; weight = r.weight - u } ∷ rs))
    go true e = t
    go false e = let l : 0 < r.weight - u = omega (arith, eqb-false (r.weight - u) 0 e) in cons_rows k l a t
valid_lessen u (suc i) (cons_rows k w a t) = cons_rows k w (absent_lessen u i a) (valid_lessen u i t)

-- what valid rows say of one of them
pub valid_signs_lem : {ds : List ℕ} (i : ℕ) {rs : List Row} → ValidRows ds rs → i < length rs → ValidClause ds (get_or rs i no_row).signs
valid_signs_lem i nil_rows h = absurd (omega arith)
valid_signs_lem zero (cons_rows k w a t) h = k
valid_signs_lem (suc i) (cons_rows k w a t) h = valid_signs_lem i t (omega arith)

pub valid_weight : {ds : List ℕ} (i : ℕ) {rs : List Row} → ValidRows ds rs → i < length rs → 0 < (get_or rs i no_row).weight
valid_weight i nil_rows h = omega arith
valid_weight zero (cons_rows k w a t) h = w
valid_weight (suc i) (cons_rows k w a t) h = valid_weight i t (omega arith)

pub moved_positive : {ds : List ℕ} {rs : List Row} (pr : Pair) → ValidRows ds rs → pr.first < length rs → pr.second < length rs → 0 < moved_weight pr rs
unfolding moved_weight
moved_positive pr v h k = omega (arith, valid_weight pr.first v h, valid_weight pr.second v k)

pub step_valid : StepValid
unfolding resolve
step_valid ds rs pr v p =
    let h : pr.first < length rs = omega (arith, p.ordered, p.in_table) in
    valid_add_all (moved_weight pr rs) (moved_positive pr v h p.in_table)
    (conclusions_bounded pr.variable (valid_signs_lem pr.first v h) (valid_signs_lem pr.second v p.in_table))
    (valid_lessen (moved_weight pr rs) pr.first (valid_lessen (moved_weight pr rs) pr.second v))
