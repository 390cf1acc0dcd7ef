-- Rows widened: weights, sums and the step on two rows are as before, and a step keeps the number of signs.
use Prim.Native.Nat.{ℕ, zero, suc, ◌+◌, ◌-◌, ◌<◌}
use native.Mathlib.Nat.{le_of_suc-le-suc}
use native.Mathlib.Omega.{arith}
use mathlib.Core.Path.{◌≡◌, refl, sym, ap, ◌∙◌}
use mathlib.Core.Bool.{Bool, true, false, ◌||◌, cond}
use mathlib.Core.List.{List, [], ◌∷◌, ◌++◌, map}
use lib.ListN.{length, get_or, replicate, length-set, length-map, replicate-append-replicate}
use lib.Bits.{bit_or}
use lib.Dec.{eqb, ltb}
use Rattle.wcsp.specs.Sign.{complement, present}
use Rattle.wcsp.specs.Clause.{tautology, same}
use Rattle.wcsp.specs.Row.{Row, falsified, weight_of, empty_weight, heavy, merge, add, add_all}
use Rattle.wcsp.specs.Rule.{joined, others, excluding, conclusions}
use Rattle.wcsp.specs.Resolve.{Pair, no_row, lessen, moved_weight, conclusions_of, resolve}
use Rattle.wcsp.specs.Widening.{widened, wide, wide_values, wide_row, wide_rows, clauses_of, Spanning, nil_spanning, cons_spanning}
use Rattle.wcsp.proofs.WideningClauses.{same-wide, tautology-wide, conclusions-wide, joined_length, falsifies-wide}

pub length-wide : (k : ℕ) (rs : List Row) → length (wide_rows k rs) ≡ length rs
unfolding wide_rows
length-wide k rs = length-map rs (wide_row k)

pub heavy-wide : (k L : ℕ) (rs : List Row) → heavy L (wide_rows k rs) ≡ heavy L rs
unfolding wide_rows heavy
heavy-wide k L [] = refl
heavy-wide k L (r ∷ rs) = ap (λ b. ltb L r.weight || b) (heavy-wide k L rs)

-- ---- one row

pub row_weight : (k : ℕ) (rs : List Row) (i : ℕ) → (get_or (wide_rows k rs) i no_row).weight ≡ (get_or rs i no_row).weight
unfolding wide_rows
row_weight k [] i = refl
row_weight k (r ∷ rs) zero = refl
row_weight k (r ∷ rs) (suc i) = row_weight k rs i

pub row_signs : (k : ℕ) (rs : List Row) (i : ℕ) → i < length rs
    → (get_or (wide_rows k rs) i no_row).signs ≡ wide k (get_or rs i no_row).signs
unfolding wide_rows
row_signs k [] i h = absurd (omega arith)
row_signs k (r ∷ rs) zero h = refl
row_signs k (r ∷ rs) (suc i) h = row_signs k rs i (le_of_suc-le-suc h)

pub spanning_at : {n : ℕ} (rs : List Row) → Spanning n (clauses_of rs) → (i : ℕ) → i < length rs → length (get_or rs i no_row).signs ≡ n
spanning_at [] s i h = absurd (omega arith)
spanning_at (r ∷ rs) (cons_spanning e s) zero h = e
spanning_at (r ∷ rs) (cons_spanning e s) (suc i) h = spanning_at rs s i (le_of_suc-le-suc h)

-- ---- sums and weights

weight_of-wide : (k : ℕ) (c : List ℕ) (rs : List Row) → weight_of (wide k c) (wide_rows k rs) ≡ weight_of c rs
unfolding wide_rows weight_of
weight_of-wide k c [] = refl
weight_of-wide k c (r ∷ rs) = rw (same-wide k r.signs c, weight_of-wide k c rs)

pub empty_wide : (k n : ℕ) (rs : List Row) → empty_weight (n + k) (wide_rows k rs) ≡ empty_weight n rs
unfolding empty_weight
empty_wide k n rs =
    ap (λ c. weight_of c (wide_rows k rs)) (sym (replicate-append-replicate n k 0)) ∙ weight_of-wide k (replicate n 0) rs

pub falsified-wide : (k : ℕ) (p : List ℕ) (rs : List Row) → Spanning (length p) (clauses_of rs)
    → falsified (wide_values k p) (wide_rows k rs) ≡ falsified p rs
unfolding wide_rows falsified
falsified-wide k p [] s = refl
falsified-wide k p (r ∷ rs) (cons_spanning e s) = rw (falsifies-wide k p (replicate k 0) r.signs e, falsified-wide k p rs s)

-- ---- adding clauses and taking weight

merge-wide : (k u : ℕ) (rs : List Row) (c : List ℕ) → merge u (wide_rows k rs) (wide k c) ≡ wide_rows k (merge u rs c)
unfolding wide_rows merge
merge-wide k u [] c = refl
merge-wide k u (r ∷ rs) c = rw (same-wide k r.signs c) (go (same r.signs c) (merge-wide k u rs c))
  where
    go : (b : Bool) → merge u (wide_rows k rs) (wide k c) ≡ wide_rows k (merge u rs c)
        → cond b (record { signs = wide k r.signs; weight = r.weight + u } ∷ wide_rows k rs) (wide_row k r ∷ merge u (wide_rows k rs) (wide k c))
        ≡ wide_rows k (cond b (record { signs = r.signs; weight = r.weight + u } ∷ rs) (r ∷ merge u rs c))
    go true ih = refl
    go false ih = ap (λ t. wide_row k r ∷ t) ih

pub add_wide : (k : ℕ) (ds : List ℕ) (u : ℕ) (rs : List Row) (c : List ℕ) → length c ≡ length ds
    → add (widened k ds) u (wide_rows k rs) (wide k c) ≡ wide_rows k (add ds u rs c)
unfolding add
add_wide k ds u rs c h = rw (tautology-wide k ds c h, merge-wide k u rs c) (go (tautology ds c))
  where
    go : (b : Bool) → cond b (wide_rows k rs) (wide_rows k (merge u rs c)) ≡ wide_rows k (cond b rs (merge u rs c))
    go true = refl
    go false = refl

add_all-wide : (k : ℕ) (ds : List ℕ) (u : ℕ) (rs : List Row) {cs : List (List ℕ)} → Spanning (length ds) cs
    → add_all (widened k ds) u (wide_rows k rs) (map (wide k) cs) ≡ wide_rows k (add_all ds u rs cs)
unfolding add_all
add_all-wide k ds u rs nil_spanning = refl
add_all-wide k ds u rs (cons_spanning {c = c} {cs = cs} e s) =
    ap (λ t. add_all (widened k ds) u t (map (wide k) cs)) (add_wide k ds u rs c e) ∙ add_all-wide k ds u (add ds u rs c) s

lessen-wide : (k u i : ℕ) (rs : List Row) → lessen u i (wide_rows k rs) ≡ wide_rows k (lessen u i rs)
unfolding wide_rows lessen
lessen-wide k u i [] = refl
lessen-wide k u zero (r ∷ rs) = go (eqb (r.weight - u) 0)
  where
    go : (b : Bool) → cond b (wide_rows k rs) (record { signs = wide k r.signs; weight = r.weight - u } ∷ wide_rows k rs)
        ≡ wide_rows k (cond b rs (record { signs = r.signs; weight = r.weight - u } ∷ rs))
    go true = refl
    go false = refl
lessen-wide k u (suc i) (r ∷ rs) = ap (λ t. wide_row k r ∷ t) (lessen-wide k u i rs)

-- ---- the number of signs

spanning_append : {n : ℕ} {xs ys : List (List ℕ)} → Spanning n xs → Spanning n ys → Spanning n (xs ++ ys)
spanning_append nil_spanning t = t
spanning_append (cons_spanning e s) t = cons_spanning e (spanning_append s t)

spanning_cons : {n : ℕ} (S : ℕ) {cs : List (List ℕ)} → Spanning n cs → Spanning (suc n) (map (λ c. S ∷ c) cs)
spanning_cons S nil_spanning = nil_spanning
spanning_cons S (cons_spanning e s) = cons_spanning (ap suc e) (spanning_cons S s)

spanning_excluding : (ds x y : List ℕ) → length x ≡ length ds → Spanning (length ds) (excluding ds x y)
unfolding excluding
spanning_excluding [] x y h = nil_spanning
spanning_excluding (d ∷ ds) [] y h = nil_spanning
spanning_excluding (d ∷ ds) (S ∷ x) [] h = nil_spanning
spanning_excluding (d ∷ ds) (S ∷ x) (T ∷ y) h =
    spanning_append (one (present T)) (spanning_cons (bit_or S T) (spanning_excluding ds x y (omega arith)))
  where
    one : (b : Bool) → Spanning (suc (length ds)) (cond b ((bit_or S (complement d T) ∷ x) ∷ []) [])
    one true = cons_spanning h nil_spanning
    one false = nil_spanning

pub spanning_conclusions : (ds : List ℕ) (s : ℕ) (x y : List ℕ) → length x ≡ length ds → length y ≡ length ds
    → Spanning (length ds) (conclusions ds s x y)
unfolding conclusions
spanning_conclusions ds s x y h l =
    let e : length (joined x y) ≡ length ds = joined_length x y (omega arith) ∙ h in
    cons_spanning (length-set (joined x y) s _ ∙ e)
    (cons_spanning e (spanning_append (spanning_excluding ds x (others s y) h) (spanning_excluding ds y (others s x) l)))

spanning_merge : {n : ℕ} (u : ℕ) (rs : List Row) (c : List ℕ) → length c ≡ n → Spanning n (clauses_of rs) → Spanning n (clauses_of (merge u rs c))
unfolding merge
spanning_merge u [] c e s = cons_spanning e nil_spanning
spanning_merge {n} u (r ∷ rs) c e (cons_spanning f s) = go (same r.signs c) (spanning_merge u rs c e s)
  where
    go : (b : Bool) → Spanning n (clauses_of (merge u rs c))
        → Spanning n (clauses_of (cond b (record { signs = r.signs; weight = r.weight + u } ∷ rs) (r ∷ merge u rs c)))
    go true ih = cons_spanning f s
    go false ih = cons_spanning f ih

pub spanning_add : {n : ℕ} (ds : List ℕ) (u : ℕ) (rs : List Row) (c : List ℕ) → length c ≡ n → Spanning n (clauses_of rs)
    → Spanning n (clauses_of (add ds u rs c))
unfolding add
spanning_add {n} ds u rs c e s = go (tautology ds c)
  where
    go : (b : Bool) → Spanning n (clauses_of (cond b rs (merge u rs c)))
    go true = s
    go false = spanning_merge u rs c e s

spanning_add_all : {n : ℕ} (ds : List ℕ) (u : ℕ) (rs : List Row) {cs : List (List ℕ)} → Spanning n cs → Spanning n (clauses_of rs)
    → Spanning n (clauses_of (add_all ds u rs cs))
unfolding add_all
spanning_add_all ds u rs nil_spanning s = s
spanning_add_all ds u rs (cons_spanning {c = c} e t) s = spanning_add_all ds u (add ds u rs c) t (spanning_add ds u rs c e s)

spanning_lessen : {n : ℕ} (u i : ℕ) (rs : List Row) → Spanning n (clauses_of rs) → Spanning n (clauses_of (lessen u i rs))
unfolding lessen
spanning_lessen u i [] s = nil_spanning
spanning_lessen {n} u zero (r ∷ rs) (cons_spanning e s) = go (eqb (r.weight - u) 0)
  where
    go : (b : Bool) → Spanning n (clauses_of (cond b rs (record { signs = r.signs; weight = r.weight - u } ∷ rs)))
    go true = s
    go false = cons_spanning e s
spanning_lessen u (suc i) (r ∷ rs) (cons_spanning e s) = cons_spanning e (spanning_lessen u i rs s)

-- ---- the step

pub spanning_resolve : (ds : List ℕ) (rs : List Row) → Spanning (length ds) (clauses_of rs) → (pr : Pair) → pr.first < length rs
    → pr.second < length rs → Spanning (length ds) (clauses_of (resolve ds pr rs))
unfolding resolve conclusions_of
spanning_resolve ds rs s pr h l =
    let u = moved_weight pr rs in
    let second : Spanning (length ds) (clauses_of (lessen u pr.second rs)) = spanning_lessen u pr.second rs s in
    spanning_add_all ds u (lessen u pr.first (lessen u pr.second rs))
    (spanning_conclusions ds pr.variable (get_or rs pr.first no_row).signs (get_or rs pr.second no_row).signs
    (spanning_at rs s pr.first h) (spanning_at rs s pr.second l))
    (spanning_lessen u pr.first (lessen u pr.second rs) second)

pub resolve-wide : (k : ℕ) (ds : List ℕ) (rs : List Row) → Spanning (length ds) (clauses_of rs) → (pr : Pair)
    → pr.first < length rs → pr.second < length rs → resolve (widened k ds) pr (wide_rows k rs) ≡ wide_rows k (resolve ds pr rs)
unfolding resolve moved_weight conclusions_of
resolve-wide k ds rs s pr h l =
    let e = spanning_at rs s pr.first h in
    let f = spanning_at rs s pr.second l in
    rw (
      row_weight k rs pr.first,
      row_weight k rs pr.second,
      row_signs k rs pr.first h,
      row_signs k rs pr.second l,
      conclusions-wide k ds pr.variable (get_or rs pr.first no_row).signs (get_or rs pr.second no_row).signs e f,
      lessen-wide k _ pr.second rs,
      lessen-wide k _ pr.first _,
    )
    (add_all-wide k ds _ _
    (spanning_conclusions ds pr.variable (get_or rs pr.first no_row).signs (get_or rs pr.second no_row).signs e f))
