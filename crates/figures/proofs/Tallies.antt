-- The figures of sheets with one more behind them, and so of all sheets counted one by one.
use Prim.Native.Nat.{ℕ, zero, suc, ◌+◌, ◌≤◌, ◌<◌, max}
use native.Mathlib.Omega.{arith}
use mathlib.Core.Path.{◌≡◌, refl, sym, ap, ◌∙◌}
use mathlib.Core.Bool.{Bool, true, false, cond, ◌&&◌, ◌||◌}
use mathlib.Core.List.{List, [], ◌∷◌, ◌++◌, append-nil}
use lib.ListN.{length, get_or, set, length-append}
use lib.Seq.{append_snoc}
use lib.Dec.{eqb, ltb}
use borrow.Author.Tests.{eq-eqb, ne_eqb, eqb-true, eqb-false, ltb-true, ltb-false}
use Rattle.fields.specs.Entries.{Each, nil_each, cons_each}
use Rattle.figures.specs.declared.Figures.{Figures}
use Rattle.figures.specs.Counting.{column_count, no_figures, sum_of, sheets_of, leads, counted}
use Rattle.figures.specs.Tallies.{SheetFigure, is_planned, count_in, counts_from, costs_of, greatest, first_at, figures_of}
use Rattle.figures.specs.Theorems.{InColumn, counted_all, CountedOneByOne, CountsAddUp}
use Rattle.figures.proofs.Counting.{sum_of-set}

-- one sheet alone behind some
abbrev behind : List SheetFigure → SheetFigure → List SheetFigure
behind os o = os ++ (o ∷ [])

-- ---- the counts

count_behind : (c : ℕ) (os : List SheetFigure) (o : SheetFigure) → count_in c (behind os o) ≡ count_in c os + cond (eqb o.column c) 1 0
unfolding count_in
count_behind c [] o = omega arith
count_behind c (p ∷ os) o = let ih = count_behind c os o in omega (arith, ih)

-- a column below those counted changes none of them
counts_above : (c k : ℕ) (os : List SheetFigure) (o : SheetFigure) → o.column < c → counts_from c k (behind os o) ≡ counts_from c k os
unfolding counts_from
counts_above c zero os o h = refl
counts_above c (suc k) os o h =
    let other : eqb o.column c ≡ false = ne_eqb o.column c (λ e. omega (arith, h, e)) in
    let same : count_in c (behind os o) ≡ count_in c os = rw other at (count_behind c os o) ∙ omega arith in
    ap (λ n. n ∷ counts_from (suc c) k (behind os o)) same ∙ ap (λ ks. count_in c os ∷ ks) (counts_above (suc c) k os o (omega (arith, h)))

-- the column of the sheet behind has one more
counts_behind : (c k j : ℕ) (os : List SheetFigure) (o : SheetFigure) → o.column ≡ c + j → j < k
    → set (counts_from c k os) j (get_or (counts_from c k os) j 0 + 1) ≡ counts_from c k (behind os o)
unfolding counts_from
counts_behind c zero j os o e h = absurd (omega (arith, h))
counts_behind c (suc k) zero os o e h =
    let here : eqb o.column c ≡ true = eq-eqb o.column c (omega (arith, e)) in
    let one : count_in c (behind os o) ≡ count_in c os + 1 = rw here at (count_behind c os o) in
    ap (λ ks. (count_in c os + 1) ∷ ks) (sym (counts_above (suc c) k os o (omega (arith, e))))
    ∙ ap (λ n. n ∷ counts_from (suc c) k (behind os o)) (sym one)
counts_behind c (suc k) (suc j) os o e h =
    let other : eqb o.column c ≡ false = ne_eqb o.column c (λ (x : o.column ≡ c). omega (arith, e, x)) in
    let same : count_in c (behind os o) ≡ count_in c os = rw other at (count_behind c os o) ∙ omega arith in
    ap (λ ks. count_in c os ∷ ks) (counts_behind (suc c) k j os o (omega (arith, e)) (omega (arith, h)))
    ∙ ap (λ n. n ∷ counts_from (suc c) k (behind os o)) (sym same)

sum_of-none : (k c : ℕ) → sum_of (counts_from c k []) ≡ 0
unfolding sum_of counts_from count_in
sum_of-none zero c = refl
sum_of-none (suc k) c = let ih = sum_of-none k (suc c) in omega (arith, ih)

-- ---- the costs

pub costs_append : (os ps : List SheetFigure) → costs_of (os ++ ps) ≡ costs_of os ++ costs_of ps
unfolding costs_of
costs_append [] ps = refl
costs_append (o ∷ os) ps = go (is_planned o) (costs_append os ps)
  where
    go : (b : Bool) → costs_of (os ++ ps) ≡ costs_of os ++ costs_of ps
        → cond b (o.cost ∷ costs_of (os ++ ps)) (costs_of (os ++ ps)) ≡ cond b (o.cost ∷ costs_of os) (costs_of os) ++ costs_of ps
    go true ih = ap (λ ks. o.cost ∷ ks) ih
    go false ih = ih

sum_of_behind : (ks : List ℕ) (k : ℕ) → sum_of (ks ++ (k ∷ [])) ≡ sum_of ks + k
unfolding sum_of
sum_of_behind [] k = omega arith
sum_of_behind (j ∷ ks) k = let ih = sum_of_behind ks k in omega (arith, ih)

greatest-append : (ks js : List ℕ) → greatest (ks ++ js) ≡ max (greatest ks) (greatest js)
unfolding greatest
greatest-append [] js = omega arith
greatest-append (k ∷ ks) js = let ih = greatest-append ks js in omega (arith, ih)

-- ---- the first sheet of a cost

-- a cost above the greatest has no sheet
first_above : (g i : ℕ) (os : List SheetFigure) → greatest (costs_of os) < g → first_at g i os ≡ 0
unfolding first_at costs_of greatest
first_above g i [] h = refl
first_above g i (o ∷ os) h = go (is_planned o) (eqb o.cost g) refl h (first_above g (suc i) os)
  where
    go : (a b : Bool) → eqb o.cost g ≡ b → greatest (cond a (o.cost ∷ costs_of os) (costs_of os)) < g
        → (greatest (costs_of os) < g → first_at g (suc i) os ≡ 0) → cond (a && b) i (first_at g (suc i) os) ≡ 0
    go true true e h ih = absurd (let f = eqb-true o.cost g e in omega (arith, h, f))
    go true false e h ih = ih (omega (arith, h))
    go false b e h ih = ih h

-- a first sheet of a cost is 0 only if none was planned, or none at the greatest
pub first_none : (g i : ℕ) (os : List SheetFigure) → first_at g (suc i) os ≡ 0 → greatest (costs_of os) ≡ g → costs_of os ≡ []
unfolding first_at costs_of greatest
first_none g i [] h e = refl
first_none g i (o ∷ os) h e = go (is_planned o) (eqb o.cost g) refl h e (first_none g (suc i) os)
  where
    go : (a b : Bool) → eqb o.cost g ≡ b → cond (a && b) (suc i) (first_at g (suc (suc i)) os) ≡ 0
        → greatest (cond a (o.cost ∷ costs_of os) (costs_of os)) ≡ g
        → (first_at g (suc (suc i)) os ≡ 0 → greatest (costs_of os) ≡ g → costs_of os ≡ []) → cond a (o.cost ∷ costs_of os) (costs_of os) ≡ []
    go true true c h e ih = absurd (omega (arith, h))
    go true false c h e ih =
        let n = eqb-false o.cost g c in
        let all : greatest (costs_of os) ≡ g = omega (arith, e, n) in
        let none : greatest (costs_of os) ≡ 0 = ap greatest (ih h all) in
        absurd (omega (arith, e, n, all, none))
    go false b c h e ih = ih h e

-- the first sheet of a cost among some and one more
first_behind : (g i : ℕ) (os : List SheetFigure) (o : SheetFigure) → first_at g (suc i) (behind os o)
    ≡ cond (eqb (first_at g (suc i) os) 0) (cond (is_planned o && eqb o.cost g) (suc i + length os) 0) (first_at g (suc i) os)
unfolding first_at
first_behind g i [] o = ap (λ k. cond (is_planned o && eqb o.cost g) k 0) (omega arith)
first_behind g i (p ∷ os) o = go (is_planned p && eqb p.cost g) (first_behind g (suc i) os o)
  where
    go : (b : Bool)
        → first_at g (suc (suc i)) (behind os o)
        ≡ cond (eqb (first_at g (suc (suc i)) os) 0) (cond (is_planned o && eqb o.cost g) (suc (suc i) + length os) 0) (first_at g (suc (suc i)) os)
        → cond b (suc i) (first_at g (suc (suc i)) (behind os o))
        ≡ cond (eqb (cond b (suc i) (first_at g (suc (suc i)) os)) 0) (cond (is_planned o && eqb o.cost g) (suc i + suc (length os)) 0) (cond b (suc i) (first_at g (suc (suc i)) os))
    go true ih = rw (ne_eqb (suc i) 0 (λ (e : suc i ≡ 0). omega (arith, e)))
    go false ih =
        let next : suc (suc i) + length os ≡ suc i + suc (length os) = omega arith in
        rw next at ih

-- no sheet has a cost where none was planned
first_of-none : (g i : ℕ) (os : List SheetFigure) → costs_of os ≡ [] → first_at g i os ≡ 0
unfolding first_at costs_of
first_of-none g i [] h = refl
first_of-none g i (o ∷ os) h = go (is_planned o) h (first_of-none g (suc i) os)
  where
    go : (a : Bool) → cond a (o.cost ∷ costs_of os) (costs_of os) ≡ [] → (costs_of os ≡ [] → first_at g (suc i) os ≡ 0)
        → cond (a && eqb o.cost g) i (first_at g (suc i) os) ≡ 0
    go true h ih = absurd (let z : ◌≡◌ {A = ℕ} (suc (length (costs_of os))) 0 = ap length h in omega (arith, z))
    go false h ih = ih h

-- ---- one sheet more

same_figures : {ks js : List ℕ} {a b c d e f : ℕ} → ks ≡ js → a ≡ d → b ≡ e → c ≡ f
    → ◌≡◌ {A = Figures} (record { counts = ks; sum = a; largest = b; first = c }) (record { counts = js; sum = d; largest = e; first = f })
same_figures p q r s = cc

-- the sum, the largest and its sheet behind some sheets and one more, which is planned or not
module _ (os : List SheetFigure) (o : SheetFigure) where
  costs_behind : (b : Bool) → is_planned o ≡ b → costs_of (behind os o) ≡ cond b (costs_of os ++ (o.cost ∷ [])) (costs_of os)
  unfolding costs_of
  costs_behind true e = rw e at (costs_append os (o ∷ []))
  costs_behind false e = rw e at (costs_append os (o ∷ [])) ∙ append-nil (costs_of os)

  sum_behind : (b : Bool) → is_planned o ≡ b → cond b (sum_of (costs_of os) + o.cost) (sum_of (costs_of os)) ≡ sum_of (costs_of (behind os o))
  sum_behind true e = rw (costs_behind true e) (sym (sum_of_behind (costs_of os) o.cost))
  sum_behind false e = rw (costs_behind false e)

  -- a sheet that leads is planned, above all before it
  leading : is_planned o ≡ true → first_at o.cost 1 os ≡ 0 → greatest (costs_of os) ≤ o.cost
      → (o.cost ≡ greatest (costs_of (behind os o))) × (length os + 1 ≡ first_at (greatest (costs_of (behind os o))) 1 (behind os o))
  unfolding greatest
  leading e none h =
      let most : greatest (costs_of (behind os o)) ≡ o.cost
      = ap greatest (costs_behind true e) ∙ (let m = greatest-append (costs_of os) (o.cost ∷ []) in omega (arith, h, m)) in
      (sym most, rw (most, first_behind o.cost 0 os o, none, e, eq-eqb o.cost o.cost refl) (omega arith))

  -- a planned sheet that does not lead
  trailing : is_planned o ≡ true → (first_at (greatest (costs_of os)) 1 os ≡ 0 → ⊥) → o.cost ≤ greatest (costs_of os)
      → (greatest (costs_of os) ≡ greatest (costs_of (behind os o)))
      × (first_at (greatest (costs_of os)) 1 os ≡ first_at (greatest (costs_of (behind os o))) 1 (behind os o))
  unfolding greatest
  trailing e some h =
      let most : greatest (costs_of (behind os o)) ≡ greatest (costs_of os)
      = ap greatest (costs_behind true e) ∙ (let m = greatest-append (costs_of os) (o.cost ∷ []) in omega (arith, h, m)) in
      (sym most, rw (most, first_behind (greatest (costs_of os)) 0 os o, ne_eqb (first_at (greatest (costs_of os)) 1 os) 0 some))

  -- a sheet that is not planned
  unplanned : is_planned o ≡ false
      → (greatest (costs_of os) ≡ greatest (costs_of (behind os o)))
      × (first_at (greatest (costs_of os)) 1 os ≡ first_at (greatest (costs_of (behind os o))) 1 (behind os o))
  unplanned e =
      let most : greatest (costs_of (behind os o)) ≡ greatest (costs_of os) = ap greatest (costs_behind false e) in
      (sym most, rw (most, first_behind (greatest (costs_of os)) 0 os o, e) (kept (first_at (greatest (costs_of os)) 1 os)))
    where
      kept : (k : ℕ) → k ≡ cond (eqb k 0) 0 k
      kept zero = refl
      kept (suc k) = sym (rw (ne_eqb (suc k) 0 (λ (z : suc k ≡ 0). omega (arith, z))))

  -- the largest and its sheet as they are counted
  lead_behind : (l : ℕ) → l ≡ length os
      → (cond (leads (figures_of os) o.column o.cost) o.cost (greatest (costs_of os)) ≡ greatest (costs_of (behind os o)))
      × (cond (leads (figures_of os) o.column o.cost) (l + 1) (first_at (greatest (costs_of os)) 1 os)
      ≡ first_at (greatest (costs_of (behind os o))) 1 (behind os o))
  unfolding leads greatest
  lead_behind l e = go (is_planned o) (eqb (first_at (greatest (costs_of os)) 1 os) 0) (ltb (greatest (costs_of os)) o.cost) refl refl refl
    where
      Wanted : Bool → Type 0
      Wanted b = (cond b o.cost (greatest (costs_of os)) ≡ greatest (costs_of (behind os o)))
          × (cond b (l + 1) (first_at (greatest (costs_of os)) 1 os) ≡ first_at (greatest (costs_of (behind os o))) 1 (behind os o))

      go : (a b c : Bool) → is_planned o ≡ a → eqb (first_at (greatest (costs_of os)) 1 os) 0 ≡ b → ltb (greatest (costs_of os)) o.cost ≡ c
          → Wanted (a && (b || c))
      go false b c p f h = unplanned p
      go true true c p f h =
          let none = first_none (greatest (costs_of os)) 0 os (eqb-true (first_at (greatest (costs_of os)) 1 os) 0 f) refl in
          rw e (leading p (first_of-none o.cost 1 os none) (let z = ap greatest none in omega (arith, z)))
      go true false true p f h =
          let below = ltb-true (greatest (costs_of os)) o.cost h in
          rw e (leading p (first_above o.cost 1 os below) (omega (arith, below)))
      go true false false p f h = trailing p (eqb-false (first_at (greatest (costs_of os)) 1 os) 0 f) (ltb-false (greatest (costs_of os)) o.cost h)

counted_behind : (os : List SheetFigure) (o : SheetFigure) → InColumn o → sheets_of (figures_of os) ≡ length os
    → counted (figures_of os) o.column o.cost ≡ figures_of (behind os o)
unfolding counted
counted_behind os o h e =
    let led = lead_behind os o (sheets_of (figures_of os)) e in
    same_figures (counts_behind 0 column_count o.column os o (omega arith) h) (sum_behind os o (is_planned o) refl) led.0 led.1

counts_long : (c k : ℕ) (os : List SheetFigure) → length (counts_from c k os) ≡ k
unfolding counts_from
counts_long c zero os = refl
counts_long c (suc k) os = ap suc (counts_long (suc c) k os)

sheets_behind_lem : (os : List SheetFigure) (o : SheetFigure) → InColumn o → sheets_of (figures_of os) ≡ length os
    → sheets_of (figures_of (behind os o)) ≡ length (behind os o)
sheets_behind_lem os o h e =
    let room : o.column < length (counts_from 0 column_count os) = rw (counts_long 0 column_count os) h in
    ap sum_of (sym (counts_behind 0 column_count o.column os o (omega arith) h))
    ∙ sum_of-set (counts_from 0 column_count os) o.column room
    ∙ ap (λ n. n + 1) e
    ∙ sym (length-append os (o ∷ []))

-- ---- all sheets

one_by_one : (ps os : List SheetFigure) → sheets_of (figures_of ps) ≡ length ps → Each InColumn os
    → (counted_all (figures_of ps) os ≡ figures_of (ps ++ os)) × (sheets_of (figures_of (ps ++ os)) ≡ length (ps ++ os))
unfolding counted_all
one_by_one ps [] e nil_each = rw (append-nil ps) (refl, e)
one_by_one ps (o ∷ os) e (cons_each h hs) =
    rw (counted_behind ps o h e, ← append_snoc ps o os) (one_by_one (behind ps o) os (sheets_behind_lem ps o h e) hs)

none-counted : no_figures ≡ figures_of []
unfolding counts_from count_in costs_of greatest first_at sum_of
none-counted = refl

none_sheets : sheets_of (figures_of []) ≡ 0
none_sheets = sum_of-none column_count 0

pub counted_one_by_one : CountedOneByOne
counted_one_by_one os hs = rw none-counted (one_by_one [] os none_sheets hs).0

pub counts_add_up : CountsAddUp
counts_add_up os hs = (one_by_one [] os none_sheets hs).1
