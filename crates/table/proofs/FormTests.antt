-- All rows of a table of any form, tested one after the other, each compared with those before it. What was tested is kept place by place.
use Prim.Native.Nat.{ℕ, zero, suc, ◌+◌, ◌*◌, ◌<◌}
use native.Mathlib.Nat.{le_of_suc-le-suc, mul-zero}
use native.Mathlib.Omega.{arith}
use mathlib.Core.Path.{◌≡◌, refl, sym, ap, ◌∙◌}
use mathlib.Core.Bool.{Bool, true, false, not, ◌&&◌, true≢false, false≢true}
use mathlib.Core.List.{List, [], ◌∷◌}
use lib.ListN.{length, get_or, drop}
use lib.Seq.{drop-drop}
use borrow.Author.Count.{below_more}
use borrow.Author.Tests.{not-true}
use Rattle.wcsp.specs.Clause.{same}
use Rattle.wcsp.specs.Row.{Row, Absent, nil_absent, cons_absent}
use Rattle.wcsp.specs.Resolve.{no_row}
use Rattle.wcsp.proofs.Lists.{both_true, ne_true, and_left, and_right, same_sym}
use Rattle.clause.specs.declared.Clause.{Clause}
use Rattle.clause.specs.Packed.{signs_of, FullSigns}
use Rattle.rows.specs.Raw.{raw_at, clause_in}
use Rattle.table.specs.Form.{TableForm}
use Rattle.table.specs.Meaning.{rows_from_in}
use Rattle.table.specs.Valid.{valid_row_in, rows_valid_in, has_signs, distinct_rows}
use Rattle.table.proofs.ValidParts.{absent_rows, rows_absent}
use Rattle.table.specs.TableLaws.{TableLaws}
use Rattle.table.specs.SignLaws.{SignLaws}
use Rattle.table.proofs.FormRows.{length-rows_from, row_at}

-- ---- distinct rows by their places

pub absent_each : {c : List ℕ} {rs : List Row} → Absent c rs → (i : ℕ) → i < length rs → same (get_or rs i no_row).signs c ≡ false
absent_each nil_absent i h = absurd (omega arith)
absent_each (cons_absent e a) zero h = e
absent_each (cons_absent e a) (suc i) h = absent_each a i (le_of_suc-le-suc h)

each_absent : (c : List ℕ) (rs : List Row) → ((i : ℕ) → i < length rs → same (get_or rs i no_row).signs c ≡ false) → Absent c rs
each_absent c [] f = nil_absent
each_absent c (r ∷ rs) f = cons_absent (f 0 (omega arith)) (each_absent c rs (λ i h. f (suc i) (omega arith)))

-- no row has the signs of an earlier one
abbrev Apart : List Row → Type 0
Apart rs = (j : ℕ) → j < length rs → (i : ℕ) → i < j → same (get_or rs i no_row).signs (get_or rs j no_row).signs ≡ false

apart_distinct : (rs : List Row) → Apart rs → distinct_rows rs ≡ true
unfolding distinct_rows
apart_distinct [] f = refl
apart_distinct (r ∷ rs) f =
    let a : Absent r.signs rs
    = each_absent r.signs rs (λ i h. same_sym (get_or rs i no_row).signs r.signs ∙ f (suc i) (omega arith) 0 (omega arith)) in
    rw (rows_absent a) (apart_distinct rs (λ j h i l. f (suc j) (omega arith) (suc i) (omega arith)))

distinct_apart : (rs : List Row) → distinct_rows rs ≡ true → Apart rs
unfolding distinct_rows
distinct_apart [] e j h i l = absurd (omega arith)
distinct_apart (r ∷ rs) e zero h i l = absurd (omega arith)
distinct_apart (r ∷ rs) e (suc j) h zero l =
    let o = has_signs r.signs rs in
    let a = absent_rows r.signs rs (not-true o (and_left (not o) (distinct_rows rs) e)) in
    same_sym r.signs (get_or rs j no_row).signs ∙ absent_each a j (le_of_suc-le-suc h)
distinct_apart (r ∷ rs) e (suc j) h (suc i) l =
    let o = has_signs r.signs rs in
    distinct_apart rs (and_right (not o) (distinct_rows rs) e) j (le_of_suc-le-suc h) i (le_of_suc-le-suc l)

module _ (f : TableForm) where
  abbrev width : ℕ
  width = f.rows.width

  -- ---- rows by their places

  rows_each : (ds : List ℕ) (k : ℕ) (ws : List ℕ) → rows_valid_in f ds k ws ≡ true → (i : ℕ) → i < k → valid_row_in f ds (drop (width * i) ws) ≡ true
  unfolding rows_valid_in
  rows_each ds zero ws e i h = absurd (omega arith)
  rows_each ds (suc k) ws e zero h = rw (mul-zero width) (and_left (valid_row_in f ds ws) (rows_valid_in f ds k (drop width ws)) e)
  rows_each ds (suc k) ws e (suc i) h =
      let q : width * suc i ≡ width + width * i = omega arith in
      rw (q, ← drop-drop (width * i) width ws)
      (rows_each ds k (drop width ws) (and_right (valid_row_in f ds ws) (rows_valid_in f ds k (drop width ws)) e) i (le_of_suc-le-suc h))

  pub each_rows : (ds : List ℕ) (k : ℕ) (ws : List ℕ) → ((i : ℕ) → i < k → valid_row_in f ds (drop (width * i) ws) ≡ true) → rows_valid_in f ds k ws ≡ true
  unfolding rows_valid_in
  each_rows ds zero ws g = refl
  each_rows ds (suc k) ws g =
      both_true (valid_row_in f ds ws) (rows_valid_in f ds k (drop width ws)) (rw (mul-zero width) at (g 0 (omega arith))) (each_rows ds k (drop width ws) later)
    where
      later : (i : ℕ) → i < k → valid_row_in f ds (drop (width * i) (drop width ws)) ≡ true
      later i h =
          let q : width * suc i ≡ width + width * i = omega arith in
          rw (drop-drop (width * i) width ws, ← q) (g (suc i) (omega arith))

  -- the signs of row i, where the rows start at base
  abbrev pub signs_at : List ℕ → ℕ → ℕ → List ℕ
  signs_at t base i = (f.row_of (f.rows.read t (base + width * i))).signs

  -- ---- the first k rows tested

  pub record Tested (ds t : List ℕ) (base k : ℕ) : Type 0 where
    pub rows : (i : ℕ) → i < k → valid_row_in f ds (drop (width * i) (drop base t)) ≡ true
    pub apart : (j : ℕ) → j < k → (i : ℕ) → i < j → same (signs_at t base i) (signs_at t base j) ≡ false

  pub none_tested : (ds t : List ℕ) (base : ℕ) → Tested ds t base 0
  none_tested ds t base = record { rows = λ i h. absurd (omega arith); apart = λ j h. absurd (omega arith) }

  -- what the test of all rows is to answer
  abbrev pub all_valid : List ℕ → ℕ → List ℕ → Bool
  all_valid ds count ws = rows_valid_in f ds count ws && distinct_rows (rows_from_in f count ws)

  -- what a loop keeps, for every list of sizes with these full signs
  abbrev pub TestedFor : Clause → List ℕ → ℕ → ℕ → Type 0
  TestedFor fulls t base k = (ds : List ℕ) → FullSigns fulls ds → Tested ds t base k

module _ (f : TableForm) (law : TableLaws f) where
  pub signs_at_lem : (t : List ℕ) (base count k : ℕ) → k < count → (get_or (rows_from_in f count (drop base t)) k no_row).signs ≡ signs_at f t base k
  signs_at_lem t base count k h = ap (λ (r : Row). r.signs) (row_at f law t base count k h)

  module _ (ds t : List ℕ) (base count : ℕ) where
    abbrev rows : List Row
    rows = rows_from_in f count (drop base t)

    all_tested : Tested f ds t base count → true ≡ all_valid f ds count (drop base t)
    all_tested d =
        sym (both_true (rows_valid_in f ds count (drop base t)) (distinct_rows rows) (each_rows f ds count (drop base t) d.rows) (apart_distinct rows apart))
      where
        apart : Apart rows
        apart j h i l =
            let h' : j < count = omega (arith, length-rows_from f count (drop base t)) in
            let l' : i < count = omega arith in
            rw (signs_at_lem t base count i l', signs_at_lem t base count j h') (d.apart j h' i l)

    row_bad : (k : ℕ) → k < count → valid_row_in f ds (drop (f.rows.width * k) (drop base t)) ≡ false → false ≡ all_valid f ds count (drop base t)
    row_bad k h e =
        sym
        (ne_true (all_valid f ds count (drop base t))
        (λ v. false≢true (sym e ∙ rows_each f ds count (drop base t) (and_left (rows_valid_in f ds count (drop base t)) (distinct_rows rows) v) k h)))

    pair_bad : (i k : ℕ) → i < k → k < count → same (signs_at f t base i) (signs_at f t base k) ≡ true → false ≡ all_valid f ds count (drop base t)
    pair_bad i k l h e =
        sym
        (ne_true (all_valid f ds count (drop base t))
        (λ v. let d = distinct_apart rows (and_right (rows_valid_in f ds count (drop base t)) (distinct_rows rows) v) in
        let h' : k < length rows = omega (arith, length-rows_from f count (drop base t)) in
        let l' : i < count = omega arith in
        true≢false (sym e ∙ rw (signs_at_lem t base count i l', signs_at_lem t base count k h) at (d k h' i l))))

  -- ---- as a loop goes

  module _ (t : List ℕ) (base at k count : ℕ) (fulls : Clause) (r : Bool) (place : at ≡ base + f.rows.width * k)
      (v : (ds : List ℕ) → FullSigns fulls ds → r ≡ valid_row_in f ds (drop at t)) where
    row_here : (ds : List ℕ) → FullSigns fulls ds → valid_row_in f ds (drop (f.rows.width * k) (drop base t)) ≡ r
    row_here ds h = rw (drop-drop (f.rows.width * k) base t, ← place) (sym (v ds h))

    pub row_fails : k < count → r ≡ false → (ds : List ℕ) → FullSigns fulls ds → false ≡ all_valid f ds count (drop base t)
    row_fails h e ds g = row_bad ds t base count k h (row_here ds g ∙ e)

    pub pair_fails : k < count → (m : ℕ) → m < k → same (signs_at f t base m) (signs_at f t base k) ≡ true
        → (ds : List ℕ) → FullSigns fulls ds → false ≡ all_valid f ds count (drop base t)
    pair_fails h m l e ds g = pair_bad ds t base count m k l h e

    pub tested_more : TestedFor f fulls t base k → r ≡ true
        → ((ds : List ℕ) → FullSigns fulls ds → (i : ℕ) → i < k → same (signs_at f t base i) (signs_at f t base k) ≡ false)
        → TestedFor f fulls t base (k + 1)
    tested_more tested s e ds g =
        let d = tested ds g in
        record { rows = below_more _ k d.rows (row_here ds g ∙ s); apart = below_more _ k d.apart (e ds g) }

  pub all_pass : (t : List ℕ) (base k count : ℕ) (fulls : Clause) → k ≡ count → TestedFor f fulls t base k
      → (ds : List ℕ) → FullSigns fulls ds → true ≡ all_valid f ds count (drop base t)
  all_pass t base k count fulls e tested ds g = all_tested ds t base count (rw e at (tested ds g))

-- ---- the signs of the row in front of what starts at a place

pub signs_front : (f : TableForm) → TableLaws f → SignLaws f → (t : List ℕ) (at : ℕ) → (f.row_of (f.rows.read (drop at t) 0)).signs ≡ signs_of (clause_in (raw_at t at))
signs_front f law own t at =
    let here : at + 0 ≡ at = omega arith in
    ap (λ r. (f.row_of r).signs) (law.form.read_drop t at 0 ∙ ap (λ i. f.rows.read t i) here) ∙ own.signs t at
