-- Which tables are valid in which form: behind the weight of a five-word row stands a sign word or a zero, behind the low word of a six-word row
-- the high one; without rows the two forms have the same words.
use Prim.Native.Nat.{ℕ, zero, suc, ◌+◌, ◌*◌, ◌<◌}
use native.Mathlib.Nat.{mul-zero}
use native.Mathlib.Omega.{arith}
use mathlib.Core.Path.{◌≡◌, refl, sym, ◌∙◌}
use mathlib.Core.Bool.{Bool, true, false, not, ◌&&◌, false≢true}
use mathlib.Core.List.{List, [], ◌∷◌}
use mathlib.Core.Option.{Option, none, some}
use lib.ListN.{length, get_or, drop}
use lib.Seq.{get_or-drop, drop-drop}
use lib.Dec.{eqb}
use borrow.Author.Tests.{eqb-true, le-leb}
use Rattle.wcsp.specs.Row.{Row}
use Rattle.wcsp.proofs.Lists.{and_left, and_right, ne_true}
use Rattle.words.specs.Layout.{kind_of, payload_of}
use Rattle.fields.specs.Front.{head_in, headed}
use Rattle.rows.specs.Form.{raws_from_in}
use Rattle.rows.specs.Raw.{row_weighs}
use Rattle.table.specs.Form.{TableForm}
use Rattle.table.specs.Raws.{standard_form}
use Rattle.table.specs.Layout.{rows_at, capacity_in}
use Rattle.table.specs.Meaning.{variables_of, row_count, domains, rows_from_in, table_rows_in, own_rows_in, own_rows}
use Rattle.table.specs.Valid.{is_signs, sign_kinds, valid_signs, valid_row_in, rows_valid_in, distinct_rows, all_zero, valid_front, within_capacity, rows_in_range, no_two_equal, zero_past, valid_table_in, valid_table}
use Rattle.table.proofs.FormTables.{passed}
use Rattle.table.proofs.RawRows.{table_laws}
use Rattle.table.proofs.Own.{own_count_in}
use Rattle.table.specs.Five.{five_form}
use Rattle.table.proofs.FiveLaws.{five_laws}
use Rattle.conversion.specs.Theorems.{OneFormWithRows, BothWithoutRows}

-- ---- with rows

-- the first of the rows that passed
first_row : (f : TableForm) (ds : List ℕ) (k : ℕ) (ws : List ℕ) → 0 < k → rows_valid_in f ds k ws ≡ true → valid_row_in f ds ws ≡ true
unfolding rows_valid_in
first_row f ds zero ws h e = absurd (omega arith)
first_row f ds (suc k) ws h e = and_left (valid_row_in f ds ws) (rows_valid_in f ds k (drop f.rows.width ws)) e

-- its words are sign words and a weight's
row_signs : (f : TableForm) (ds ws : List ℕ) → valid_row_in f ds ws ≡ true → sign_kinds ws ≡ true
unfolding valid_row_in
row_signs f ds ws e =
    let s = sign_kinds ws in
    let w = f.weighs ws in
    and_left s w (and_left (s && w) (valid_signs ds (f.row_of (f.rows.read ws 0)).signs) e)

row_weighs_lem : (f : TableForm) (ds ws : List ℕ) → valid_row_in f ds ws ≡ true → f.weighs ws ≡ true
unfolding valid_row_in
row_weighs_lem f ds ws e =
    let s = sign_kinds ws in
    let w = f.weighs ws in
    and_right s w (and_left (s && w) (valid_signs ds (f.row_of (f.rows.read ws 0)).signs) e)

-- sign words begin with one of kind 5
signs_first : (ws : List ℕ) → sign_kinds ws ≡ true → kind_of (get_or ws 0 0) ≡ 5
unfolding sign_kinds
signs_first ws e =
    let a = is_signs 0 (get_or ws 0 0) in
    let b = is_signs 1 (get_or ws 1 0) in
    let c = is_signs 2 (get_or ws 2 0) in
    let d = is_signs 3 (get_or ws 3 0) in
    let one = and_left a b (and_left (a && b) c (and_left (a && b && c) d e)) in
    eqb-true (kind_of (get_or ws 0 0)) 5 (and_left (eqb (kind_of (get_or ws 0 0)) 5) _ one)

-- the weight of a six-word row ends with a word of kind 12
high_kind : (ws : List ℕ) → row_weighs ws ≡ true → kind_of (get_or ws 5 0) ≡ 12
unfolding row_weighs
high_kind ws e =
    let low = get_or ws 4 0 in
    let high = get_or ws 5 0 in
    let kinds = and_left (eqb (kind_of low) 6 && eqb (kind_of high) 12) (not (eqb (payload_of low) 0 && eqb (payload_of high) 0)) e in
    eqb-true (kind_of high) 12 (and_right (eqb (kind_of low) 6) (eqb (kind_of high) 12) kinds)

zeros_first : (ws : List ℕ) → all_zero ws ≡ true → kind_of (get_or ws 0 0) ≡ 0
unfolding all_zero
zeros_first [] e = omega arith
zeros_first (w ∷ ws) e = let z = eqb-true w 0 (and_left (eqb w 0) (all_zero ws) e) in omega arith

-- behind the first five-word row: a further one's sign word, or a zero
behind_first : (ds : List ℕ) (k : ℕ) (ws : List ℕ) → 0 < k → rows_valid_in five_form ds k ws ≡ true → all_zero (drop (5 * k) ws) ≡ true
    → kind_of (get_or ws 5 0) < 6
unfolding rows_valid_in
behind_first ds zero ws h e z = absurd (omega arith)
behind_first ds (suc zero) ws h e z = let q = rw (get_or-drop 5 ws 0 0) at (zeros_first (drop 5 ws) z) in omega arith
behind_first ds (suc (suc k)) ws h e z =
    let rest = and_right (valid_row_in five_form ds ws) (rows_valid_in five_form ds (suc k) (drop 5 ws)) e in
    let next = first_row five_form ds (suc k) (drop 5 ws) (omega arith) rest in
    let q = rw (get_or-drop 5 ws 0 0) at (signs_first (drop 5 ws) (row_signs five_form ds (drop 5 ws) next)) in
    omega arith

pub one_form_with_rows : OneFormWithRows
one_form_with_rows t v h =
    ne_true (valid_table_in standard_form t) (λ w.
    let some : 0 < row_count t = omega (arith, h) in
    let p = passed five_form t v in
    let s = passed standard_form t w in
    let ws = drop (rows_at (variables_of t)) t in
    let zeros = rw (← drop-drop (5 * row_count t) (rows_at (variables_of t)) t) at p.zeros in
    let low = behind_first (domains t) (row_count t) ws some p.rows zeros in
    let high = high_kind ws (row_weighs_lem standard_form (domains t) ws (first_row standard_form (domains t) (row_count t) ws some s.rows)) in
    omega arith)

-- ---- without rows

-- what is asked behind the head
abbrev behind_head : TableForm → List ℕ → ℕ → Bool
behind_head f t n = valid_front t n && within_capacity f t n && rows_in_range f t n && no_two_equal f t && zero_past f t n

-- without rows nothing of it asks for the form
no_rows : (f : TableForm) (t : List ℕ) (n : ℕ) → row_count t ≡ 0 → behind_head f t n ≡ (valid_front t n && all_zero (drop (rows_at n) t))
unfolding rows_valid_in table_rows_in rows_from_in raws_from_in distinct_rows
no_rows f t n e =
    let end : rows_at n + f.rows.width * 0 ≡ rows_at n = omega (arith, mul-zero f.rows.width) in
    rw (e, le-leb 0 (capacity_in f (length t) n) (omega arith), end) (pass (valid_front t n) (all_zero (drop (rows_at n) t)))
  where
    pass : (a z : Bool) → (a && true && true && true && z) ≡ (a && z)
    pass true z = refl
    pass false z = refl

pub both_without_rows : BothWithoutRows
unfolding valid_table_in headed
both_without_rows t e = go (head_in (get_or t 0 0))
  where
    go : (o : Option ℕ) → headed false (behind_head five_form t) o ≡ headed false (behind_head standard_form t) o
    go none = refl
    go (some n) = no_rows five_form t n e ∙ sym (no_rows standard_form t n e)

-- ---- a table of both forms

none_of : (rs : List Row) → length rs ≡ 0 → rs ≡ []
none_of [] q = refl
none_of (r ∷ rs) q = absurd (omega arith)

-- it has no rows, so that its rows are the same in either
pub same_rows : (t : List ℕ) → valid_table_in five_form t ≡ true → valid_table t ≡ true → own_rows_in five_form t ≡ own_rows t
same_rows t v w = go (row_count t) refl
  where
    go : (k : ℕ) → row_count t ≡ k → own_rows_in five_form t ≡ own_rows t
    go zero e = none_of (own_rows_in five_form t) (own_count_in five_form five_laws t v ∙ e) ∙ sym (none_of (own_rows t) (own_count_in standard_form table_laws t w ∙ e))
    go (suc k) e = absurd (false≢true (sym (one_form_with_rows t v (omega arith)) ∙ w))
