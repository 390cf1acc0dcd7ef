-- All rows as the code tests them, in any form: one after the other, each sought among those before it.
use Prim.Native.Nat.{ℕ, zero, suc, ◌+◌, ◌*◌, ◌<◌}
use native.Mathlib.Omega.{arith}
use mathlib.Core.Path.{◌≡◌, refl, sym, ap, ap₂, ◌∙◌}
use mathlib.Core.Bool.{Bool, true, false, ◌&&◌, cond, false≢true, true≢false}
use mathlib.Core.List.{List, map}
use lib.ListN.{length, drop}
use Rattle.std.specs.Prelude.{Option, Some, None, is_some}
use Rattle.wcsp.specs.Clause.{same}
use Rattle.wcsp.specs.Row.{Row}
use Rattle.wcsp.proofs.Lists.{and_left, and_right}
use Rattle.clause.specs.declared.Clause.{Clause}
use Rattle.clause.specs.Packed.{signs_of, FullSigns}
use Rattle.rows.specs.Form.{raws_from_in}
use Rattle.rows.specs.Raw.{Raw, raw_at, raw_row, clause_in, same_signs, find_from, find_spaced}
use Rattle.table.specs.Form.{TableForm}
use Rattle.table.specs.Raws.{raw_of}
use Rattle.table.specs.Clauses.{clause_from}
use Rattle.table.specs.Meaning.{rows_from_in}
use Rattle.table.specs.Valid.{sign_kinds, valid_signs, valid_row_in, rows_valid_in}
use Rattle.table.specs.SignWords.{words_made}
use Rattle.table.specs.TableLaws.{TableLaws}
use Rattle.table.specs.SignLaws.{SignLaws}
use Rattle.table.proofs.FormRows.{length-rows_from, carried_rows_from}
use Rattle.table.proofs.FormTests.{signs_at, signs_at_lem, absent_each, each_rows, Tested, TestedFor, all_valid}
use Rattle.table.proofs.FormTests as forms
use Rattle.table.proofs.Finding.{found_at, found_missing}

module _ (f : TableForm) (law : TableLaws f) (own : SignLaws f) where
  -- ---- the sign words of rows that pass the test are those that are made from their signs

  abbrev front : List ℕ → Row
  front ws = f.row_of (f.rows.read ws 0)

  words_same : (ws : List ℕ) (q : Raw) → sign_kinds ws ≡ true → same_signs (raw_at ws 0) q ≡ same_signs (raw_of (front ws)) q
  unfolding same_signs
  words_same ws q e =
      let w = (front ws).weight in
      ap (λ r. same_signs r q) (words_made ws w e ∙ ap (λ c. raw_row (clause_from c) w) (sym (own.signs ws 0)))

  row_kinds : (ds ws : List ℕ) → valid_row_in f ds ws ≡ true → sign_kinds ws ≡ true
  unfolding valid_row_in
  row_kinds ds ws e =
      let s = sign_kinds ws in
      let w = f.weighs ws in
      let c = valid_signs ds (front ws).signs in
      and_left s w (and_left (s && w) c e)

  spaced : (ds : List ℕ) (q : Raw) (j k : ℕ) (ws : List ℕ) → rows_valid_in f ds k ws ≡ true
      → find_spaced f.rows.width q j k ws ≡ find_from q j (map raw_of (rows_from_in f k ws))
  unfolding find_spaced find_from rows_valid_in rows_from_in raws_from_in
  spaced ds q j zero ws e = refl
  spaced ds q j (suc k) ws e =
      let a = valid_row_in f ds ws in
      let b = rows_valid_in f ds k (drop f.rows.width ws) in
      ap₂ (λ s o. cond s (Some j) o) (words_same ws q (row_kinds ds ws (and_left a b e))) (spaced ds q (suc j) k (drop f.rows.width ws) (and_right a b e))

  -- ---- a row with the signs of an earlier one is found

  module _ (t : List ℕ) (base k : ℕ) (x : Clause) (p : x ≡ clause_in (raw_at t (base + f.rows.width * k))) (ds : List ℕ) (tested : Tested f ds t base k) where
    here : signs_of x ≡ signs_at f t base k
    here = ap signs_of p ∙ sym (own.signs t (base + f.rows.width * k))

    sought : find_spaced f.rows.width (raw_row x 0) 0 k (drop base t) ≡ find_from (raw_row x 0) 0 (map raw_of (rows_from_in f k (drop base t)))
    sought = spaced ds (raw_row x 0) 0 k (drop base t) (each_rows f ds k (drop base t) tested.rows)

    pair_here : (m : ℕ) → find_spaced f.rows.width (raw_row x 0) 0 k (drop base t) ≡ Some m
        → (m < k) × (same (signs_at f t base m) (signs_at f t base k) ≡ true)
    pair_here m e =
        let o = found_at x (carried_rows_from f law k (drop base t)) m (sym sought ∙ e) in
        let l : m < k = omega (arith, o.within, length-rows_from f k (drop base t)) in
        (l, rw (signs_at_lem f law t base k m l, here) at o.has)

    no_pair_lem : find_spaced f.rows.width (raw_row x 0) 0 k (drop base t) ≡ None
        → (i : ℕ) → i < k → same (signs_at f t base i) (signs_at f t base k) ≡ false
    no_pair_lem e i h =
        let a = found_missing x (carried_rows_from f law k (drop base t)) (sym sought ∙ e) in
        let h' : i < length (rows_from_in f k (drop base t)) = omega (arith, length-rows_from f k (drop base t)) in
        rw (signs_at_lem f law t base k i h, here) at (absent_each a i h')

  -- ---- as the loop goes

  module _ (t : List ℕ) (base at k count : ℕ) (fulls : Clause) (r : Bool) (place : at ≡ base + f.rows.width * k)
      (v : (ds : List ℕ) → FullSigns fulls ds → r ≡ valid_row_in f ds (drop at t)) (x : Clause) (found : Option ℕ)
      (p : x ≡ clause_in (raw_at t at)) (w m : ℕ) (q' : found ≡ find_spaced w (raw_row x 0) 0 m (drop base t)) (wide : w ≡ f.rows.width) (before : m ≡ k) (tested : TestedFor f fulls t base k) where
    read : x ≡ clause_in (raw_at t (base + f.rows.width * k))
    read = p ∙ ap (λ i. clause_in (raw_at t i)) place

    q : found ≡ find_spaced f.rows.width (raw_row x 0) 0 k (drop base t)
    q = rw (wide, before) at q'

    pair_fails : k < count → (m : ℕ) → found ≡ Some m → (ds : List ℕ) → FullSigns fulls ds → false ≡ all_valid f ds count (drop base t)
    pair_fails h m e ds g =
        let w = pair_here t base k x read ds (tested ds g) m (sym q ∙ e) in
        forms.pair_fails f law t base at k count fulls r place v h m w.0 w.1 ds g

    tested_more : r ≡ true → found ≡ None → TestedFor f fulls t base (k + 1)
    tested_more s e = forms.tested_more f law t base at k count fulls r place v tested s (λ ds g. no_pair_lem t base k x read ds (tested ds g) (sym q ∙ e))

    pub seen_fails : k < count → is_some found ≡ true → (ds : List ℕ) → FullSigns fulls ds → false ≡ all_valid f ds count (drop base t)
    seen_fails h s ds g = go found refl s
      where
        go : (o : Option ℕ) → found ≡ o → is_some o ≡ true → false ≡ all_valid f ds count (drop base t)
        go None e b = absurd (false≢true b)
        go (Some m) e b = pair_fails h m e ds g

    pub unseen_more : r ≡ true → is_some found ≡ false → TestedFor f fulls t base (k + 1)
    unseen_more v' s = go found refl s
      where
        go : (o : Option ℕ) → found ≡ o → is_some o ≡ false → TestedFor f fulls t base (k + 1)
        go None e b = tested_more v' e
        go (Some m) e b = absurd (true≢false b)
