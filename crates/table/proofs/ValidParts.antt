-- The parts of a valid table apart from its rows' words: what each test says, and that valid sizes, valid clauses, distinct rows and zeros pass it.
use Prim.Native.Nat.{ℕ, zero, suc}
use native.Mathlib.Omega.{arith}
use mathlib.Core.Path.{◌≡◌, refl, ap₂, ◌∙◌}
use mathlib.Core.Bool.{Bool, true, false, not, cond, false≢true, true≢false}
use mathlib.Core.List.{List, [], ◌∷◌, ◌++◌, map}
use lib.ListN.{length, take, replicate}
use lib.Dec.{eqb, ltb}
use borrow.Author.Tests.{eqb-true, eqb-false, ne_eqb, ltb-true, lt-ltb, not-true}
use Rattle.wcsp.specs.Sign.{full}
use Rattle.wcsp.specs.Clause.{nil, cons, ValidClause, same}
use Rattle.wcsp.specs.Row.{Row, Absent, nil_absent, cons_absent, ValidRows, nil_rows, cons_rows}
use Rattle.wcsp.proofs.Lists.{and_left, and_right, same_sym}
use Rattle.words.specs.Layout.{payload_of, size_word}
use Rattle.fields.specs.Front.{size_in, good_sizes}
use Rattle.fields.specs.Entries.{EachSize, nil_each, cons_each}
use Rattle.fields.proofs.Fronts.{size_some, size_is}
use Rattle.table.specs.Valid.{valid_signs, has_signs, distinct_rows, all_zero}

-- ---- station words

-- words that are sizes are made from the sizes that they give
pub sizes_made : (n : ℕ) (ws : List ℕ) → good_sizes n ws ≡ true → take n ws ≡ map size_word (map payload_of (take n ws))
unfolding good_sizes
sizes_made zero ws e = refl
sizes_made (suc n) [] e = absurd (false≢true e)
sizes_made (suc n) (w ∷ ws) e =
    let d = size_in w in
    let (k, p, l, m) = size_some w (eqb-false d 0 (not-true (eqb d 0) (and_left (not (eqb d 0)) (good_sizes n ws) e))) in
    let u : w ≡ size_word (payload_of w) = omega arith in
    ap₂ (λ v vs. v ∷ vs) u (sizes_made n ws (and_right (not (eqb d 0)) (good_sizes n ws) e))

pub sizes_pass : {ds : List ℕ} → EachSize ds → (ws : List ℕ) → good_sizes (length ds) (map size_word ds ++ ws) ≡ true
unfolding good_sizes
sizes_pass nil_each ws = refl
sizes_pass (cons_each {x = d} (h, k) s) ws =
    let e : size_in (size_word d) ≡ d = size_is (size_word d) d (omega arith) (omega arith) h k in
    let z : size_in (size_word d) ≡ 0 → ⊥ = λ q. omega arith in
    rw (ne_eqb (size_in (size_word d)) 0 z) (sizes_pass s ws)

pub payloads_sizes : {ds : List ℕ} → EachSize ds → map payload_of (map size_word ds) ≡ ds
payloads_sizes nil_each = refl
payloads_sizes (cons_each {x = d} (h, k) s) =
    let e : payload_of (size_word d) ≡ d = omega arith in ap₂ (λ x xs. x ∷ xs) e (payloads_sizes s)

-- ---- signs

pub clause_valid : (ds c : List ℕ) → length ds ≡ length c → valid_signs ds c ≡ true → ValidClause ds c
unfolding valid_signs
clause_valid [] [] h e = nil
clause_valid [] (S ∷ c) h e = absurd (omega arith)
clause_valid (d ∷ ds) [] h e = absurd (omega arith)
clause_valid (d ∷ ds) (S ∷ c) h e =
    let b = ltb S (full d) in
    cons (ltb-true S (full d) (and_left b (valid_signs ds c) e)) (clause_valid ds c (omega arith) (and_right b (valid_signs ds c) e))

pub valid_clause : {ds c : List ℕ} → ValidClause ds c → valid_signs ds c ≡ true
unfolding valid_signs
valid_clause nil = refl
valid_clause (cons {a = d} {b = S} h t) = rw (lt-ltb S (full d) h) (valid_clause t)

-- ---- distinct rows

pub absent_rows : (c : List ℕ) (rs : List Row) → has_signs c rs ≡ false → Absent c rs
unfolding has_signs
absent_rows c [] e = nil_absent
absent_rows c (r ∷ rs) e = go (same c r.signs) refl e (absent_rows c rs)
  where
    go : (b : Bool) → same c r.signs ≡ b → cond b true (has_signs c rs) ≡ false → (has_signs c rs ≡ false → Absent c rs) → Absent c (r ∷ rs)
    go true f e ih = absurd (true≢false e)
    go false f e ih = cons_absent (same_sym r.signs c ∙ f) (ih e)

pub rows_absent : {c : List ℕ} {rs : List Row} → Absent c rs → has_signs c rs ≡ false
unfolding has_signs
rows_absent nil_absent = refl
rows_absent {c} (cons_absent {r = r} e t) = rw (same_sym c r.signs, e) (rows_absent t)

pub distinct_pass : {ds : List ℕ} {rs : List Row} → ValidRows ds rs → distinct_rows rs ≡ true
unfolding distinct_rows
distinct_pass nil_rows = refl
distinct_pass (cons_rows v p a t) = rw (rows_absent a) (distinct_pass t)

-- ---- zeros

pub zeros_made : (ws : List ℕ) → all_zero ws ≡ true → ws ≡ replicate (length ws) 0
unfolding all_zero
zeros_made [] e = refl
zeros_made (w ∷ ws) e =
    ap₂ (λ u us. u ∷ us) (eqb-true w 0 (and_left (eqb w 0) (all_zero ws) e)) (zeros_made ws (and_right (eqb w 0) (all_zero ws) e))

pub zeros_pass : (n : ℕ) → all_zero (replicate n 0) ≡ true
unfolding all_zero
zeros_pass zero = refl
zeros_pass (suc n) = zeros_pass n
