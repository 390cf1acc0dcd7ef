-- The rows of a table of any form: what is read from words that pass the test is what their raw rows are made from, and the words of valid rows pass it.
use Prim.Native.Nat.{ℕ, zero, suc, ◌+◌, ◌*◌, ◌<◌}
use native.Mathlib.Nat.{le_of_suc-le-suc, mul-zero}
use native.Mathlib.Numerals.{add-one}
use native.Mathlib.Omega.{arith}
use mathlib.Core.Path.{◌≡◌, refl, sym, ap, ap₂, ◌∙◌}
use mathlib.Core.Bool.{true, not, ◌&&◌}
use mathlib.Core.List.{List, [], ◌∷◌, ◌++◌, map, append_assoc}
use lib.ListN.{length, get_or, drop, length-map}
use lib.Seq.{drop_at}
use borrow.Author.Tests.{not-true}
use Rattle.wcsp.specs.Clause.{ValidClause}
use Rattle.wcsp.specs.Row.{Row, ValidRows, nil_rows, cons_rows}
use Rattle.wcsp.specs.Resolve.{no_row}
use Rattle.wcsp.proofs.Lists.{both_true, and_left, and_right}
use Rattle.rows.specs.Form.{flat_in, raws_from_in}
use Rattle.rows.proofs.FormRows.{length-raws_from, raw_at}
use Rattle.table.specs.Form.{TableForm}
use Rattle.table.specs.Meaning.{rows_from_in}
use Rattle.table.specs.Valid.{sign_kinds, valid_signs, valid_row_in, rows_valid_in, has_signs, distinct_rows}
use Rattle.table.specs.Carried.{CarriedIn, AllCarriedIn, nil_carried, cons_carried}
use Rattle.table.proofs.ValidParts.{clause_valid, valid_clause, absent_rows}
use Rattle.table.specs.TableLaws.{TableLaws}

pub length-rows_from : (f : TableForm) (k : ℕ) (ws : List ℕ) → length (rows_from_in f k ws) ≡ k
unfolding rows_from_in
length-rows_from f k ws = length-map (raws_from_in f.rows k ws) f.row_of ∙ length-raws_from f.rows k ws

-- an element of a list, and of what each comes to
mapped_at : {A : Type 0} (g : A → Row) (rs : List A) (none : A) (k : ℕ) → k < length rs → get_or (map g rs) k no_row ≡ g (get_or rs k none)
mapped_at g [] none k h = absurd (omega arith)
mapped_at g (r ∷ rs) none zero h = refl
mapped_at g (r ∷ rs) none (suc k) h = mapped_at g rs none k (le_of_suc-le-suc h)

module _ (f : TableForm) (law : TableLaws f) where
  -- row k of a table
  pub row_at : (t : List ℕ) (base count k : ℕ) → k < count
      → get_or (rows_from_in f count (drop base t)) k no_row ≡ f.row_of (f.rows.read t (base + f.rows.width * k))
  unfolding rows_from_in
  row_at t base count k h =
      let n = length-raws_from f.rows count (drop base t) in
      let none = f.rows.read [] 0 in
      mapped_at f.row_of (raws_from_in f.rows count (drop base t)) none k (omega arith)
      ∙ ap f.row_of (raw_at f.rows law.form t base count k none h)

  rows_more : (k : ℕ) (ws : List ℕ) → rows_from_in f (suc k) ws ≡ rows_from_in f k ws ++ (f.row_of (f.rows.read ws (f.rows.width * k)) ∷ [])
  unfolding rows_from_in raws_from_in
  rows_more zero ws = rw (mul-zero f.rows.width)
  rows_more (suc k) ws =
      let w = f.rows.width in
      let more : w + w * k ≡ w * suc k = omega arith in
      ap (λ rs. f.row_of (f.rows.read ws 0) ∷ rs)
      (rows_more k (drop w ws)
      ∙ ap (λ r. rows_from_in f k (drop w ws) ++ (f.row_of r ∷ [])) (law.form.read_drop ws w (w * k) ∙ ap (f.rows.read ws) more))

  -- one row more
  pub rows_next : (t : List ℕ) (base k : ℕ)
      → rows_from_in f (k + 1) (drop base t) ≡ rows_from_in f k (drop base t) ++ (f.row_of (f.rows.read t (base + f.rows.width * k)) ∷ [])
  rows_next t base k =
      ap (λ n. rows_from_in f n (drop base t)) (add-one k) ∙ rows_more k (drop base t)
      ∙ ap (λ r. rows_from_in f k (drop base t) ++ (f.row_of r ∷ [])) (law.form.read_drop t base (f.rows.width * k))

  pub rows_raws : {rs : List Row} → AllCarriedIn f.limit rs → map f.row_of (map f.raw_of rs) ≡ rs
  rows_raws nil_carried = refl
  rows_raws (cons_carried {r = r} h t) = ap₂ (λ q qs. q ∷ qs) (law.says r h) (rows_raws t)

  pub carried_rows_from : (k : ℕ) (ws : List ℕ) → AllCarriedIn f.limit (rows_from_in f k ws)
  unfolding rows_from_in raws_from_in
  carried_rows_from zero ws = nil_carried
  carried_rows_from (suc k) ws = cons_carried (law.carries (f.rows.read ws 0)) (carried_rows_from k (drop f.rows.width ws))

  -- ---- a row

  -- the row in front of words
  abbrev front : List ℕ → Row
  front ws = f.row_of (f.rows.read ws 0)

  record RowMade (ds ws : List ℕ) : Type 0 where
    raw : f.rows.read ws 0 ≡ f.raw_of (front ws)
    signs : valid_signs ds (front ws).signs ≡ true
    weight : 0 < (front ws).weight

  row_made : (ds ws : List ℕ) → valid_row_in f ds ws ≡ true → RowMade ds ws
  unfolding valid_row_in
  row_made ds ws e =
      let s = sign_kinds ws in
      let w = f.weighs ws in
      let c = valid_signs ds (front ws).signs in
      let kinds = and_left (s && w) c e in
      record {
        raw = law.made ws (and_left s w kinds) (and_right s w kinds);
        signs = and_right (s && w) c e;
        weight = law.positive ws (and_right s w kinds);
      }

  row_passes : (ds : List ℕ) (r : Row) (ws : List ℕ) → CarriedIn f.limit r → ValidClause ds r.signs → 0 < r.weight
      → valid_row_in f ds (f.rows.words (f.raw_of r) ++ ws) ≡ true
  unfolding valid_row_in
  row_passes ds r ws h v p =
      rw (law.signs_pass r ws h, law.weight_passes r ws h p, law.form.read_words (f.raw_of r) ws, law.says r h) (valid_clause v)

  -- ---- all rows

  pub rows_made : (ds : List ℕ) (k : ℕ) (ws : List ℕ) → rows_valid_in f ds k ws ≡ true → raws_from_in f.rows k ws ≡ map f.raw_of (rows_from_in f k ws)
  unfolding rows_valid_in raws_from_in rows_from_in
  rows_made ds zero ws e = refl
  rows_made ds (suc k) ws e =
      let a = valid_row_in f ds ws in
      let b = rows_valid_in f ds k (drop f.rows.width ws) in
      ap₂ (λ r rs. r ∷ rs) (row_made ds ws (and_left a b e)).raw (rows_made ds k (drop f.rows.width ws) (and_right a b e))

  pub rows_valid_lem : (ds : List ℕ) (k : ℕ) (ws : List ℕ) → length ds ≡ 12 → rows_valid_in f ds k ws ≡ true → distinct_rows (rows_from_in f k ws) ≡ true
      → ValidRows ds (rows_from_in f k ws)
  unfolding rows_valid_in raws_from_in rows_from_in distinct_rows
  rows_valid_lem ds zero ws h e d = nil_rows
  rows_valid_lem ds (suc k) ws h e d =
      let rest = drop f.rows.width ws in
      let a = valid_row_in f ds ws in
      let b = rows_valid_in f ds k rest in
      let o = has_signs (front ws).signs (rows_from_in f k rest) in
      let q = distinct_rows (rows_from_in f k rest) in
      let m = row_made ds ws (and_left a b e) in
      let long = (law.carries (f.rows.read ws 0)).twelve.long in
      cons_rows (clause_valid ds (front ws).signs (h ∙ sym long) m.signs) m.weight
      (absent_rows (front ws).signs (rows_from_in f k rest) (not-true o (and_left (not o) q d)))
      (rows_valid_lem ds k rest h (and_right a b e) (and_right (not o) q d))

  pub rows_pass : {ds : List ℕ} {rs : List Row} (ws : List ℕ) → ValidRows ds rs → AllCarriedIn f.limit rs
      → rows_valid_in f ds (length rs) (flat_in f.rows (map f.raw_of rs) ++ ws) ≡ true
  unfolding rows_valid_in flat_in
  rows_pass ws nil_rows nil_carried = refl
  rows_pass {ds} ws (cons_rows {r = r} {rs = rs} v p a t) (cons_carried h hs) =
      let row = f.rows.words (f.raw_of r) in
      let rest = flat_in f.rows (map f.raw_of rs) in
      rw (append_assoc row rest ws, drop_at row (rest ++ ws) f.rows.width (law.form.length_words (f.raw_of r)))
      (both_true _ _ (row_passes ds r (rest ++ ws) h v p) (rows_pass ws t hs))
