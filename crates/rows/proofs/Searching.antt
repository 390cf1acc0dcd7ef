-- The search for a raw row with given sign words: its answer characterised both ways, and the steps of a loop that goes through the words.
use Prim.Native.Nat.{ℕ, zero, suc, ◌+◌, ◌*◌, ◌-◌, ◌≤◌, ◌<◌, suc-le-suc}
use native.Mathlib.Nat.{le_of_suc-le-suc, sub-zero}
use native.Mathlib.Numerals.{add-one}
use native.Mathlib.Omega.{arith}
use mathlib.Core.Path.{◌≡◌, refl, ap, sym, ◌∙◌}
use mathlib.Core.Bool.{Bool, true, false, cond, false≢true}
use mathlib.Core.List.{List, [], ◌∷◌}
use lib.ListN.{length, get_or, drop}
use lib.Seq.{drop-drop}
use lib.Dec.{ltb}
use borrow.Author.Tests.{ltb-true, ltb-false}
use Rattle.rows.specs.Form.{raws_from_in}
use Rattle.rows.specs.Raw.{row_width, Raw, no_raw, raw_at, row_form, same_signs, find_from, find_spaced}
use Rattle.std.specs.Prelude.{Option, Some, None}
use Rattle.rows.proofs.Flat.{raw_at-front}

-- row k is the first of rs with the sign words of q
pub record First (q : Raw) (rs : List Raw) (k : ℕ) : Type 0 where
  pub there : k < length rs
  pub here : same_signs (get_or rs k no_raw) q ≡ true
  pub before : (j : ℕ) → j < k → same_signs (get_or rs j no_raw) q ≡ false

-- no row of rs has them
abbrev pub Nowhere : Raw → List Raw → Type 0
Nowhere q rs = (j : ℕ) → j < length rs → same_signs (get_or rs j no_raw) q ≡ false

-- the answer of a search counted from k
data Answer (q : Raw) (k : ℕ) (rs : List Raw) : Option ℕ → Type 0 where
  found : {m : ℕ} (i : ℕ) → First q rs i → m ≡ k + i → Answer q k rs (Some m)
  none : Nowhere q rs → Answer q k rs None

none-cons : (q r : Raw) (rs : List Raw) → same_signs r q ≡ false → Nowhere q rs → Nowhere q (r ∷ rs)
none-cons q r rs e n zero h = e
none-cons q r rs e n (suc j) h = n j (le_of_suc-le-suc h)

first_cons : (q r : Raw) (rs : List Raw) (i : ℕ) → same_signs r q ≡ false → First q rs i → First q (r ∷ rs) (suc i)
first_cons q r rs i e f = record { there = suc-le-suc f.there; here = f.here; before = before }
  where
    before : (j : ℕ) → j < suc i → same_signs (get_or (r ∷ rs) j no_raw) q ≡ false
    before zero h = e
    before (suc j) h = f.before j (le_of_suc-le-suc h)

answer_cons : (q r : Raw) (k : ℕ) (rs : List Raw) (o : Option ℕ) → same_signs r q ≡ false → Answer q (suc k) rs o → Answer q k (r ∷ rs) o
answer_cons q r k rs (Some m) e (found i f h) = let more : m ≡ k + suc i = omega arith in found (suc i) (first_cons q r rs i e f) more
answer_cons q r k rs None e (none n) = none (none-cons q r rs e n)

answer : (q : Raw) (k : ℕ) (rs : List Raw) → Answer q k rs (find_from q k rs)
unfolding find_from
answer q k [] = none (λ j h. absurd (omega arith))
answer q k (r ∷ rs) = go (same_signs r q) refl (answer q (suc k) rs)
  where
    go : (b : Bool) → same_signs r q ≡ b → Answer q (suc k) rs (find_from q (suc k) rs) → Answer q k (r ∷ rs) (cond b (Some k) (find_from q (suc k) rs))
    go true e a =
        let self : k ≡ k + 0 = omega arith in
        found 0 (record { there = omega arith; here = e; before = λ j h. absurd (omega arith) }) self
    go false e a = answer_cons q r k rs (find_from q (suc k) rs) e a

pub find_at : (q : Raw) (rs : List Raw) (k : ℕ) → find_from q 0 rs ≡ Some k → First q rs k
find_at q rs k e = go (find_from q 0 rs) (answer q 0 rs) e
  where
    go : (o : Option ℕ) → Answer q 0 rs o → o ≡ Some k → First q rs k
    go (Some m) (found i f h) u = let same : m ≡ k = cc in let s : i ≡ k = omega arith in rw (← s) f
    go None (none n) u = let z : ◌≡◌ {A = ℕ} 0 1 = cc in absurd (omega arith)

-- two rows of one list cannot both be the first
first_unique : (q : Raw) (rs : List Raw) (i k : ℕ) → First q rs i → First q rs k → i ≡ k
first_unique q rs i k f g = go (ltb i k) refl (ltb k i) refl
  where
    go : (b : Bool) → ltb i k ≡ b → (e : Bool) → ltb k i ≡ e → i ≡ k
    go true u e v = absurd (false≢true (sym (g.before i (ltb-true i k u)) ∙ f.here))
    go false u true v = absurd (false≢true (sym (f.before k (ltb-true k i v)) ∙ g.here))
    go false u false v = let l = ltb-false i k u in let m = ltb-false k i v in omega arith

-- ---- rows that start so many words behind one another

pub spaced_by_six : (q : Raw) (k n : ℕ) (ws : List ℕ) → find_spaced row_width q k n ws ≡ find_from q k (raws_from_in row_form n ws)
unfolding find_spaced find_from raws_from_in
spaced_by_six q k zero ws = refl
spaced_by_six q k (suc n) ws = ap (λ o. cond (same_signs (raw_at ws 0) q) (Some k) o) (spaced_by_six q (suc k) n (drop row_width ws))

-- ---- the steps of a loop: the rows from row k on start at place base + width * k

pub find_start : (width : ℕ) (q : Raw) (t : List ℕ) (base count : ℕ) → find_spaced width q 0 count (drop base t) ≡ find_spaced width q 0 (count - 0) (drop (base + width * 0) t)
find_start width q t base count =
    let none : base ≡ base + width * 0 = omega arith in
    ap (λ at. find_spaced width q 0 count (drop at t)) none ∙ rw sub-zero

module _ (width : ℕ) (q : Raw) (t : List ℕ) (o : Option ℕ) (base count k : ℕ) (inv : o ≡ find_spaced width q k (count - k) (drop (base + width * k) t)) where
  one : k < count → o ≡ cond (same_signs (raw_at t (base + width * k)) q) (Some k) (find_spaced width q (k + 1) (count - (k + 1)) (drop (base + width * (k + 1)) t))
  unfolding find_spaced
  one h =
      let more : count - k ≡ suc (count - (k + 1)) = omega arith in
      let next : base + width * k + width ≡ base + width * (k + 1) = omega arith in
      inv ∙ rw (more, raw_at-front t (base + width * k), drop-drop width (base + width * k) t, next, add-one)

  pub find_here : k < count → same_signs (raw_at t (base + width * k)) q ≡ true → Some k ≡ o
  find_here h e = sym (one h ∙ rw e)

  pub find_next : k < count → same_signs (raw_at t (base + width * k)) q ≡ false → o ≡ find_spaced width q (k + 1) (count - (k + 1)) (drop (base + width * (k + 1)) t)
  find_next h e = one h ∙ rw e

  pub find_end : count ≤ k → None ≡ o
  unfolding find_spaced
  find_end h = let none_left : count - k ≡ 0 = omega arith in sym (inv ∙ rw none_left)
