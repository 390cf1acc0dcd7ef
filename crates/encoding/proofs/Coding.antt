-- The encoding word by word: one more word is one more step of the fold, and what each step does to the rows: their signs, number, weights and raw rows.
use Prim.Native.Nat.{ℕ, zero, suc, ◌+◌, ◌-◌, ◌^◌, ◌<◌, ◌≤◌}
use native.Mathlib.Omega.{arith}
use mathlib.Core.Path.{◌≡◌, refl, sym, ap, ◌∙◌}
use mathlib.Core.Bool.{Bool, true, false, not, ◌&&◌, ◌||◌, cond}
use mathlib.Core.List.{List, [], ◌∷◌, ◌++◌}
use lib.ListN.{length, get_or, set, take, drop, replicate, length-drop, length-set}
use lib.Seq.{take-suc, take-add, take_all, drop-drop, get_or-drop}
use lib.Dec.{eqb}
use borrow.Author.Tests.{eqb-true}
use Rattle.wcsp.specs.Clause.{same}
use Rattle.wcsp.specs.Row.{Row, merge}
use Rattle.words.specs.Layout.{kind_of, variable_in, value_in}
use Rattle.fields.specs.Entries.{closes_entry, cost_of}
use Rattle.table.specs.Valid.{has_signs}
use Rattle.table.proofs.Twelve.{Twelve}
use Rattle.encoding.specs.Coding.{positives, costs_in, signs_after, grown, Coded, nothing_coded, coded_after, coded_by, coded_to, rows_to}
use Rattle.encoding.proofs.Merging.{has-merge, length-merge, heft, heft-merge, AllTwelve, nil_twelve, twelve_merge}

-- ---- one more word

module _ (fs : List ℕ) where
  coded_append : (st : Coded) (us vs : List ℕ) → coded_by fs st (us ++ vs) ≡ coded_by fs (coded_by fs st us) vs
  unfolding coded_by
  coded_append st [] vs = refl
  coded_append st (u ∷ us) vs = coded_append (coded_after fs st u) us vs

  coded_one : (st : Coded) (us : List ℕ) (w : ℕ) → coded_by fs st (us ++ (w ∷ [])) ≡ coded_after fs (coded_by fs st us) w
  unfolding coded_by
  coded_one st us w = coded_append st us (w ∷ [])

  module _ (at : ℕ) (ws : List ℕ) where
    pub coded_start : coded_to fs at at ws ≡ nothing_coded
    unfolding coded_to coded_by
    coded_start = let z : at - at ≡ 0 = omega arith in rw z

    pub coded_next : (i : ℕ) → at ≤ i → i < length ws → coded_to fs at (i + 1) ws ≡ coded_after fs (coded_to fs at i ws) (get_or ws i 0)
    unfolding coded_to
    coded_next i h l =
        let n : i + 1 - at ≡ suc (i - at) = omega arith in
        let k : i - at < length (drop at ws) = simp length-drop (omega arith) in
        let p : at + (i - at) ≡ i = omega arith in
        rw (n, take-suc (drop at ws) (i - at) 0 k, get_or-drop at ws (i - at) 0, p)
        (coded_one nothing_coded (take (i - at) (drop at ws)) (get_or ws i 0))

    -- the words up to j go on from those up to i
    pub coded_rest : (i j : ℕ) → at ≤ i → i ≤ j → coded_to fs at j ws ≡ coded_by fs (coded_to fs at i ws) (take (j - i) (drop i ws))
    unfolding coded_to
    coded_rest i j h l =
        let n : j - at ≡ (i - at) + (j - i) = omega arith in
        let p : at + (i - at) ≡ i = omega arith in
        rw (n, take-add (i - at) (j - i) (drop at ws), drop-drop (i - at) at ws, p)
        (coded_append nothing_coded (take (i - at) (drop at ws)) (take (j - i) (drop i ws)))

    -- from the end of the words on every index has gone through them all
    coded_past : (i : ℕ) → length ws ≤ i → coded_to fs at i ws ≡ coded_by fs nothing_coded (drop at ws)
    unfolding coded_to
    coded_past i l =
        let h : length (drop at ws) ≤ i - at = simp length-drop (omega arith) in
        rw (take_all (i - at) (drop at ws) h)

    pub coded_whole : coded_to fs at (length ws) ws ≡ coded_by fs nothing_coded (drop at ws)
    coded_whole = coded_past (length ws) (omega arith)

    pub rows_whole : (i : ℕ) → length ws ≤ i → rows_to fs at i ws ≡ rows_to fs at (length ws) ws
    rows_whole i l = ap (λ (st : Coded). st.rows) (coded_past i l ∙ sym coded_whole)

-- ---- the rows behind a word

pub length-grown : (c : ℕ) (s : List ℕ) (rs : List Row) → length (grown c s rs) ≡ length rs + cond (eqb c 0) 0 (cond (has_signs s rs) 0 1)
unfolding grown
length-grown c s rs = go (eqb c 0)
  where
    go : (b : Bool) → length (cond b rs (merge c rs s)) ≡ length rs + cond b 0 (cond (has_signs s rs) 0 1)
    go true = omega arith
    go false = length-merge c rs s

pub heft-grown : (c : ℕ) (s : List ℕ) (rs : List Row) → heft (grown c s rs) ≡ heft rs + c
unfolding grown
heft-grown c s rs = go (eqb c 0) refl
  where
    go : (b : Bool) → eqb c 0 ≡ b → heft (cond b rs (merge c rs s)) ≡ heft rs + c
    go true e = omega (arith, eqb-true c 0 e)
    go false e = heft-merge c rs s

pub has-grown : (c : ℕ) (s : List ℕ) (rs : List Row) (d : List ℕ) → has_signs d (grown c s rs) ≡ (has_signs d rs || (not (eqb c 0) && same s d))
unfolding grown
has-grown c s rs d = go (eqb c 0)
  where
    same_or : (a : Bool) → a ≡ (a || false)
    same_or true = refl
    same_or false = refl

    go : (b : Bool) → has_signs d (cond b rs (merge c rs s)) ≡ (has_signs d rs || (not b && same s d))
    go true = same_or (has_signs d rs)
    go false = has-merge c rs s d

twelve_grown : (c : ℕ) {s : List ℕ} {rs : List Row} → Twelve s → AllTwelve rs → AllTwelve (grown c s rs)
unfolding grown
twelve_grown c {s} {rs} t h = go (eqb c 0)
  where
    go : (b : Bool) → AllTwelve (cond b rs (merge c rs s))
    go true = h
    go false = twelve_merge c s t h

-- ---- the rows behind many words

module _ (fs : List ℕ) where
  pub rows_grow : (st : Coded) (us : List ℕ) → length st.rows ≤ length (coded_by fs st us).rows
  unfolding coded_by coded_after
  rows_grow st [] = omega arith
  rows_grow st (u ∷ us) =
      omega (arith, length-grown (cost_of u) st.signs st.rows, rows_grow (coded_after fs st u) us)

  -- each positive word adds at most one
  pub rows_few : (st : Coded) (us : List ℕ) → length (coded_by fs st us).rows ≤ length st.rows + positives us
  unfolding coded_by coded_after positives
  rows_few st [] = omega arith
  rows_few st (u ∷ us) =
      omega (arith, length-grown (cost_of u) st.signs st.rows, rows_few (coded_after fs st u) us, one (eqb (cost_of u) 0) (has_signs st.signs st.rows))
    where
      one : (a b : Bool) → cond a 0 (cond b 0 1) ≤ cond a 0 1
      one true b = omega arith
      one false true = omega arith
      one false false = omega arith

  pub heft_coded : (st : Coded) (us : List ℕ) → heft (coded_by fs st us).rows ≡ heft st.rows + costs_in us
  unfolding coded_by coded_after costs_in
  heft_coded st [] = omega arith
  heft_coded st (u ∷ us) =
      omega (arith, heft-grown (cost_of u) st.signs st.rows, heft_coded (coded_after fs st u) us)

  pub has_stays : (c : List ℕ) (st : Coded) (us : List ℕ) → has_signs c st.rows ≡ true → has_signs c (coded_by fs st us).rows ≡ true
  unfolding coded_by coded_after
  has_stays c st [] e = e
  has_stays c st (u ∷ us) e =
      has_stays c (coded_after fs st u) us
      (has-grown (cost_of u) st.signs st.rows c ∙ ap (λ b. b || (not (eqb (cost_of u) 0) && same st.signs c)) e)

-- ---- twelve signs

small_set : (l : List ℕ) (i x : ℕ) → ((j : ℕ) → get_or l j 0 < 256) → x < 256 → (j : ℕ) → get_or (set l i x) j 0 < 256
small_set [] i x f h j = f j
small_set (a ∷ l) zero x f h zero = h
small_set (a ∷ l) zero x f h (suc j) = f (suc j)
small_set (a ∷ l) (suc i) x f h zero = f zero
small_set (a ∷ l) (suc i) x f h (suc j) = small_set l i x (λ k. f (suc k)) h j

pub twelve_zeros : Twelve (replicate 12 0)
twelve_zeros = record { long = refl; small = λ v. small_zeros 12 v }
  where
    small_zeros : (n v : ℕ) → get_or (replicate n 0) v 0 < 256
    small_zeros zero v = omega arith
    small_zeros (suc n) zero = omega arith
    small_zeros (suc n) (suc v) = small_zeros n v

twelve_after : (fs s : List ℕ) (w : ℕ) → Twelve fs → Twelve s → Twelve (signs_after fs s w)
unfolding signs_after
twelve_after fs s w f t = go (eqb (kind_of w) 3) (closes_entry w)
  where
    sign : ℕ
    sign = get_or fs (variable_in w) 0 - 2 ^ value_in w

    go : (b c : Bool) → Twelve (cond b (set s (variable_in w) sign) (cond c (replicate 12 0) s))
    go true c =
        let h : sign < 256 = omega (arith, f.small (variable_in w)) in
        record { long = length-set s (variable_in w) sign ∙ t.long; small = small_set s (variable_in w) sign t.small h }
    go false true = twelve_zeros
    go false false = t

pub twelve_coded : (fs : List ℕ) (st : Coded) (us : List ℕ) → Twelve fs → Twelve st.signs → AllTwelve st.rows → AllTwelve (coded_by fs st us).rows
unfolding coded_by coded_after
twelve_coded fs st [] f t h = h
twelve_coded fs st (u ∷ us) f t h =
    twelve_coded fs (coded_after fs st u) us f (twelve_after fs st.signs u f t) (twelve_grown (cost_of u) t h)

pub twelve_to : (fs : List ℕ) (at i : ℕ) (ws : List ℕ) → Twelve fs → AllTwelve (rows_to fs at i ws)
unfolding coded_to
twelve_to fs at i ws f = twelve_coded fs nothing_coded (take (i - at) (drop at ws)) f twelve_zeros nil_twelve
