-- The turns on raw rows are the theory's steps on the rows that they carry: the same places, the same counts, and the same rows after each turn.
use Prim.Native.Nat.{ℕ, zero, suc, ◌+◌, ◌-◌, ◌<◌, ◌≤◌}
use native.Mathlib.Omega.{arith}
use mathlib.Core.Path.{◌≡◌, refl, sym, ap, ap₂, ◌∙◌}
use mathlib.Core.Bool.{Bool, true, false, ◌||◌, cond}
use mathlib.Core.List.{List, [], ◌∷◌, ◌++◌, map, map-append, append-nil, append_assoc}
use lib.ListN.{length, get_or, take, length-append, length-map, get_or-eq_default}
use lib.Seq.{take-suc}
use lib.Dec.{eqb, ltb}
use borrow.Author.Tests.{eqb-true, eqb-false, eq-eqb, ne_eqb, ltb-false}
use Rattle.std.specs.Prelude.{Option, Some, None}
use Rattle.wcsp.specs.Clause.{same}
use Rattle.wcsp.specs.Row.{Row, weight_of, Absent, ValidRows}
use Rattle.wcsp.specs.Resolve.{no_row, lessen}
use Rattle.wcsp.specs.Theorems.{Apart, nil_apart, cons_apart, Distinct, nil_distinct, cons_distinct}
use Rattle.wcsp.proofs.Lists.{same-eq, same_sym, or_left, or_right}
use Rattle.wcsp.proofs.EmptyRow.{weight_of_absent}
use Rattle.wcsp.proofs.Adding.{member, raised, fresh, single, raised-nil}
use Rattle.wcsp.proofs.Raising.{set_weight, raised-length, raised_other, raised_more, raised_more_absent, fresh_more_absent, fresh_more_at}
use Rattle.wcsp.proofs.TooHeavy.{heavy_any, heavy_any_more, weight_of-at}
use Rattle.clause.specs.Packed.{signs_of}
use Rattle.rows.specs.Raw.{max_weight, Raw, raw_row, find_from, reweighed, without}
use Rattle.storing.proofs.Changes.{reweighed_past}
use Rattle.table.specs.Clauses.{clause_from}
use Rattle.table.specs.Raws.{raw_of}
use Rattle.table.proofs.Twelve.{Twelve, signs_clause_from}
use Rattle.table.proofs.Carried.{AllCarried, carried_weight}
use Rattle.table.proofs.RawRows.{weight_raws}
use Rattle.table.proofs.Finding.{found_at, found_missing}
use Rattle.stepping.specs.Turns.{weight_at, place_of, place_in, fresh_to, heavy_to, Placed, raised_to, taken_from, appended_to}

-- ---- rows and the raw rows that carry them

reweighed_rows : (rs : List Row) (k w : ℕ) → reweighed (map raw_of rs) k w ≡ map raw_of (set_weight rs k w)
unfolding reweighed set_weight
reweighed_rows [] k w = refl
reweighed_rows (r ∷ rs) zero w = refl
reweighed_rows (r ∷ rs) (suc k) w = ap (λ qs. raw_of r ∷ qs) (reweighed_rows rs k w)

weight_past : (rs : List Row) (k : ℕ) → length rs ≤ k → (get_or rs k no_row).weight ≡ 0
weight_past rs k h = ap (λ (r : Row). r.weight) (get_or-eq_default rs no_row h)

taken_whole : (u k : ℕ) (rs : List Row) → k < length rs → (get_or rs k no_row).weight ≡ u → without (map raw_of rs) k ≡ map raw_of (lessen u k rs)
unfolding without lessen
taken_whole u k [] h e = absurd (omega arith)
taken_whole u zero (r ∷ rs) h e = let z : r.weight - u ≡ 0 = omega arith in rw (eq-eqb (r.weight - u) 0 z)
taken_whole u (suc k) (r ∷ rs) h e = ap (λ qs. raw_of r ∷ qs) (taken_whole u k rs (omega arith) e)

taken_part : (u k : ℕ) (rs : List Row) → k < length rs → u < (get_or rs k no_row).weight
    → reweighed (map raw_of rs) k ((get_or rs k no_row).weight - u) ≡ map raw_of (lessen u k rs)
unfolding reweighed lessen
taken_part u k [] h e = absurd (omega arith)
taken_part u zero (r ∷ rs) h e = let z : r.weight - u ≡ 0 → ⊥ = λ q. omega arith in rw (ne_eqb (r.weight - u) 0 z)
taken_part u (suc k) (r ∷ rs) h e = ap (λ qs. raw_of r ∷ qs) (taken_part u k rs (omega arith) e)

pub taken_rows : (u k : ℕ) (rs : List Row) → k < length rs → u ≤ (get_or rs k no_row).weight → (get_or rs k no_row).weight ≤ max_weight
    → taken_from u k (map raw_of rs) ≡ map raw_of (lessen u k rs)
unfolding taken_from
taken_rows u k rs h l m = rw (weight_raws rs k m) (go (eqb (get_or rs k no_row).weight u) refl)
  where
    go : (b : Bool) → eqb (get_or rs k no_row).weight u ≡ b
        → cond b (without (map raw_of rs) k) (reweighed (map raw_of rs) k ((get_or rs k no_row).weight - u)) ≡ map raw_of (lessen u k rs)
    go true e = taken_whole u k rs h (eqb-true (get_or rs k no_row).weight u e)
    go false e = let z = eqb-false (get_or rs k no_row).weight u e in taken_part u k rs h (omega arith)

-- ---- where a clause's row stands

pub data Place (c : List ℕ) (rs : List Row) (k : ℕ) : Type 0 where
  here : k < length rs → (get_or rs k no_row).signs ≡ c → Place c rs k
  nowhere : k ≡ length rs → Absent c rs → Place c rs k

place_rows : (rs : List Row) → AllCarried rs → (n : ℕ) → length rs ≡ n → (c : List ℕ) → Twelve c → Place c rs (place_in n (map raw_of rs) c)
unfolding place_of
place_rows rs a n e c t = go (find_from (raw_row (clause_from c) 0) 0 (map raw_of rs)) refl
  where
    s : signs_of (clause_from c) ≡ c
    s = signs_clause_from c t

    go : (f : Option ℕ) → find_from (raw_row (clause_from c) 0) 0 (map raw_of rs) ≡ f → Place c rs (place_of n f)
    go (Some k) g =
        let f = found_at (clause_from c) a k g in
        here f.within (same-eq _ _ f.has ∙ s)
    go None g = nowhere (sym e) (rw s at (found_missing (clause_from c) a g))

apart_other : {c : List ℕ} {cs : List (List ℕ)} → Apart c cs → (m : ℕ) → m < length cs → same (get_or cs m []) c ≡ false
apart_other nil_apart m h = absurd (omega arith)
apart_other {c} (cons_apart {d = d} e a) zero h = same_sym d c ∙ e
apart_other (cons_apart e a) (suc m) h = apart_other a m (omega arith)

member_before : {cs : List (List ℕ)} → Distinct cs → (m : ℕ) → m < length cs → member (get_or cs m []) (take m cs) ≡ false
unfolding member
member_before nil_distinct m h = absurd (omega arith)
member_before (cons_distinct a d) zero h = refl
member_before (cons_distinct {c = c} {cs = cs} a d) (suc m) h = rw (apart_other a m (omega arith)) (member_before d m (omega arith))

-- ---- turn by turn

light_at : (u n : ℕ) (qs : List Raw) (cs : List (List ℕ)) (k : ℕ) → heavy_to u n qs cs k ≡ false → (m : ℕ) → m < k
    → ltb max_weight (weight_at qs (place_in n qs (get_or cs m [])) + u) ≡ false
unfolding heavy_to
light_at u n qs cs zero e m h = absurd (omega arith)
light_at u n qs cs (suc k) e m h = go (eqb m k) refl (light_at u n qs cs k (or_left (heavy_to u n qs cs k) _ e) m)
  where
    go : (b : Bool) → eqb m k ≡ b → (m < k → ltb max_weight (weight_at qs (place_in n qs (get_or cs m [])) + u) ≡ false)
        → ltb max_weight (weight_at qs (place_in n qs (get_or cs m [])) + u) ≡ false
    go true q ih = let z = eqb-true m k q in rw z (or_right (heavy_to u n qs cs k) _ e)
    go false q ih = let z = eqb-false m k q in ih (omega arith)

module _ {ds : List ℕ} {rs : List Row} (v : ValidRows ds rs) (a : AllCarried rs) (n : ℕ) (count : length rs ≡ n)
    (cs : List (List ℕ)) (twelve : (m : ℕ) → m < length cs → Twelve (get_or cs m [])) where
  place : ℕ → ℕ
  place m = place_in n (map raw_of rs) (get_or cs m [])

  placed_at : (m : ℕ) → m < length cs → Place (get_or cs m []) rs (place m)
  unfolding place
  placed_at m h = place_rows rs a n count (get_or cs m []) (twelve m h)

  pub fresh_agrees : (u m : ℕ) → m ≤ length cs → fresh_to n (map raw_of rs) cs m ≡ length (fresh u (take m cs) rs)
  unfolding fresh_to fresh place
  fresh_agrees u zero h = refl
  fresh_agrees u (suc m) h = rw (take-suc cs m [] h, fresh_agrees u m (omega arith)) (go (placed_at m h))
    where
      go : Place (get_or cs m []) rs (place m)
          → length (fresh u (take m cs) rs) + cond (eqb (place m) n) 1 0 ≡ length (fresh u (take m cs ++ (get_or cs m [] ∷ [])) rs)
      go (here l e) =
          let z : place m ≡ n → ⊥ = λ q. omega arith in
          rw (fresh_more_at u (take m cs) (get_or cs m []) rs (place m) l e, ne_eqb (place m) n z) (omega arith)
      go (nowhere e b) =
          rw (fresh_more_absent u (take m cs) b, eq-eqb (place m) n (e ∙ count)) (sym (length-append (fresh u (take m cs) rs) _))

  place_weight : (m : ℕ) → m < length cs → weight_at (map raw_of rs) (place m) ≡ weight_of (get_or cs m []) rs
  place_weight m h = weight_raws rs (place m) (carried_weight a (place m)) ∙ go (placed_at m h)
    where
      go : Place (get_or cs m []) rs (place m) → (get_or rs (place m) no_row).weight ≡ weight_of (get_or cs m []) rs
      go (here l e) = sym (weight_of-at (place m) (get_or cs m []) (single v) l e)
      go (nowhere e b) = weight_past rs (place m) (omega arith) ∙ sym (weight_of_absent (get_or cs m []) b)

  pub heavy_agrees : (u m : ℕ) → m ≤ length cs → heavy_to u n (map raw_of rs) cs m ≡ heavy_any max_weight u (take m cs) rs
  unfolding heavy_to heavy_any place
  heavy_agrees u zero h = refl
  heavy_agrees u (suc m) h =
      ap₂ (λ b w. b || ltb max_weight (w + u)) (heavy_agrees u m (omega arith)) (place_weight m h)
      ∙ sym (ap (λ l. heavy_any max_weight u l rs) (take-suc cs m [] h) ∙ heavy_any_more max_weight u (take m cs) (get_or cs m []) rs)

  module _ (places : List ℕ) (p : Placed n (map raw_of rs) cs (length cs) places) where
    noted-at : (m : ℕ) → m < length cs → Place (get_or cs m []) rs (get_or places m 0)
    unfolding place
    noted-at m h = rw (p m h) (placed_at m h)

    module _ (d : Distinct cs) (u : ℕ) where
      -- a place's row has its own weight until its turn comes
      stays : (m : ℕ) → m < length cs → (get_or (raised u (take m cs) rs) (get_or places m 0) no_row).weight ≡ (get_or rs (get_or places m 0) no_row).weight
      stays m h = go (noted-at m h)
        where
          go : Place (get_or cs m []) rs (get_or places m 0)
              → (get_or (raised u (take m cs) rs) (get_or places m 0) no_row).weight ≡ (get_or rs (get_or places m 0) no_row).weight
          go (here l e) = raised_other u (take m cs) rs (get_or places m 0) (ap (λ c. member c (take m cs)) e ∙ member_before d m h)
          go (nowhere e b) =
              let long = raised-length u (take m cs) rs in
              weight_past (raised u (take m cs) rs) (get_or places m 0) (omega arith) ∙ sym (weight_past rs (get_or places m 0) (omega arith))

      weight_stays : (m : ℕ) → m < length cs → weight_at (map raw_of (raised u (take m cs) rs)) (get_or places m 0) ≡ (get_or rs (get_or places m 0) no_row).weight
      weight_stays m h =
          let e = stays m h in
          let l = carried_weight a (get_or places m 0) in
          weight_raws (raised u (take m cs) rs) (get_or places m 0) (omega arith) ∙ e

      pub raised_agrees : (m : ℕ) → m ≤ length cs → raised_to u places (map raw_of rs) m ≡ map raw_of (raised u (take m cs) rs)
      unfolding raised_to
      raised_agrees zero h = ap (λ l. map raw_of l) (sym (raised-nil u rs))
      raised_agrees (suc m) h = rw (raised_agrees m (omega arith), weight_stays m h, take-suc cs m [] h) (go (noted-at m h))
        where
          go : Place (get_or cs m []) rs (get_or places m 0)
              → reweighed (map raw_of (raised u (take m cs) rs)) (get_or places m 0) ((get_or rs (get_or places m 0) no_row).weight + u)
              ≡ map raw_of (raised u (take m cs ++ (get_or cs m [] ∷ [])) rs)
          go (here l e) =
              reweighed_rows (raised u (take m cs) rs) (get_or places m 0) ((get_or rs (get_or places m 0) no_row).weight + u)
              ∙ ap (λ l. map raw_of l) (sym (raised_more u (take m cs) (get_or cs m []) (get_or places m 0) v (member_before d m h) l e))
          go (nowhere e b) =
              let long = length-map (raised u (take m cs) rs) raw_of ∙ raised-length u (take m cs) rs in
              reweighed_past (map raw_of (raised u (take m cs) rs)) (get_or places m 0) _ (omega arith)
              ∙ ap (λ l. map raw_of l) (sym (raised_more_absent u (take m cs) b))

      -- a row that does not pass the limit when it is looked at does not pass it when it is raised
      pub raised_light : heavy_to u n (map raw_of rs) cs (length cs) ≡ false → (m : ℕ) → m < length cs
          → weight_at (raised_to u places (map raw_of rs) m) (get_or places m 0) + u ≤ max_weight
      unfolding place
      raised_light e m h =
          let w = ap (λ qs. weight_at qs (get_or places m 0)) (raised_agrees m (omega arith)) ∙ weight_stays m h in
          let k : get_or places m 0 ≡ place m = p m h in
          let l = weight_raws rs (get_or places m 0) (carried_weight a (get_or places m 0)) in
          let f = ap (λ i. weight_at (map raw_of rs) i) k in
          omega (arith, ltb-false max_weight (weight_at (map raw_of rs) (place m) + u) (light_at u n (map raw_of rs) cs (length cs) e m h))

    pub appended_agrees : (u m : ℕ) (ts : List Row) → m ≤ length cs → appended_to u n places cs (map raw_of ts) m ≡ map raw_of (ts ++ fresh u (take m cs) rs)
    unfolding appended_to fresh
    appended_agrees u zero ts h = ap (λ l. map raw_of l) (sym (append-nil ts))
    appended_agrees u (suc m) ts h = rw (appended_agrees u m ts (omega arith), take-suc cs m [] h) (go (noted-at m h))
      where
        go : Place (get_or cs m []) rs (get_or places m 0)
            → map raw_of (ts ++ fresh u (take m cs) rs) ++ cond (eqb (get_or places m 0) n) (raw_row (clause_from (get_or cs m [])) u ∷ []) []
            ≡ map raw_of (ts ++ fresh u (take m cs ++ (get_or cs m [] ∷ [])) rs)
        go (here l e) =
            let z : get_or places m 0 ≡ n → ⊥ = λ q. omega arith in
            rw (fresh_more_at u (take m cs) (get_or cs m []) rs (get_or places m 0) l e, ne_eqb (get_or places m 0) n z) (append-nil _)
        go (nowhere e b) =
            rw (fresh_more_absent u (take m cs) b, eq-eqb (get_or places m 0) n (e ∙ count), ← append_assoc) (sym (map-append raw_of (ts ++ fresh u (take m cs) rs) _))
