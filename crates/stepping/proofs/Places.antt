-- The look, clause by clause: where a clause's row stands, what one turn of the loop notes, and what is noted in the end.
use Prim.Native.Nat.{ℕ, ◌+◌, ◌*◌, ◌<◌, ◌≤◌}
use native.Mathlib.Omega.{arith}
use native.Mathlib.Numerals.{add-one}
use mathlib.Core.Path.{◌≡◌, refl, sym, ap, ap₂, ◌∙◌}
use mathlib.Core.Bool.{Bool, true, false, ◌||◌, cond, or-true, or-false}
use mathlib.Core.List.{List, []}
use lib.ListN.{length, get_or, drop, set, length-set, get_or-eq_default}
use lib.Seq.{get_or-set_same, get_or-set_other}
use lib.Dec.{eqb, ltb}
use borrow.Author.Tests.{eqb-true, eqb-false, eq-eqb, ne_eqb, le-ltb}
use Rattle.std.specs.Prelude.{Option, Some, None}
use Rattle.clause.specs.declared.Clause.{Clause}
use Rattle.clause.specs.Packed.{signs_of, Holds}
use Rattle.conclusions.specs.Buffer.{clauses_in}
use Rattle.conclusions.proofs.Filling.{clauses_in-same-at}
use Rattle.rows.specs.Raw.{row_width, max_weight, Raw, no_raw, raw_at, raws_in, weight_in, raw_row, find_from}
use Rattle.rows.proofs.Flat.{length-raws_from, raw_at_lem}
use Rattle.rows.proofs.RowWords.{weight_none}
use Rattle.rows.proofs.Searching.{find_at}
use Rattle.table.proofs.Twelve.{clause_from_signs}
use Rattle.stepping.specs.Turns.{weight_at, place_of, place_in, fresh_to, heavy_to, Placed}

-- ---- one look

-- the weight that is read from the words
pub weight_read : (t : List ℕ) (base count k w : ℕ) → k < count → w ≡ weight_in (raw_at t (base + row_width * k)) → w ≡ weight_at (raws_in t base count) k
weight_read t base count k w h e = e ∙ ap weight_in (sym (raw_at_lem t base count k h))

module _ (t : List ℕ) (base count : ℕ) (x : Clause) where
  place_is : place_in count (raws_in t base count) (signs_of x) ≡ place_of count (find_from (raw_row x 0) 0 (raws_in t base count))
  place_is = ap (λ y. place_of count (find_from (raw_row y 0) 0 (raws_in t base count))) (clause_from_signs x)

  pub place_found : (k : ℕ) (f : Option ℕ) → f ≡ find_from (raw_row x 0) 0 (raws_in t base count) → f ≡ Some k
      → (k ≡ place_in count (raws_in t base count) (signs_of x)) × (k ≤ count)
  unfolding place_of
  place_found k f e g =
      let there = (find_at (raw_row x 0) (raws_in t base count) k (sym e ∙ g)).there in
      (sym (place_is ∙ ap (λ o. place_of count o) (sym e ∙ g)), omega (arith, length-raws_from count (drop base t)))

  pub place_none : (f : Option ℕ) → f ≡ find_from (raw_row x 0) 0 (raws_in t base count) → f ≡ None
      → (count ≡ place_in count (raws_in t base count) (signs_of x)) × (count ≤ count)
  unfolding place_of
  place_none f e g = (sym (place_is ∙ ap (λ o. place_of count o) (sym e ∙ g)), omega arith)

pub passes_not : (t : List ℕ) (base count k u : ℕ) → k ≡ count → u ≤ max_weight → false ≡ ltb max_weight (weight_at (raws_in t base count) k + u)
passes_not t base count k u e h =
    let n = length-raws_from count (drop base t) in
    let z : weight_at (raws_in t base count) k ≡ 0 = ap weight_in (get_or-eq_default (raws_in t base count) no_raw (omega arith)) ∙ weight_none in
    sym (le-ltb max_weight (weight_at (raws_in t base count) k + u) (omega arith))

pub passes_is : (t : List ℕ) (base count k u w : ℕ) → k < count → w ≡ weight_in (raw_at t (base + row_width * k))
    → ltb max_weight (w + u) ≡ ltb max_weight (weight_at (raws_in t base count) k + u)
passes_is t base count k u w h e = ap (λ v. ltb max_weight (v + u)) (weight_read t base count k w h e)

-- ---- the turns of the look

pub one_more : (f g k n : ℕ) → k ≡ n → g ≡ f + 1 → g ≡ f + cond (eqb k n) 1 0
one_more f g k n e h = rw (eq-eqb k n e) h

pub no_more : (f g k n : ℕ) → (k ≡ n → ⊥) → g ≡ f → g ≡ f + cond (eqb k n) 1 0
no_more f g k n e h = rw (ne_eqb k n e) (omega arith)

pub marked : (a b c t : Bool) → t ≡ b → t ≡ true → c ≡ true → c ≡ (a || b)
marked a b c t f e h = h ∙ sym (ap (λ d. a || d) (sym f ∙ e) ∙ or-true a)

pub unmarked : (a b c t : Bool) → t ≡ b → t ≡ false → c ≡ a → c ≡ (a || b)
unmarked a b c t f e h = h ∙ sym (ap (λ d. a || d) (sym f ∙ e) ∙ or-false a)

pub used_one : (w u : ℕ) → w ≡ u → ◌≡◌ {A = ℕ} 1 (cond (eqb w u) 1 0)
used_one w u e = rw (eq-eqb w u e)

pub used_none : (w u : ℕ) → (w ≡ u → ⊥) → ◌≡◌ {A = ℕ} 0 (cond (eqb w u) 1 0)
used_none w u e = rw (ne_eqb w u e)

pub at_most_one : (b : Bool) → cond b 1 0 ≤ 1
at_most_one true = omega arith
at_most_one false = omega arith

placed_more : (n : ℕ) (qs : List Raw) (cs : List (List ℕ)) (m : ℕ) (places : List ℕ) (k : ℕ) → Placed n qs cs m places → m < length places
    → k ≡ place_in n qs (get_or cs m []) → Placed n qs cs (m + 1) (set places m k)
placed_more n qs cs m places k f h e i l = go (eqb i m) refl
  where
    go : (b : Bool) → eqb i m ≡ b → get_or (set places m k) i 0 ≡ place_in n qs (get_or cs i [])
    go true q =
        let z : i ≡ m = eqb-true i m q in
        rw z (get_or-set_same places m k 0 h ∙ e)
    go false q =
        let z = eqb-false i m q in
        get_or-set_other places m i k 0 z ∙ f i (omega arith)

-- the clauses before m are looked up
pub record Looking (t : List ℕ) (base count : ℕ) (buffer : List ℕ) (kept moved : ℕ) (places : List ℕ) (fresh : ℕ) (heavy : Bool) (m : ℕ) : Type 0 where
  pub bound : m ≤ kept
  pub long : length places ≡ 26
  pub few : fresh ≤ m
  pub counted : fresh ≡ fresh_to count (raws_in t base count) (clauses_in kept buffer) m
  pub weighed : heavy ≡ heavy_to moved count (raws_in t base count) (clauses_in kept buffer) m
  pub placed : Placed count (raws_in t base count) (clauses_in kept buffer) m places

module _ (t : List ℕ) (base count : ℕ) (buffer : List ℕ) (kept moved : ℕ) where
  pub looking_start : (places : List ℕ) → length places ≡ 26 → Looking t base count buffer kept moved places 0 false 0
  unfolding fresh_to heavy_to
  looking_start places h =
      record { bound = omega arith; long = h; few = omega arith; counted = refl; weighed = refl; placed = λ m l. absurd (omega arith) }

  module _ (places : List ℕ) (fresh : ℕ) (heavy : Bool) (m : ℕ) (inv : Looking t base count buffer kept moved places fresh heavy m) where
    pub looking_next : m < kept → kept ≤ 26 → (x : Clause) → Holds x (get_or (clauses_in 26 buffer) m []) → (k : ℕ)
        → k ≡ place_in count (raws_in t base count) (signs_of x) → (fresh' : ℕ) → fresh' ≡ fresh + cond (eqb k count) 1 0
        → (heavy' : Bool) → heavy' ≡ (heavy || ltb max_weight (weight_at (raws_in t base count) k + moved))
        → Looking t base count buffer kept moved (set places m k) fresh' heavy' (m + 1)
    unfolding fresh_to heavy_to
    looking_next h l x held k e fresh' f heavy' g =
        let cs = clauses_in kept buffer in
        let qs = raws_in t base count in
        let c : signs_of x ≡ get_or cs m [] = held.signs_are ∙ clauses_in-same-at 26 kept m buffer (omega arith) h in
        let at : k ≡ place_in count qs (get_or cs m []) = e ∙ ap (λ d. place_in count qs d) c in
        let long = inv.long in
        let few = inv.few in
        record {
          bound = omega arith;
          long = length-set places m k ∙ long;
          few = omega (arith, at_most_one (eqb k count));
          counted = rw (add-one m) (f ∙ ap₂ (λ a b. a + cond (eqb b count) 1 0) inv.counted at);
          weighed = rw (add-one m) (g ∙ ap₂ (λ a b. a || ltb max_weight (weight_at qs b + moved)) inv.weighed at);
          placed = placed_more count qs cs m places k inv.placed (omega arith) at;
        }

    pub looking_end : kept ≤ m → (fresh ≡ fresh_to count (raws_in t base count) (clauses_in kept buffer) kept)
        × (heavy ≡ heavy_to moved count (raws_in t base count) (clauses_in kept buffer) kept)
        × Placed count (raws_in t base count) (clauses_in kept buffer) kept places × (fresh ≤ kept)
    looking_end h =
        let b = inv.bound in
        let e : m ≡ kept = omega arith in
        (rw e at inv.counted, rw e at inv.weighed, (λ i l. inv.placed i (omega arith)), rw e at inv.few)
