-- The lowest unsettled variable: it is where the settled ones end, each step is on it and none lowers it, and a hunt from it on, or from a
-- lower variable, finds the next pair, since no row of a lower bucket goes with any.
use Prim.Native.Nat.{ℕ, zero, suc, ◌+◌, ◌-◌, ◌<◌, ◌≤◌}
use native.Mathlib.Omega.{arith}
use native.Mathlib.Decide.{dec_lt}
use mathlib.Core.Path.{◌≡◌, refl, sym, ap, ◌∙◌}
use mathlib.Core.Bool.{Bool, true, false, cond}
use mathlib.Core.List.{List, [], ◌∷◌}
use mathlib.Core.Option.{Option, none, some}
use lib.ListN.{length}
use lib.Dec.{ltb}
use borrow.Author.Tests.{ltb-true}
use Rattle.wcsp.specs.Clause.{bucket}
use Rattle.wcsp.specs.Row.{Row}
use Rattle.wcsp.specs.Resolve.{Pair, no_row, candidate, partner, pair_in, pair_from, next_pair, resolve}
use Rattle.wcsp.specs.Unsettled.{Settled, variable_or, lowest_unsettled, LowestIs, OnIt, NeverFalls, buckets_from, HuntOver, HuntFrom}
use Rattle.wcsp.proofs.PairSearch.{PairFrom, pair_from_later, pair_from-some, pair_from-none}
use Rattle.wcsp.proofs.PairFound.{partner_is_none, pair_in_is, pair_in_is_none}
use Rattle.wcsp.proofs.NextPair.{next_is_least, other_first, other_second}
use Rattle.wcsp.proofs.Settled.{settled_kept}

pub on_it : OnIt
unfolding lowest_unsettled variable_or
on_it ds rs pr e = rw e (omega arith)

-- ---- where the settled variables end

module _ (ds : List ℕ) (rs : List Row) where
  pub lowest-none : next_pair ds rs ≡ none → lowest_unsettled ds rs ≡ length ds
  unfolding lowest_unsettled variable_or
  lowest-none e = rw e

  module _ (pr : Pair) (next : next_pair ds rs ≡ some pr) where
    found : PairFrom ds (length ds) 0 rs pr
    unfolding next_pair
    found = pair_from-some ds rs (length ds) 0 pr next

    on : pr.variable ≡ found.step
    on = omega (arith, found.pair_here.on_variable)

    pub pair_here : pair_in ds pr.variable 0 rs ≡ some pr
    pair_here =
        let e : 0 + found.step ≡ pr.variable = omega (arith, on) in
        rw e at (pair_in_is ds (0 + found.step) 0 rs pr found.pair_here)

    none_below : Settled ds pr.variable rs
    none_below u h =
        let e : 0 + u ≡ u = omega arith in
        rw e at (pair_in_is_none ds (0 + u) 0 rs (found.earlier u (omega (arith, on))))

    known : pr.variable < length ds
    known = omega (arith, on, found.in_reach)

  none_at_all : next_pair ds rs ≡ none → Settled ds (length ds) rs
  unfolding next_pair
  none_at_all e u h =
      let z : 0 + u ≡ u = omega arith in
      rw z at (pair_in_is_none ds (0 + u) 0 rs (pair_from-none ds rs (length ds) 0 e u h))

  below : (s : ℕ) (o : Option Pair) → next_pair ds rs ≡ o → s ≤ lowest_unsettled ds rs → (s ≤ length ds) × Settled ds s rs
  below s none e h = let l = lowest-none e in (omega arith, λ v k. none_at_all e v (omega arith))
  below s (some pr) e h =
      let l = on_it ds rs pr e in
      (omega (arith, known pr e), λ v k. none_below pr e v (omega arith))

  above : (s : ℕ) (o : Option Pair) → next_pair ds rs ≡ o → s ≤ length ds → Settled ds s rs → s ≤ lowest_unsettled ds rs
  above s none e h f = let l = lowest-none e in omega arith
  above s (some pr) e h f = go (dec_lt pr.variable s)
    where
      contrary : some pr ≡ none → lowest_unsettled ds rs ≡ s
      contrary q = cc

      go : Dec (pr.variable < s) → s ≤ lowest_unsettled ds rs
      go (yes k) = let z = contrary (sym (pair_here pr e) ∙ f pr.variable k) in omega arith
      go (no k) = omega (arith, on_it ds rs pr e)

pub lowest_is : LowestIs
lowest_is ds rs s = (below ds rs s (next_pair ds rs) refl, λ h. above ds rs s (next_pair ds rs) refl h.0 h.1)

-- ---- over a step

pub never_falls : NeverFalls
never_falls ds rs pr v e =
    let l = on_it ds rs pr e in
    let (h, f) = (lowest_is ds rs (lowest_unsettled ds rs)).0 (omega arith) in
    let still : Settled ds (lowest_unsettled ds rs) (resolve ds pr rs)
    = λ u k. settled_kept v ((next_is_least ds rs pr).0 e).is u (omega (arith, k, l)) (f u k) in
    omega (arith, (lowest_is ds (resolve ds pr rs) (lowest_unsettled ds rs)).1 (h, still))

-- ---- rows of lower buckets

module _ (ds : List ℕ) (s u : ℕ) (h : s ≤ u) where
  -- what stands in a row's place: the row, or nothing for one of a bucket below s
  data Standing (r : Row) : Row → Type 0 where
    stays : Standing r r
    goes : bucket r.signs < s → Standing r no_row

  standing : (r : Row) → Standing r (cond (ltb (bucket r.signs) s) no_row r)
  standing r = go (ltb (bucket r.signs) s) refl
    where
      go : (b : Bool) → ltb (bucket r.signs) s ≡ b → Standing r (cond b no_row r)
      go true e = goes (ltb-true (bucket r.signs) s e)
      go false e = stays

  -- an empty place goes with no row
  empty_other : (r : Row) → bucket r.signs < s → bucket [] ≡ u → ⊥
  unfolding bucket
  empty_other r l e = omega arith

  tested : (x : List ℕ) (r r' : Row) → Standing r r' → candidate ds u x r'.signs ≡ candidate ds u x r.signs
  tested x r r' stays = refl
  tested x r r' (goes l) = other_second ds u x [] (empty_other r l) ∙ sym (other_second ds u x r.signs (λ e. omega arith))

  second_same : (x : List ℕ) (j : ℕ) (rs : List Row) → partner ds u x j (buckets_from s rs) ≡ partner ds u x j rs
  unfolding partner buckets_from
  second_same x j [] = refl
  second_same x j (r ∷ rs) = rw (tested x r _ (standing r), second_same x (suc j) rs)

  second_of : (r r' : Row) → Standing r r' → (j : ℕ) (rs : List Row) → partner ds u r'.signs j (buckets_from s rs) ≡ partner ds u r.signs j rs
  second_of r r' stays j rs = second_same r.signs j rs
  second_of r r' (goes l) j rs =
      partner_is_none ds u [] j (buckets_from s rs) (λ k m. other_first ds u [] _ (empty_other r l))
      ∙ sym (partner_is_none ds u r.signs j rs (λ k m. other_first ds u r.signs _ (λ e. omega arith)))

  rows_same : (i : ℕ) (rs : List Row) → pair_in ds u i (buckets_from s rs) ≡ pair_in ds u i rs
  unfolding pair_in buckets_from
  rows_same i [] = refl
  rows_same i (r ∷ rs) = rw (second_of r _ (standing r) (suc i) rs, rows_same (suc i) rs)

-- a hunt from s on passes every row of a lower bucket over
lower_passed : (ds : List ℕ) (s : ℕ) (rs : List Row) (k u : ℕ) → s ≤ u → pair_from ds k u (buckets_from s rs) ≡ pair_from ds k u rs
unfolding pair_from
lower_passed ds s rs zero u h = refl
lower_passed ds s rs (suc k) u h = rw (rows_same ds s u h 0 rs, lower_passed ds s rs k (suc u) (omega arith))

-- settled variables are passed over
settled_next : (ds : List ℕ) (rs : List Row) (s : ℕ) → s ≤ length ds → Settled ds s rs
    → next_pair ds rs ≡ pair_from ds (length ds - s) s rs
unfolding next_pair
settled_next ds rs zero h f = let e : length ds ≡ length ds - 0 = omega arith in ap (λ n. pair_from ds n 0 rs) e
settled_next ds rs (suc s) h f =
    let e : length ds - s ≡ suc (length ds - suc s) = omega arith in
    settled_next ds rs s (omega arith) (λ t l. f t (omega arith)) ∙ ap (λ n. pair_from ds n s rs) e
    ∙ pair_from_later ds rs (length ds - suc s) s (f s (omega arith))

pub hunt_over : HuntOver
hunt_over ds rs s h =
    let (l, f) = (lowest_is ds rs s).0 (omega (arith, h)) in
    lower_passed ds s rs (length ds - s) s (omega arith) ∙ sym (settled_next ds rs s l f)

pub hunt_from : HuntFrom
hunt_from ds rs rs' s h e =
    sym (lower_passed ds s rs' (length ds - s) s (omega arith)) ∙ ap (pair_from ds (length ds - s) s) e ∙ hunt_over ds rs s (omega (arith, h))
