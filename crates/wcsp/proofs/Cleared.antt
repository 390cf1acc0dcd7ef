-- Where a search goes on after a step on the least pair of s: no row before the pair's first one goes with any, and if the first row stays,
-- it goes with none before the second. So the search may start there.
use Prim.Native.Nat.{ℕ, zero, suc, ◌+◌, ◌-◌, ◌<◌, ◌≤◌}
use native.Mathlib.Nat.{add-zero}
use native.Mathlib.Omega.{arith}
use native.Mathlib.Decide.{dec_lt}
use mathlib.Core.Path.{◌≡◌, refl, sym, ap, ap₂, ◌∙◌}
use mathlib.Core.Logic.{◌⊎◌, inl, inr}
use mathlib.Core.Bool.{Bool, true, false, not, ◌&&◌, cond, or_comm, true≢false, false≢true}
use mathlib.Core.List.{List, [], ◌∷◌}
use mathlib.Core.Option.{some}
use lib.ListN.{length, get_or, drop, length-drop, get_or-append, get_or-eq_default}
use lib.Seq.{drop-cons, get_or-drop}
use lib.Bits.{bit_and, and_zero_l, and_self}
use lib.Dec.{eqb}
use borrow.Author.Tests.{eq-eqb, ne_eqb, not-true}
use Rattle.wcsp.specs.Sign.{within}
use Rattle.wcsp.specs.Clause.{ValidClause}
use Rattle.wcsp.specs.Row.{Row, ValidRows}
use Rattle.wcsp.specs.Rule.{nested, permitted}
use Rattle.wcsp.specs.Resolve.{Pair, no_row, candidate, partner, pair_in, lessen, moved_weight, resolve}
use Rattle.wcsp.specs.Theorems.{CandidatePair}
use Rattle.wcsp.proofs.Lists.{and_left, along_length}
use Rattle.wcsp.proofs.Validity.{valid_signs_lem}
use Rattle.wcsp.proofs.Linear.{lessen_below}
use Rattle.wcsp.proofs.Distinctness.{clashing_sym}
use Rattle.wcsp.proofs.PairSearch.{signs_at, PairIn, pair_in-some, pair_in_later, partner_later}
use Rattle.wcsp.proofs.PairFound.{partner_is_none}
use Rattle.wcsp.proofs.NextPair.{Goes, candidate-goes, goes-candidate}
use Rattle.wcsp.proofs.Adding.{row_of, raised, fresh}
use Rattle.wcsp.proofs.Raising.{raised_signs, raised_other}
use Rattle.wcsp.proofs.AsWritten.{kept_of, lessened, outcome, gone, removed, removed-le, resolve_as_written, written-length, resolve-length}
use Rattle.wcsp.proofs.Settled.{Alone, alone, alone_at}
use Rattle.wcsp.proofs.Passed.{alone_step}

-- ---- the search passes over rows that go with none

module _ (ds : List ℕ) (s : ℕ) (x : List ℕ) (rs : List Row) where
  pub partner_skip : (m d : ℕ) → m + d ≤ length rs → ((l : ℕ) → m ≤ l → l < m + d → candidate ds s x (signs_at rs l) ≡ false)
      → partner ds s x m (drop m rs) ≡ partner ds s x (m + d) (drop (m + d) rs)
  partner_skip m zero h f = rw add-zero
  partner_skip m (suc d) h f =
      let l : m < length rs = omega arith in
      let e : suc m + d ≡ m + suc d = omega arith in
      ap (partner ds s x m) (drop-cons rs m no_row l)
      ∙ partner_later ds s x m (get_or rs m no_row) (drop (suc m) rs) (f m (omega arith) (omega arith))
      ∙ partner_skip (suc m) d (omega arith) (λ k a b. f k (omega arith) (omega arith))
      ∙ ap (λ n. partner ds s x n (drop n rs)) e

-- first rows without a second one
pub pair_in_skip : (ds : List ℕ) (s : ℕ) (rs : List Row) (i : ℕ) → i ≤ length rs
    → ((k l : ℕ) → k < i → k < l → l < length rs → candidate ds s (signs_at rs k) (signs_at rs l) ≡ false)
    → pair_in ds s 0 rs ≡ pair_in ds s i (drop i rs)
pair_in_skip ds s rs zero h f = refl
pair_in_skip ds s rs (suc i) h f =
    let l : i < length rs = omega arith in
    pair_in_skip ds s rs i (omega arith) (λ k m p q r. f k m (omega arith) q r)
    ∙ ap (pair_in ds s i) (drop-cons rs i no_row l)
    ∙ pair_in_later ds s i (get_or rs i no_row) (drop (suc i) rs)
    (partner_is_none ds s (signs_at rs i) (suc i) (drop (suc i) rs)
    (λ k m. ap (λ r. candidate ds s (signs_at rs i) r.signs) (get_or-drop (suc i) rs k no_row)
    ∙ f i (suc i + k) (omega arith) (omega arith) (omega (arith, length-drop (suc i) rs))))

-- ---- the order of two clauses

permitted_sym : (ds : List ℕ) (s : ℕ) (x y : List ℕ) → permitted ds s x y ≡ permitted ds s y x
unfolding permitted nested
permitted_sym ds s x y =
    ap₂ (λ a b. not a && not b) (or_comm (within (get_or x s 0) (get_or y s 0)) (within (get_or y s 0) (get_or x s 0))) (clashing_sym ds _ _)

module _ (ds : List ℕ) (s : ℕ) where
  candidate_swap : (x y : List ℕ) → candidate ds s x y ≡ false → candidate ds s y x ≡ false
  candidate_swap x y n = go (candidate ds s y x) refl
    where
      go : (b : Bool) → candidate ds s y x ≡ b → b ≡ false
      go true e =
          let g = candidate-goes ds s y x e in
          absurd (false≢true (sym n
          ∙ goes-candidate ds s x y (record { first_in = g.second_in; second_in = g.first_in; may = permitted_sym ds s x y ∙ g.may })))
      go false e = refl

  -- a clause does not go with itself
  candidate_self : (x : List ℕ) → candidate ds s x x ≡ false
  unfolding permitted nested within
  candidate_self x = go (candidate ds s x x) refl
    where
      itself : (S : ℕ) → nested S S ≡ true
      itself S = rw (eq-eqb (bit_and S S) S (and_self S))

      go : (b : Bool) → candidate ds s x x ≡ b → b ≡ false
      go true e =
          let n : nested (get_or x s 0) (get_or x s 0) ≡ false = not-true _ (and_left _ _ (candidate-goes ds s x x e).may) in
          absurd (false≢true (sym n ∙ itself (get_or x s 0)))
      go false e = refl

-- ---- over a step

-- past the last variable both signs are absent, and so nested
permitted_known : {ds x : List ℕ} (s : ℕ) (y : List ℕ) → ValidClause ds x → permitted ds s x y ≡ true → s < length ds
unfolding permitted nested within
permitted_known {ds} {x} s y v m = go (dec_lt s (length ds))
  where
    go : Dec (s < length ds) → s < length ds
    go (yes l) = l
    go (no l) =
        let past : length x ≤ s = omega (arith, along_length v) in
        let z : get_or x s 0 ≡ 0 = get_or-eq_default x 0 past in
        let out : nested (get_or x s 0) (get_or y s 0) ≡ true = rw (z, eq-eqb (bit_and 0 (get_or y s 0)) 0 (and_zero_l (get_or y s 0))) in
        absurd (true≢false (sym out ∙ not-true _ (and_left _ _ m)))

-- what the search finds is a candidate
pub pair_in-candidate : {ds : List ℕ} (s : ℕ) {rs : List Row} {pr : Pair} → ValidRows ds rs → pair_in ds s 0 rs ≡ some pr → CandidatePair ds rs pr
pair_in-candidate {ds} s {rs} {pr} v e = go (pair_in-some ds s 0 rs pr e)
  where
    go : PairIn ds s 0 rs pr → CandidatePair ds rs pr
    go w =
        let one : pr.first ≡ w.a = omega arith in
        let two : pr.second ≡ w.b = omega arith in
        let g : Goes ds pr.variable (signs_at rs pr.first) (signs_at rs pr.second)
        = rw (one, two, w.on_variable) (candidate-goes ds s (signs_at rs w.a) (signs_at rs w.b) w.goes) in
        let x : ValidClause ds (signs_at rs pr.first) = valid_signs_lem pr.first v (omega arith) in
        record {
          pair = record {
            ordered = omega arith;
            in_table = omega arith;
            known = permitted_known pr.variable (signs_at rs pr.second) x g.may;
            may = g.may;
          };
          first_in = g.first_in;
          second_in = g.second_in;
        }

-- a row that stays: the signs are as they were everywhere
lessen_stays : (u i : ℕ) (rs : List Row) (l : ℕ) → u < (get_or rs i no_row).weight → signs_at (lessen u i rs) l ≡ signs_at rs l
unfolding lessen
lessen_stays u i [] l h = refl
lessen_stays u zero (r ∷ rs) l h =
    let n : r.weight - u ≡ 0 → ⊥ = λ e. omega arith in
    rw (ne_eqb (r.weight - u) 0 n) (same_place l)
  where
    same_place : (l : ℕ) → signs_at (row_of r.signs (r.weight - u) ∷ rs) l ≡ signs_at (r ∷ rs) l
    same_place zero = refl
    same_place (suc l) = refl
lessen_stays u (suc i) (r ∷ rs) zero h = refl
lessen_stays u (suc i) (r ∷ rs) (suc l) h = lessen_stays u i rs l h

module _ (ds : List ℕ) (rs : List Row) (pr : Pair) (v : ValidRows ds rs) (e : pair_in ds pr.variable 0 rs ≡ some pr) where
  abbrev s : ℕ
  s = pr.variable

  least : PairIn ds s 0 rs pr
  least = pair_in-some ds s 0 rs pr e

  c : CandidatePair ds rs pr
  c = pair_in-candidate s v e

  -- the pair is the least, so an earlier one is no candidate
  before : (k l : ℕ) → k < l → l < length rs → (k < pr.first) ⊎ ((k ≡ pr.first) × (l < pr.second))
      → candidate ds s (signs_at rs k) (signs_at rs l) ≡ false
  before k l h m w = go (candidate ds s (signs_at rs k) (signs_at rs l)) refl
    where
      never : (least.a < k) ⊎ ((least.a ≡ k) × (least.b ≤ l)) → (k < pr.first) ⊎ ((k ≡ pr.first) × (l < pr.second)) → ⊥
      never (inl p) (inl q) = omega (arith, least.first_counted)
      never (inl p) (inr q) = omega (arith, least.first_counted)
      never (inr p) (inl q) = omega (arith, least.first_counted)
      never (inr p) (inr q) = omega (arith, least.second_counted)

      go : (b : Bool) → candidate ds s (signs_at rs k) (signs_at rs l) ≡ b → b ≡ false
      go true q = absurd (never (least.least k l h m q) w)
      go false q = refl

  abbrev u : ℕ
  u = moved_weight pr rs

  abbrev up : List Row
  up = raised u (kept_of ds pr rs) rs

  abbrev stay : List Row
  stay = lessened u pr up

  at_stay : (l : ℕ) → l < length stay → signs_at (resolve ds pr rs) l ≡ signs_at stay l
  at_stay l m =
      ap (λ ts. signs_at ts l) (resolve_as_written v c.pair) ∙ ap (λ r. r.signs) (get_or-append stay (fresh u (kept_of ds pr rs) rs) no_row l m)

  staying : length stay ≡ length rs - removed pr rs
  staying = written-length v c.pair

  pub first_in : pr.first ≤ length (resolve ds pr rs)
  first_in = omega (arith, resolve-length v c.pair, removed-le pr rs, c.pair.ordered, c.pair.in_table)

  -- no row before the first goes with any
  pub passed_before : (k l : ℕ) → k < pr.first → l < length (resolve ds pr rs)
      → candidate ds s (signs_at (resolve ds pr rs) k) (signs_at (resolve ds pr rs) l) ≡ false
  passed_before k l f h =
      rw (at_stay k (omega (arith, staying, removed-le pr rs, c.pair.ordered, c.pair.in_table)), below)
      (alone_at ds s (signs_at rs k) (alone_step (valid_signs_lem k v (omega (arith, c.pair.ordered, c.pair.in_table))) v c lonely) l h)
    where
      below : signs_at stay k ≡ signs_at rs k
      below =
          ap (λ r. r.signs) (lessen_below u k pr.first (lessen u pr.second up) f)
          ∙ ap (λ r. r.signs) (lessen_below u k pr.second up (omega (arith, c.pair.ordered)))
          ∙ raised_signs u (kept_of ds pr rs) rs k

      lonely : Alone ds s (signs_at rs k) rs
      lonely = alone ds s (signs_at rs k) rs (λ m n. go m n (dec_lt m k) (dec_lt k m))
        where
          go : (m : ℕ) → m < length rs → Dec (m < k) → Dec (k < m) → candidate ds s (signs_at rs k) (signs_at rs m) ≡ false
          go m n (yes p) q = candidate_swap ds s (signs_at rs m) (signs_at rs k) (before m k p (omega (arith, c.pair.ordered, c.pair.in_table)) (inl (omega arith)))
          go m n (no p) (yes q) = before k m q n (inl f)
          go m n (no p) (no q) = let z : m ≡ k = omega arith in rw z (candidate_self ds s (signs_at rs k))

  -- if the first row is the heavier, it stays
  module _ (h : (get_or rs pr.second no_row).weight < (get_or rs pr.first no_row).weight) where
    heavier : u < (get_or (lessen u pr.second up) pr.first no_row).weight
    unfolding moved_weight
    heavier =
        let w = ap (λ r. r.weight) (lessen_below u pr.first pr.second up c.pair.ordered)
        ∙ raised_other u (kept_of ds pr rs) rs pr.first (outcome v c.pair).first_other in
        omega arith

    one_gone : removed pr rs ≤ 1
    unfolding removed gone moved_weight
    one_gone =
        let n : (get_or rs pr.first no_row).weight ≡ moved_weight pr rs → ⊥ = λ q. omega arith in
        rw (ne_eqb (get_or rs pr.first no_row).weight (moved_weight pr rs) n) (go (eqb (get_or rs pr.second no_row).weight (moved_weight pr rs)))
      where
        go : (b : Bool) → 0 + cond b 1 0 ≤ 1
        go true = omega arith
        go false = omega arith

    pub second_in : pr.second ≤ length (resolve ds pr rs)
    second_in = omega (arith, resolve-length v c.pair, one_gone, c.pair.in_table)

    unmoved : (l : ℕ) → l < pr.second → signs_at (resolve ds pr rs) l ≡ signs_at rs l
    unmoved l m =
        at_stay l (omega (arith, staying, one_gone, c.pair.in_table))
        ∙ lessen_stays u pr.first (lessen u pr.second up) l heavier
        ∙ ap (λ r. r.signs) (lessen_below u l pr.second up m)
        ∙ raised_signs u (kept_of ds pr rs) rs l

    -- the first row goes with none before the second
    pub passed_here : (l : ℕ) → pr.first < l → l < pr.second
        → candidate ds s (signs_at (resolve ds pr rs) pr.first) (signs_at (resolve ds pr rs) l) ≡ false
    passed_here l f m =
        rw (unmoved pr.first c.pair.ordered, unmoved l m) (before pr.first l f (omega (arith, c.pair.in_table)) (inr (refl, m)))
