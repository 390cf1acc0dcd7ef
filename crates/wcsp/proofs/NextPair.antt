-- The next pair is the least candidate, and there is none exactly if there is no candidate.
-- Both follow from what the stages of the search say: the least variable first, then the least rows.
use Prim.Native.Nat.{ℕ, ◌+◌, ◌<◌, ◌≤◌}
use native.Mathlib.Nat.{zero-add}
use native.Mathlib.Omega.{arith}
use native.Mathlib.Decide.{dec_lt}
use mathlib.Core.Path.{◌≡◌, refl, ap, ◌∙◌}
use mathlib.Core.Logic.{◌⊎◌, inl, inr}
use mathlib.Core.Bool.{Bool, true, false, ◌&&◌}
use mathlib.Core.List.{List}
use mathlib.Core.Option.{Option, none, some}
use lib.ListN.{length}
use lib.Dec.{eqb}
use borrow.Author.Tests.{eqb-true, eq-eqb}
use Rattle.wcsp.specs.Clause.{bucket}
use Rattle.wcsp.specs.Row.{Row}
use Rattle.wcsp.specs.Rule.{permitted}
use Rattle.wcsp.specs.Resolve.{Pair, candidate, next_pair, MayResolve}
use Rattle.wcsp.specs.Theorems.{CandidatePair, NotAfter, LeastCandidate, NextIsLeast, NoneLeft}
use Rattle.wcsp.proofs.Lists.{and_left, and_right}
use Rattle.wcsp.proofs.PairSearch.{signs_at, PairIn, NoPairIn, PairFrom, PairFromView, pair_on, nowhere, pair_from_view, never}

-- what the test for a candidate says
pub record Goes (ds : List ℕ) (s : ℕ) (x y : List ℕ) : Type 0 where
  pub first_in : bucket x ≡ s
  pub second_in : bucket y ≡ s
  pub may : permitted ds s x y ≡ true

module _ (ds : List ℕ) (s : ℕ) (x y : List ℕ) where
  pub candidate-goes : candidate ds s x y ≡ true → Goes ds s x y
  unfolding candidate
  candidate-goes e =
      let ins = and_left (eqb (bucket x) s && eqb (bucket y) s) (permitted ds s x y) e in
      record {
        first_in = eqb-true (bucket x) s (and_left (eqb (bucket x) s) (eqb (bucket y) s) ins);
        second_in = eqb-true (bucket y) s (and_right (eqb (bucket x) s) (eqb (bucket y) s) ins);
        may = and_right (eqb (bucket x) s && eqb (bucket y) s) (permitted ds s x y) e;
      }

  pub goes-candidate : Goes ds s x y → candidate ds s x y ≡ true
  unfolding candidate
  goes-candidate g = rw (eq-eqb (bucket x) s g.first_in, eq-eqb (bucket y) s g.second_in, g.may)

  pub not-candidate : (candidate ds s x y ≡ true → ⊥) → candidate ds s x y ≡ false
  not-candidate n = go (candidate ds s x y) refl
    where
      go : (b : Bool) → candidate ds s x y ≡ b → b ≡ false
      go true e = absurd (n e)
      go false e = refl

  pub other_first : (bucket x ≡ s → ⊥) → candidate ds s x y ≡ false
  other_first n = not-candidate (λ e. n (candidate-goes e).first_in)

  pub other_second : (bucket y ≡ s → ⊥) → candidate ds s x y ≡ false
  other_second n = not-candidate (λ e. n (candidate-goes e).second_in)

-- the order of pairs tells two pairs apart
antisym : (a b : Pair) → NotAfter a b → NotAfter b a → a ≡ b
antisym a b (inl p) (inl q) = absurd (omega arith)
antisym a b (inl p) (inr q) = absurd (omega arith)
antisym a b (inr p) (inl q) = absurd (omega arith)
antisym a b (inr p) (inr q) = go p.1 q.1
  where
    v : a.variable ≡ b.variable
    v = p.0

    go : (a.first < b.first) ⊎ ((a.first ≡ b.first) × (a.second ≤ b.second))
        → (b.first < a.first) ⊎ ((b.first ≡ a.first) × (b.second ≤ a.second)) → a ≡ b
    go (inl p) (inl q) = absurd (omega arith)
    go (inl p) (inr q) = absurd (omega arith)
    go (inr p) (inl q) = absurd (omega arith)
    go (inr p) (inr q) =
        let f : a.first ≡ b.first = p.0 in
        let s : a.second ≡ b.second = omega arith in
        λ i. record { variable = v i; first = f i; second = s i }

module _ (ds : List ℕ) (rs : List Row) where
  found : (pr : Pair) → PairFrom ds (length ds) 0 rs pr → CandidatePair ds rs pr
  found pr v =
      let h = v.pair_here in
      let on_v : pr.variable ≡ v.step = h.on_variable ∙ zero-add v.step in
      let one : pr.first ≡ h.a = h.first_counted ∙ zero-add h.a in
      let two : pr.second ≡ h.b = h.second_counted ∙ zero-add h.b in
      let g : Goes ds pr.variable (signs_at rs pr.first) (signs_at rs pr.second)
      = rw (one, two, h.on_variable) (candidate-goes ds (0 + v.step) (signs_at rs h.a) (signs_at rs h.b) h.goes) in
      record {
        pair = record { ordered = omega arith; in_table = omega arith; known = omega arith; may = g.may };
        first_in = g.first_in;
        second_in = g.second_in;
      }

  -- a candidate passes the test on its variable
  passes : (pr : Pair) → CandidatePair ds rs pr → candidate ds pr.variable (signs_at rs pr.first) (signs_at rs pr.second) ≡ true
  passes pr c = goes-candidate ds pr.variable (signs_at rs pr.first) (signs_at rs pr.second)
      (record { first_in = c.first_in; second_in = c.second_in; may = c.pair.may })

  refuted : (pr : Pair) → CandidatePair ds rs pr → NoPairIn ds (0 + pr.variable) rs → ⊥
  refuted pr c n = never (candidate ds pr.variable (signs_at rs pr.first) (signs_at rs pr.second)) (passes pr c)
      (rw zero-add at (n pr.first pr.second c.pair.ordered c.pair.in_table))

  lowest : (pr : Pair) → PairFrom ds (length ds) 0 rs pr → (other : Pair) → CandidatePair ds rs other → NotAfter pr other
  lowest pr v other c = go (dec_lt other.variable v.step) (dec_lt v.step other.variable)
    where
      h : PairIn ds (0 + v.step) 0 rs pr
      h = v.pair_here

      rows : other.variable ≡ v.step → (h.a < other.first) ⊎ ((h.a ≡ other.first) × (h.b ≤ other.second))
          → (pr.first < other.first) ⊎ ((pr.first ≡ other.first) × (pr.second ≤ other.second))
      rows e (inl l) = inl (omega arith)
      rows e (inr l) = inr (omega arith, omega arith)

      go : Dec (other.variable < v.step) → Dec (v.step < other.variable) → NotAfter pr other
      go (yes l) d = absurd (refuted other c (v.earlier other.variable l))
      go (no l) (yes m) = inl (omega arith)
      go (no l) (no m) =
          let e : other.variable ≡ v.step = omega arith in
          let f : other.variable ≡ 0 + v.step = omega arith in
          inr (
            omega arith,
            rows e (h.least other.first other.second c.pair.ordered c.pair.in_table (rw f at (passes other c))),
          )

  -- what the next pair's being says
  data NextView : Option Pair → Type 0 where
    next : {pr : Pair} → LeastCandidate ds rs pr → NextView (some pr)
    nothing : ((pr : Pair) → CandidatePair ds rs pr → ⊥) → NextView none

  next_view : NextView (next_pair ds rs)
  unfolding next_pair
  next_view = go (next_pair ds rs) (pair_from_view ds rs (length ds) 0)
    where
      go : (o : Option Pair) → PairFromView ds (length ds) 0 rs o → NextView o
      go (some pr) (pair_on v) = next (record { is = found pr v; least = lowest pr v })
      go none (nowhere v) = nothing (λ pr c. refuted pr c (v pr.variable c.pair.known))

  next_least : (pr : Pair) → next_pair ds rs ≡ some pr → LeastCandidate ds rs pr
  next_least pr e = out (rw e at next_view)
    where
      out : NextView (some pr) → LeastCandidate ds rs pr
      out (next l) = l

  pub next-permitted : (pr : Pair) → next_pair ds rs ≡ some pr → MayResolve ds rs pr
  next-permitted pr e = (next_least pr e).is.pair

  least_next : (pr : Pair) → LeastCandidate ds rs pr → next_pair ds rs ≡ some pr
  least_next pr l = go (next_pair ds rs) next_view
    where
      go : (o : Option Pair) → NextView o → o ≡ some pr
      go none (nothing n) = absurd (n pr l.is)
      go (some pr') (next l') = ap some (antisym pr' pr (l'.least pr l.is) (l.least pr' l'.is))

pub next_is_least : NextIsLeast
next_is_least ds rs pr = (next_least ds rs pr, least_next ds rs pr)

pub none_left : NoneLeft
none_left ds rs = (none_all, all_none)
  where
    none_all : next_pair ds rs ≡ none → (pr : Pair) → CandidatePair ds rs pr → ⊥
    none_all e = out (rw e at (next_view ds rs))
      where
        out : NextView ds rs none → (pr : Pair) → CandidatePair ds rs pr → ⊥
        out (nothing n) = n

    all_none : ((pr : Pair) → CandidatePair ds rs pr → ⊥) → next_pair ds rs ≡ none
    all_none n = go (next_pair ds rs) (next_view ds rs)
      where
        go : (o : Option Pair) → NextView ds rs o → o ≡ none
        go none v = refl
        go (some pr) (next l) = absurd (n pr l.is)
