-- The stages of the search the other way round: what has a stage's property is the stage's answer, for a hunt that finds it by another way.
-- Two finds of one stage are the same, since neither can come before the other.
use Prim.Native.Nat.{ℕ, ◌+◌, ◌<◌, ◌≤◌}
use native.Mathlib.Omega.{arith}
use native.Mathlib.Decide.{dec_lt}
use mathlib.Core.Path.{◌≡◌, refl, ap}
use mathlib.Core.Logic.{◌⊎◌, inl, inr}
use mathlib.Core.List.{List}
use mathlib.Core.Option.{Option, none, some}
use Rattle.wcsp.specs.Row.{Row}
use Rattle.wcsp.specs.Resolve.{Pair, candidate, partner, pair_in, pair_from}
use Rattle.wcsp.proofs.PairSearch.{signs_at, never, Partner, NoPartner, PartnerView, partner_at, partnerless, partner_view}
use Rattle.wcsp.proofs.PairSearch.{PairIn, NoPairIn, PairInView, pair_at, pairless, pair_in_view}
use Rattle.wcsp.proofs.PairSearch.{PairFrom, NoPairFrom, PairFromView, pair_on, nowhere, pair_from_view}

module _ (ds : List ℕ) (s : ℕ) (x : List ℕ) (j : ℕ) (rs : List Row) where
  pub partner_is : (m : ℕ) → Partner ds s x j rs m → partner ds s x j rs ≡ some m
  partner_is m v = go (partner ds s x j rs) (partner_view ds s x j rs)
    where
      level : (n : ℕ) (w : Partner ds s x j rs n) → Dec (w.place < v.place) → Dec (v.place < w.place) → n ≡ m
      level n w (yes l) d = never (candidate ds s x (signs_at rs w.place)) w.goes (v.earlier w.place l)
      level n w (no k) (yes l) = never (candidate ds s x (signs_at rs v.place)) v.goes (w.earlier v.place l)
      level n w (no k) (no l) = omega arith

      go : (o : Option ℕ) → PartnerView ds s x j rs o → o ≡ some m
      go none (partnerless n) = never (candidate ds s x (signs_at rs v.place)) v.goes (n v.place v.in_table)
      go (some n) (partner_at w) = ap some (level n w (dec_lt w.place v.place) (dec_lt v.place w.place))

  pub partner_is_none : NoPartner ds s x rs → partner ds s x j rs ≡ none
  partner_is_none n = go (partner ds s x j rs) (partner_view ds s x j rs)
    where
      go : (o : Option ℕ) → PartnerView ds s x j rs o → o ≡ none
      go none v = refl
      go (some m) (partner_at w) = never (candidate ds s x (signs_at rs w.place)) w.goes (n w.place w.in_table)

module _ (ds : List ℕ) (s i : ℕ) (rs : List Row) where
  contrary : {A : Type 0} (pr : Pair) → PairIn ds s i rs pr → NoPairIn ds s rs → A
  contrary pr v n = never (candidate ds s (signs_at rs v.a) (signs_at rs v.b)) v.goes (n v.a v.b v.ordered v.in_table)

  pair_one : (p o : Pair) → PairIn ds s i rs p → PairIn ds s i rs o → p ≡ o
  pair_one p o v w = go (v.least w.a w.b w.ordered w.in_table w.goes) (w.least v.a v.b v.ordered v.in_table v.goes)
    where
      go : (v.a < w.a) ⊎ ((v.a ≡ w.a) × (v.b ≤ w.b)) → (w.a < v.a) ⊎ ((w.a ≡ v.a) × (w.b ≤ v.b)) → p ≡ o
      go (inl l) (inl m) = absurd (omega arith)
      go (inl l) (inr m) = absurd (omega arith)
      go (inr l) (inl m) = absurd (omega arith)
      go (inr l) (inr m) =
          let e : p.variable ≡ o.variable = omega arith in
          let f : p.first ≡ o.first = omega arith in
          let g : p.second ≡ o.second = omega arith in
          λ t. record { variable = e t; first = f t; second = g t }

  pub pair_in_is : (pr : Pair) → PairIn ds s i rs pr → pair_in ds s i rs ≡ some pr
  pair_in_is pr v = go (pair_in ds s i rs) (pair_in_view ds s i rs)
    where
      go : (o : Option Pair) → PairInView ds s i rs o → o ≡ some pr
      go none (pairless n) = contrary pr v n
      go (some p) (pair_at w) = ap some (pair_one p pr w v)

  pub pair_in_is_none : NoPairIn ds s rs → pair_in ds s i rs ≡ none
  pair_in_is_none n = go (pair_in ds s i rs) (pair_in_view ds s i rs)
    where
      go : (o : Option Pair) → PairInView ds s i rs o → o ≡ none
      go none v = refl
      go (some p) (pair_at w) = contrary p w n

module _ (ds : List ℕ) (k s : ℕ) (rs : List Row) where
  pub pair_from_is : (pr : Pair) → PairFrom ds k s rs pr → pair_from ds k s rs ≡ some pr
  pair_from_is pr v = go (pair_from ds k s rs) (pair_from_view ds rs k s)
    where
      level : (p : Pair) (w : PairFrom ds k s rs p) → Dec (w.step < v.step) → Dec (v.step < w.step) → p ≡ pr
      level p w (yes l) d = contrary ds (s + w.step) 0 rs p w.pair_here (v.earlier w.step l)
      level p w (no m) (yes l) = contrary ds (s + v.step) 0 rs pr v.pair_here (w.earlier v.step l)
      level p w (no m) (no l) =
          let e : w.step ≡ v.step = omega arith in
          pair_one ds (s + v.step) 0 rs p pr (rw e at w.pair_here) v.pair_here

      go : (o : Option Pair) → PairFromView ds k s rs o → o ≡ some pr
      go none (nowhere n) = contrary ds (s + v.step) 0 rs pr v.pair_here (n v.step v.in_reach)
      go (some p) (pair_on w) = ap some (level p w (dec_lt w.step v.step) (dec_lt v.step w.step))

  pub pair_from_is_none : NoPairFrom ds k s rs → pair_from ds k s rs ≡ none
  pair_from_is_none n = go (pair_from ds k s rs) (pair_from_view ds rs k s)
    where
      go : (o : Option Pair) → PairFromView ds k s rs o → o ≡ none
      go none v = refl
      go (some p) (pair_on w) = contrary ds (s + w.step) 0 rs p w.pair_here (n w.step w.in_reach)
