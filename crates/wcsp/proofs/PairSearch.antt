-- The search for the next pair, stage by stage: what each stage's answer says of the rows, and what no answer says.
-- Each stage has a view of its answer, a record for a find and a statement on every place for none.
use Prim.Native.Nat.{ℕ, zero, suc, ◌+◌, ◌<◌, ◌≤◌}
use native.Mathlib.Nat.{add-zero, add-suc, suc-add}
use native.Mathlib.Omega.{arith}
use native.Mathlib.Decide.{dec_lt}
use mathlib.Core.Path.{◌≡◌, refl, sym, ◌∙◌}
use mathlib.Core.Logic.{◌⊎◌, inl, inr}
use mathlib.Core.Bool.{Bool, true, false, true≢false}
use mathlib.Core.List.{List, [], ◌∷◌}
use mathlib.Core.Option.{Option, none, some}
use lib.ListN.{length, get_or}
use Rattle.wcsp.specs.Row.{Row}
use Rattle.wcsp.specs.Resolve.{Pair, no_row, candidate, partner, pair_in, pair_from}

-- the signs of row k
abbrev pub signs_at : List Row → ℕ → List ℕ
signs_at rs k = (get_or rs k no_row).signs

-- row k of rs, counted from j as m, is the first that goes with x
pub record Partner (ds : List ℕ) (s : ℕ) (x : List ℕ) (j : ℕ) (rs : List Row) (m : ℕ) : Type 0 where
  pub place : ℕ
  pub counted : m ≡ j + place
  pub in_table : place < length rs
  pub goes : candidate ds s x (signs_at rs place) ≡ true
  pub earlier : (i : ℕ) → i < place → candidate ds s x (signs_at rs i) ≡ false

abbrev pub NoPartner : List ℕ → ℕ → List ℕ → List Row → Type 0
NoPartner ds s x rs = (k : ℕ) → k < length rs → candidate ds s x (signs_at rs k) ≡ false

-- what partner's answer says
pub data PartnerView (ds : List ℕ) (s : ℕ) (x : List ℕ) (j : ℕ) (rs : List Row) : Option ℕ → Type 0 where
  partner_at : {m : ℕ} → Partner ds s x j rs m → PartnerView ds s x j rs (some m)
  partnerless : NoPartner ds s x rs → PartnerView ds s x j rs none

module _ (ds : List ℕ) (s : ℕ) (x : List ℕ) where
  pub partner_here : (j : ℕ) (r : Row) (rs : List Row) → candidate ds s x r.signs ≡ true → partner ds s x j (r ∷ rs) ≡ some j
  unfolding partner
  partner_here j r rs e = rw e

  pub partner_later : (j : ℕ) (r : Row) (rs : List Row) → candidate ds s x r.signs ≡ false
      → partner ds s x j (r ∷ rs) ≡ partner ds s x (suc j) rs
  unfolding partner
  partner_later j r rs e = rw e

  later : (j : ℕ) (r : Row) (rs : List Row) (o : Option ℕ) → candidate ds s x r.signs ≡ false → PartnerView ds s x (suc j) rs o
      → PartnerView ds s x j (r ∷ rs) o
  later j r rs (some m) e (partner_at v) = partner_at
      (record {
        place = suc v.place;
        counted = v.counted ∙ suc-add j v.place ∙ sym (add-suc j v.place);
        in_table = omega arith;
        goes = v.goes;
        earlier = below;
      })
    where
      below : (i : ℕ) → i < suc v.place → candidate ds s x (signs_at (r ∷ rs) i) ≡ false
      below zero h = e
      below (suc i) h = v.earlier i (omega arith)
  later j r rs none e (partnerless v) = partnerless all
    where
      all : (k : ℕ) → k < suc (length rs) → candidate ds s x (signs_at (r ∷ rs) k) ≡ false
      all zero h = e
      all (suc k) h = v k (omega arith)

  pub partner_view : (j : ℕ) (rs : List Row) → PartnerView ds s x j rs (partner ds s x j rs)
  unfolding partner
  partner_view j [] = partnerless (λ k h. absurd (omega arith))
  partner_view j (r ∷ rs) = go (candidate ds s x r.signs) refl (partner_view (suc j) rs)
    where
      go : (b : Bool) → candidate ds s x r.signs ≡ b → PartnerView ds s x (suc j) rs (partner ds s x (suc j) rs)
          → PartnerView ds s x j (r ∷ rs) (partner ds s x j (r ∷ rs))
      go true e v = rw (partner_here j r rs e)
          (partner_at (record {
            place = 0;
            counted = sym (add-zero j);
            in_table = omega arith;
            goes = e;
            earlier = λ i h. absurd (omega arith);
          }))
      go false e v = rw (partner_later j r rs e) (later j r rs (partner ds s x (suc j) rs) e v)

  pub partner-some : (j : ℕ) (rs : List Row) (m : ℕ) → partner ds s x j rs ≡ some m → Partner ds s x j rs m
  partner-some j rs m e = out (rw e at (partner_view j rs))
    where
      out : PartnerView ds s x j rs (some m) → Partner ds s x j rs m
      out (partner_at v) = v

  pub partner-none : (j : ℕ) (rs : List Row) → partner ds s x j rs ≡ none → NoPartner ds s x rs
  partner-none j rs e = out (rw e at (partner_view j rs))
    where
      out : PartnerView ds s x j rs none → NoPartner ds s x rs
      out (partnerless v) = v

-- rows a and b of rs, counted from i, are the least pair of rows for s: lowest first row, then lowest second row
pub record PairIn (ds : List ℕ) (s i : ℕ) (rs : List Row) (pr : Pair) : Type 0 where
  pub a : ℕ
  pub b : ℕ
  pub on_variable : pr.variable ≡ s
  pub first_counted : pr.first ≡ i + a
  pub second_counted : pr.second ≡ i + b
  pub ordered : a < b
  pub in_table : b < length rs
  pub goes : candidate ds s (signs_at rs a) (signs_at rs b) ≡ true
  pub least : (c d : ℕ) → c < d → d < length rs → candidate ds s (signs_at rs c) (signs_at rs d) ≡ true
      → (a < c) ⊎ ((a ≡ c) × (b ≤ d))

abbrev pub NoPairIn : List ℕ → ℕ → List Row → Type 0
NoPairIn ds s rs = (c d : ℕ) → c < d → d < length rs → candidate ds s (signs_at rs c) (signs_at rs d) ≡ false

-- what pair_in's answer says
pub data PairInView (ds : List ℕ) (s i : ℕ) (rs : List Row) : Option Pair → Type 0 where
  pair_at : {pr : Pair} → PairIn ds s i rs pr → PairInView ds s i rs (some pr)
  pairless : NoPairIn ds s rs → PairInView ds s i rs none

-- a test that passes does not fail
pub never {ℓ} : {A : Type ℓ} (t : Bool) → t ≡ true → t ≡ false → A
never t p q = absurd (true≢false (sym p ∙ q))

module _ (ds : List ℕ) (s : ℕ) where
  pub pair_in_here : (i : ℕ) (r : Row) (rs : List Row) (j : ℕ) → partner ds s r.signs (suc i) rs ≡ some j
      → pair_in ds s i (r ∷ rs) ≡ some (record { variable = s; first = i; second = j })
  unfolding pair_in
  pair_in_here i r rs j e = rw e

  pub pair_in_later : (i : ℕ) (r : Row) (rs : List Row) → partner ds s r.signs (suc i) rs ≡ none
      → pair_in ds s i (r ∷ rs) ≡ pair_in ds s (suc i) rs
  unfolding pair_in
  pair_in_later i r rs e = rw e

  first_row : (i : ℕ) (r : Row) (rs : List Row) (j : ℕ) → Partner ds s r.signs (suc i) rs j
      → PairIn ds s i (r ∷ rs) (record { variable = s; first = i; second = j })
  first_row i r rs j v = record {
    a = 0;
    b = suc v.place;
    on_variable = refl;
    first_counted = sym (add-zero i);
    second_counted = v.counted ∙ suc-add i v.place ∙ sym (add-suc i v.place);
    ordered = omega arith;
    in_table = omega arith;
    goes = v.goes;
    least = least_here;
  }
    where
      least_here : (c d : ℕ) → c < d → d < length (r ∷ rs)
          → candidate ds s (signs_at (r ∷ rs) c) (signs_at (r ∷ rs) d) ≡ true
          → (0 < c) ⊎ ((0 ≡ c) × (suc v.place ≤ d))
      least_here c zero l h e = absurd (omega arith)
      least_here (suc c) (suc d) l h e = inl (omega arith)
      least_here zero (suc d) l h e = inr (refl, go (dec_lt d v.place))
        where
          go : Dec (d < v.place) → suc v.place ≤ suc d
          go (yes p) = never (candidate ds s r.signs (signs_at rs d)) e (v.earlier d p)
          go (no p) = omega arith

  later_rows : (i : ℕ) (r : Row) (rs : List Row) (o : Option Pair) → NoPartner ds s r.signs rs
      → PairInView ds s (suc i) rs o → PairInView ds s i (r ∷ rs) o
  later_rows i r rs none n (pairless v) = pairless all
    where
      all : (c d : ℕ) → c < d → d < suc (length rs) → candidate ds s (signs_at (r ∷ rs) c) (signs_at (r ∷ rs) d) ≡ false
      all c zero l h = absurd (omega arith)
      all zero (suc d) l h = n d (omega arith)
      all (suc c) (suc d) l h = v c d (omega arith) (omega arith)
  later_rows i r rs (some pr) n (pair_at v) = pair_at
      (record {
        a = suc v.a;
        b = suc v.b;
        on_variable = v.on_variable;
        first_counted = v.first_counted ∙ suc-add i v.a ∙ sym (add-suc i v.a);
        second_counted = v.second_counted ∙ suc-add i v.b ∙ sym (add-suc i v.b);
        ordered = omega arith;
        in_table = omega arith;
        goes = v.goes;
        least = least_later;
      })
    where
      least_later : (c d : ℕ) → c < d → d < suc (length rs)
          → candidate ds s (signs_at (r ∷ rs) c) (signs_at (r ∷ rs) d) ≡ true
          → (suc v.a < c) ⊎ ((suc v.a ≡ c) × (suc v.b ≤ d))
      least_later c zero l h e = absurd (omega arith)
      least_later zero (suc d) l h e = never (candidate ds s r.signs (signs_at rs d)) e (n d (omega arith))
      least_later (suc c) (suc d) l h e = lifted (v.least c d (omega arith) (omega arith) e)
        where
          lifted : (v.a < c) ⊎ ((v.a ≡ c) × (v.b ≤ d)) → (suc v.a < suc c) ⊎ ((suc v.a ≡ suc c) × (suc v.b ≤ suc d))
          lifted (inl p) = inl (omega arith)
          lifted (inr p) = inr (omega arith, omega arith)

  pub pair_in_view : (i : ℕ) (rs : List Row) → PairInView ds s i rs (pair_in ds s i rs)
  unfolding pair_in
  pair_in_view i [] = pairless (λ c d l h. absurd (omega arith))
  pair_in_view i (r ∷ rs) = go (partner ds s r.signs (suc i) rs) refl (pair_in_view (suc i) rs)
    where
      go : (o : Option ℕ) → partner ds s r.signs (suc i) rs ≡ o → PairInView ds s (suc i) rs (pair_in ds s (suc i) rs)
          → PairInView ds s i (r ∷ rs) (pair_in ds s i (r ∷ rs))
      go (some j) e v = rw (pair_in_here i r rs j e) (pair_at (first_row i r rs j (partner-some ds s r.signs (suc i) rs j e)))
      go none e v = rw (pair_in_later i r rs e)
          (later_rows i r rs (pair_in ds s (suc i) rs) (partner-none ds s r.signs (suc i) rs e) v)

  pub pair_in-some : (i : ℕ) (rs : List Row) (pr : Pair) → pair_in ds s i rs ≡ some pr → PairIn ds s i rs pr
  pair_in-some i rs pr e = out (rw e at (pair_in_view i rs))
    where
      out : PairInView ds s i rs (some pr) → PairIn ds s i rs pr
      out (pair_at v) = v

  pub pair_in-none : (i : ℕ) (rs : List Row) → pair_in ds s i rs ≡ none → NoPairIn ds s rs
  pair_in-none i rs e = out (rw e at (pair_in_view i rs))
    where
      out : PairInView ds s i rs none → NoPairIn ds s rs
      out (pairless v) = v

-- variable s + step, of the k from s on, is the first that has a pair
pub record PairFrom (ds : List ℕ) (k s : ℕ) (rs : List Row) (pr : Pair) : Type 0 where
  pub step : ℕ
  pub in_reach : step < k
  pub pair_here : PairIn ds (s + step) 0 rs pr
  pub earlier : (t : ℕ) → t < step → NoPairIn ds (s + t) rs

abbrev pub NoPairFrom : List ℕ → ℕ → ℕ → List Row → Type 0
NoPairFrom ds k s rs = (t : ℕ) → t < k → NoPairIn ds (s + t) rs

-- what pair_from's answer says
pub data PairFromView (ds : List ℕ) (k s : ℕ) (rs : List Row) : Option Pair → Type 0 where
  pair_on : {pr : Pair} → PairFrom ds k s rs pr → PairFromView ds k s rs (some pr)
  nowhere : NoPairFrom ds k s rs → PairFromView ds k s rs none

module _ (ds : List ℕ) (rs : List Row) where
  pub pair_from_here : (k s : ℕ) (pr : Pair) → pair_in ds s 0 rs ≡ some pr → pair_from ds (suc k) s rs ≡ some pr
  unfolding pair_from
  pair_from_here k s pr e = rw e

  pub pair_from_later : (k s : ℕ) → pair_in ds s 0 rs ≡ none → pair_from ds (suc k) s rs ≡ pair_from ds k (suc s) rs
  unfolding pair_from
  pair_from_later k s e = rw e

  next_variable : (k s : ℕ) (o : Option Pair) → NoPairIn ds s rs → PairFromView ds k (suc s) rs o → PairFromView ds (suc k) s rs o
  next_variable k s o n v = go o v
    where
      none_here : (j t : ℕ) → ((u : ℕ) → u < j → NoPairIn ds (suc s + u) rs) → t < suc j → NoPairIn ds (s + t) rs
      none_here j zero m h = rw add-zero n
      none_here j (suc t) m h = rw (add-suc, ← suc-add) (m t (omega arith))

      go : (o : Option Pair) → PairFromView ds k (suc s) rs o → PairFromView ds (suc k) s rs o
      go none (nowhere m) = nowhere (λ t h. none_here k t m h)
      go (some pr) (pair_on m) = pair_on {pr = pr}
          (record {
            step = suc m.step;
            in_reach = omega arith;
            pair_here = rw (add-suc, ← suc-add) m.pair_here;
            earlier = λ t h. none_here m.step t m.earlier h;
          })

  pub pair_from_view : (k s : ℕ) → PairFromView ds k s rs (pair_from ds k s rs)
  unfolding pair_from
  pair_from_view zero s = nowhere (λ t h. absurd (omega arith))
  pair_from_view (suc k) s = go (pair_in ds s 0 rs) refl (pair_from_view k (suc s))
    where
      go : (o : Option Pair) → pair_in ds s 0 rs ≡ o → PairFromView ds k (suc s) rs (pair_from ds k (suc s) rs)
          → PairFromView ds (suc k) s rs (pair_from ds (suc k) s rs)
      go (some pr) e v = rw (pair_from_here k s pr e)
          (pair_on {pr = pr} (record {
            step = 0;
            in_reach = omega arith;
            pair_here = rw add-zero (pair_in-some ds s 0 rs pr e);
            earlier = λ t h. absurd (omega arith);
          }))
      go none e v = rw (pair_from_later k s e)
          (next_variable k s (pair_from ds k (suc s) rs) (pair_in-none ds s 0 rs e) v)

  pub pair_from-some : (k s : ℕ) (pr : Pair) → pair_from ds k s rs ≡ some pr → PairFrom ds k s rs pr
  pair_from-some k s pr e = out (rw e at (pair_from_view k s))
    where
      out : PairFromView ds k s rs (some pr) → PairFrom ds k s rs pr
      out (pair_on v) = v

  pub pair_from-none : (k s : ℕ) → pair_from ds k s rs ≡ none → NoPairFrom ds k s rs
  pair_from-none k s e = out (rw e at (pair_from_view k s))
    where
      out : PairFromView ds k s rs none → NoPairFrom ds k s rs
      out (nowhere v) = v
