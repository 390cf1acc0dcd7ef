-- Completeness of rows with no pair left: the values rebuilt below any choice of the higher ones satisfy every row of the lower buckets,
-- and the other rows hang on the higher values alone, so nothing that agrees with these costs less. With no value given it is the optimum.
use Prim.Native.Nat.{ℕ, zero, suc, ◌<◌, ◌≤◌, suc-le-suc}
use native.Mathlib.Nat.{le_refl}
use native.Mathlib.Numerals.{add-one}
use native.Mathlib.Omega.{arith}
use native.Mathlib.Decide.{dec_lt}
use mathlib.Core.Path.{◌≡◌, refl, sym, ap, ◌∙◌}
use mathlib.Core.Bool.{Bool, true, false, not, ◌&&◌, and-false}
use mathlib.Core.List.{List, [], ◌∷◌}
use mathlib.Core.Option.{none}
use lib.ListN.{length, get_or, drop}
use lib.Seq.{drop-cons, drop-drop, drop-length}
use borrow.Author.Tests.{eq-eqb}
use Rattle.wcsp.specs.Sign.{has}
use Rattle.wcsp.specs.Clause.{InRange, AllPositive, nil, cons, falsifies, bucket}
use Rattle.wcsp.specs.Row.{Row, falsified, ValidRows}
use Rattle.wcsp.specs.Resolve.{next_pair}
use Rattle.wcsp.specs.Rebuild.{counts, rebuilt_value, rebuilt_over, rebuilt, tail_weight}
use Rattle.wcsp.specs.Theorems.{Completeness, Optimality}
use Rattle.wcsp.proofs.Lists.{along_length}
use Rattle.wcsp.proofs.Validity.{valid_signs_lem}
use Rattle.wcsp.proofs.PairSearch.{signs_at, never}
use Rattle.wcsp.proofs.EmptyRow.{falsified-cons, falsified_yes, falsified_no, empty_below}
use Rattle.wcsp.proofs.Buckets.{falsifies-drop, falsifies-at}
use Rattle.wcsp.proofs.Rebuilding.{value_in_range, value_in_signs}
use Rattle.wcsp.proofs.Tails.{tail_exact, tail_of_none}

-- who falsifies fewer rows falsifies no more weight
pub falsified_mono : (p q : List ℕ) (rs : List Row)
    → ((i : ℕ) → i < length rs → falsifies p (signs_at rs i) ≡ true → falsifies q (signs_at rs i) ≡ true) → falsified p rs ≤ falsified q rs
unfolding falsified
falsified_mono p q [] h = le_refl 0
falsified_mono p q (r ∷ rs) h = go (falsifies p r.signs) refl (falsified_mono p q rs (λ i l. h (suc i) (suc-le-suc l)))
  where
    go : (b : Bool) → falsifies p r.signs ≡ b → falsified p rs ≤ falsified q rs → falsified p (r ∷ rs) ≤ falsified q (r ∷ rs)
    go true e ih = omega (arith, falsified_yes p r rs e, falsified_yes q r rs (h 0 (omega arith) e))
    go false e ih = omega (arith, falsified_no p r rs e, falsified-cons q r rs)

module _ (ds : List ℕ) (rs : List Row) where
  over_suc : (k : ℕ) (q : List ℕ) → rebuilt_over ds rs (suc k) q ≡ rebuilt_over ds rs k (rebuilt_value ds rs k q ∷ q)
  unfolding rebuilt_over
  over_suc k q = refl

  pub over_agrees : (k : ℕ) (q : List ℕ) → drop k (rebuilt_over ds rs k q) ≡ q
  unfolding rebuilt_over
  over_agrees zero q = refl
  over_agrees (suc k) q =
      let p = rebuilt_over ds rs k (rebuilt_value ds rs k q ∷ q) in
      ap (λ n. drop n p) (sym (add-one k)) ∙ sym (drop-drop 1 k p) ∙ ap (drop 1) (over_agrees k (rebuilt_value ds rs k q ∷ q))

  module _ (positive : AllPositive ds) (valid : ValidRows ds rs) (done : next_pair ds rs ≡ none) where
    -- the rebuilt value before the higher ones
    extended : (k : ℕ) (q : List ℕ) → k < length ds → InRange (drop (suc k) ds) q → InRange (drop k ds) (rebuilt_value ds rs k q ∷ q)
    extended k q l h = rw (drop-cons ds k 0 l) (cons (value_in_range ds rs valid k q l h positive done) h)

    pub over_in_range : (k : ℕ) (q : List ℕ) → k ≤ length ds → InRange (drop k ds) q → InRange ds (rebuilt_over ds rs k q)
    unfolding rebuilt_over
    over_in_range zero q l h = h
    over_in_range (suc k) q l h = over_in_range k (rebuilt_value ds rs k q ∷ q) (omega arith) (extended k q l h)

    -- the rebuilt value satisfies the rows of its bucket that the higher values leave open
    here_satisfied : (k : ℕ) (q : List ℕ) → k < length ds → InRange (drop (suc k) ds) q → (i : ℕ) → i < length rs
        → bucket (signs_at rs i) ≡ k → falsifies (rebuilt_value ds rs k q ∷ q) (drop k (signs_at rs i)) ≡ false
    unfolding counts
    here_satisfied k q l h i m b =
        let long = along_length (valid_signs_lem i valid m) in
        falsifies-at k v q (signs_at rs i) (omega arith) ∙ go (falsifies q (drop (suc k) (signs_at rs i))) refl
      where
        v : ℕ
        v = rebuilt_value ds rs k q

        go : (t : Bool) → falsifies q (drop (suc k) (signs_at rs i)) ≡ t → (not (has (get_or (signs_at rs i) k 0) v) && t) ≡ false
        go true e =
            let c : counts k q (signs_at rs i) ≡ true = rw (eq-eqb (bucket (signs_at rs i)) k b) e in
            rw (value_in_signs ds rs valid k q l h positive done i m c)
        go false e = and-false (not (has (get_or (signs_at rs i) k 0) v))

    pub over_satisfies : (k : ℕ) (q : List ℕ) → k ≤ length ds → InRange (drop k ds) q → (i : ℕ) → i < length rs
        → bucket (signs_at rs i) < k → falsifies (rebuilt_over ds rs k q) (signs_at rs i) ≡ false
    over_satisfies zero q l h i m b = absurd (omega arith)
    over_satisfies (suc k) q l h i m b = rw over_suc
        (go (dec_lt (bucket (signs_at rs i)) k) (over_satisfies k (rebuilt_value ds rs k q ∷ q) (omega arith) (extended k q l h) i m))
      where
        p : List ℕ
        p = rebuilt_over ds rs k (rebuilt_value ds rs k q ∷ q)

        go : Dec (bucket (signs_at rs i) < k) → (bucket (signs_at rs i) < k → falsifies p (signs_at rs i) ≡ false)
            → falsifies p (signs_at rs i) ≡ false
        go (yes c) ih = ih c
        go (no c) ih =
            falsifies-drop k p (signs_at rs i) (omega arith)
            ∙ ap (λ u. falsifies u (drop k (signs_at rs i))) (over_agrees k (rebuilt_value ds rs k q ∷ q))
            ∙ here_satisfied k q l h i m (omega arith)

    pub over_cheapest : (k : ℕ) (q : List ℕ) → k ≤ length ds → InRange (drop k ds) q → (p : List ℕ) → drop k p ≡ q
        → falsified (rebuilt_over ds rs k q) rs ≤ falsified p rs
    over_cheapest k q l h p a = falsified_mono o p rs (λ i m f. go i m f (dec_lt (bucket (signs_at rs i)) k))
      where
        o : List ℕ
        o = rebuilt_over ds rs k q

        go : (i : ℕ) → i < length rs → falsifies o (signs_at rs i) ≡ true → Dec (bucket (signs_at rs i) < k)
            → falsifies p (signs_at rs i) ≡ true
        go i m f (yes c) = never (falsifies o (signs_at rs i)) f (over_satisfies k q l h i m c)
        go i m f (no c) =
            falsifies-drop k p (signs_at rs i) (omega arith)
            ∙ ap (λ u. falsifies u (drop k (signs_at rs i))) (a ∙ sym (over_agrees k q))
            ∙ sym (falsifies-drop k o (signs_at rs i) (omega arith)) ∙ f

    pub over_exact : (k : ℕ) (q : List ℕ) → k ≤ length ds → InRange (drop k ds) q → falsified (rebuilt_over ds rs k q) rs ≡ tail_weight k q rs
    over_exact k q l h = tail_exact k (rebuilt_over ds rs k q) q (over_agrees k q) rs (over_satisfies k q l h)

pub completeness : Completeness
completeness ds rs k q pos valid done l h = record {
  in_range = over_in_range ds rs pos valid done k q l h;
  agrees = over_agrees ds rs k q;
  satisfies = over_satisfies ds rs pos valid done k q l h;
  exact = over_exact ds rs pos valid done k q l h;
  cheapest = λ p r. over_cheapest ds rs pos valid done k q l h p;
}

-- ---- the optimum

-- with no value given the rows without lower variables are the empty one
pub optimality : Optimality
unfolding rebuilt
optimality ds rs pos valid done = record {
  in_range = over_in_range ds rs pos valid done n [] (le_refl n) none_given;
  attained = over_exact ds rs pos valid done n [] (le_refl n) none_given ∙ tail_of_none ds rs valid;
  least = λ p r. empty_below ds rs p r;
}
  where
    n : ℕ
    n = length ds

    none_given : InRange (drop n ds) []
    none_given = rw drop-length nil
