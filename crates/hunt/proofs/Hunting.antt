-- The search taken up from a later place: rows that do not go with the first are passed over, and so are first rows that go with none.
use Prim.Native.Nat.{ℕ, suc, ◌<◌, ◌≤◌}
use mathlib.Core.Path.{◌≡◌, sym, ◌∙◌}
use mathlib.Core.Bool.{true, false, not, false≢true}
use mathlib.Core.List.{List}
use mathlib.Core.Option.{none, some}
use lib.ListN.{length, get_or, drop, drop_of_length-le}
use lib.Seq.{drop-cons}
use borrow.Author.Tests.{not-true}
use Rattle.wcsp.specs.Clause.{bucket}
use Rattle.wcsp.specs.Row.{Row}
use Rattle.wcsp.specs.Rule.{others, clashing, nested, permitted}
use Rattle.wcsp.specs.Resolve.{no_row, candidate, partner, pair_in}
use Rattle.wcsp.proofs.Lists.{and_left, and_right}
use Rattle.wcsp.proofs.PairSearch.{signs_at, partner_here, partner_later, pair_in_here, pair_in_later}
use Rattle.wcsp.proofs.PairFound.{partner_is_none}
use Rattle.wcsp.proofs.NextPair.{candidate-goes, goes-candidate, not-candidate, other_first}

-- ---- the test for a candidate

module _ (ds : List ℕ) (s : ℕ) (x y : List ℕ) where
  pub nested_signs : nested (get_or x s 0) (get_or y s 0) ≡ true → candidate ds s x y ≡ false
  unfolding permitted
  nested_signs n = not-candidate ds s x y (λ e. false≢true (sym (not-true _ (and_left _ _ (candidate-goes ds s x y e).may)) ∙ n))

  pub clashing_signs : clashing ds (others s x) (others s y) ≡ true → candidate ds s x y ≡ false
  unfolding permitted
  clashing_signs n = not-candidate ds s x y
      (λ e. false≢true (sym (not-true _ (and_right (not (nested (get_or x s 0) (get_or y s 0))) _ (candidate-goes ds s x y e).may)) ∙ n))

  pub goes : bucket x ≡ s → bucket y ≡ s → nested (get_or x s 0) (get_or y s 0) ≡ false → clashing ds (others s x) (others s y) ≡ false → candidate ds s x y ≡ true
  unfolding permitted
  goes p q n c = goes-candidate ds s x y (record { first_in = p; second_in = q; may = rw (n, c) })

-- ---- the second row

module _ (ds : List ℕ) (s : ℕ) (x : List ℕ) (rs : List Row) where
  pub partner-at : (j : ℕ) → j < length rs → candidate ds s x (signs_at rs j) ≡ true → partner ds s x j (drop j rs) ≡ some j
  partner-at j h e = rw (drop-cons rs j no_row h) (partner_here ds s x j (get_or rs j no_row) (drop (suc j) rs) e)

  pub partner_past : (j : ℕ) → j < length rs → candidate ds s x (signs_at rs j) ≡ false
      → partner ds s x j (drop j rs) ≡ partner ds s x (suc j) (drop (suc j) rs)
  partner_past j h e = rw (drop-cons rs j no_row h) (partner_later ds s x j (get_or rs j no_row) (drop (suc j) rs) e)

  pub partner_end : (j : ℕ) → length rs ≤ j → partner ds s x j (drop j rs) ≡ none
  unfolding partner
  partner_end j h = rw (drop_of_length-le rs h)

  -- a row of another bucket has no second row
  pub partner_other : (j : ℕ) → (bucket x ≡ s → ⊥) → partner ds s x j rs ≡ none
  partner_other j n = partner_is_none ds s x j rs (λ k h. other_first ds s x (signs_at rs k) n)

-- ---- the first row

module _ (ds : List ℕ) (s : ℕ) (rs : List Row) where
  pub pair_in-at : (i j : ℕ) → i < length rs → partner ds s (signs_at rs i) (suc i) (drop (suc i) rs) ≡ some j
      → pair_in ds s i (drop i rs) ≡ some (record { variable = s; first = i; second = j })
  pair_in-at i j h e = rw (drop-cons rs i no_row h) (pair_in_here ds s i (get_or rs i no_row) (drop (suc i) rs) j e)

  pub pair_in_past : (i : ℕ) → i < length rs → partner ds s (signs_at rs i) (suc i) (drop (suc i) rs) ≡ none
      → pair_in ds s i (drop i rs) ≡ pair_in ds s (suc i) (drop (suc i) rs)
  pair_in_past i h e = rw (drop-cons rs i no_row h) (pair_in_later ds s i (get_or rs i no_row) (drop (suc i) rs) e)

  pub pair_in_end : (i : ℕ) → length rs ≤ i → pair_in ds s i (drop i rs) ≡ none
  unfolding pair_in
  pair_in_end i h = rw (drop_of_length-le rs h)
