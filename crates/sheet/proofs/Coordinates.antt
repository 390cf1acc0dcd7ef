-- A sheet's coordinates: the coordinate of one word, and the positions of a variable's values.
use Prim.Native.Nat.{ℕ, ◌≤◌}
use native.Mathlib.Omega.{arith}
use mathlib.Core.Path.{◌≡◌, refl, sym, ◌∙◌}
use mathlib.Core.Bool.{Bool, true, false, cond, false≢true}
use mathlib.Core.List.{List, [], ◌∷◌}
use lib.ListN.{length}
use lib.Dec.{eqb}
use borrow.Author.Tests.{eq-eqb, ne_eqb}
use Rattle.std.specs.Prelude.{Option, Some, None}
use Rattle.words.specs.Layout.{kind_of, payload_of}
use Rattle.words.specs.Meaning.{coordinate_of}
use Rattle.words.proofs.Coordinates.{coordinate_inverse}
use Rattle.sheet.specs.Sheet.{coordinate_in, is_place, offset_in, offset_of}
use Rattle.sheet.specs.Phases.{place_next}

-- ---- one word

module _ (k w kind : ℕ) (e : kind ≡ kind_of w) where
  pub other_word : (kind ≡ k → ⊥) → None ≡ coordinate_in k w
  unfolding coordinate_in
  other_word n = rw (ne_eqb (kind_of w) k (λ (f : kind_of w ≡ k). n (e ∙ f)))

  pub own_word : (p : ℕ) (q : Option ℕ) → kind ≡ k → p ≡ payload_of w → q ≡ coordinate_of p → q ≡ coordinate_in k w
  unfolding coordinate_in
  own_word p q f g h = rw (eq-eqb (kind_of w) k (sym e ∙ f), ← g, ← h)

-- a coordinate that was found is within the range
at_bounded : (k w o : ℕ) → coordinate_in k w ≡ Some o → o ≤ 2000000
unfolding coordinate_in
at_bounded k w o e = go (eqb (kind_of w) k) e
  where
    go : (b : Bool) → cond b (coordinate_of (payload_of w)) None ≡ Some o → o ≤ 2000000
    go true f = (coordinate_inverse (payload_of w) o (omega arith) f).1
    go false f = let z : ◌≡◌ {A = ℕ} 0 1 = cc in absurd (omega arith)

module _ (k w : ℕ) (q : Option ℕ) (e : q ≡ coordinate_in k w) where
  module _ (o : ℕ) (f : q ≡ Some o) where
    found : coordinate_in k w ≡ Some o
    found = sym e ∙ f

    pub place_found : (is_place (coordinate_in k w) ≡ true) × (o ≡ offset_of k w) × (o ≤ 2000000)
    unfolding is_place offset_in
    place_found = (rw found, rw found, at_bounded k w o found)

  module _ (f : q ≡ None) where
    missed : coordinate_in k w ≡ None
    missed = sym e ∙ f

    pub place_missed : (is_place (coordinate_in k w) ≡ false) × (0 ≡ offset_of k w)
    unfolding is_place offset_in
    place_missed = (rw missed, rw missed)

pub offset_bounded : (k w : ℕ) → offset_of k w ≤ 2000000
unfolding offset_in
offset_bounded k w = go (coordinate_in k w) refl
  where
    go : (q : Option ℕ) → coordinate_in k w ≡ q → offset_in q ≤ 2000000
    go (Some o) e = at_bounded k w o e
    go None e = omega arith

-- ---- the positions of d values

pub next_inside : (k : ℕ) (ws : List ℕ) → place_next k ws ≡ true → 1 ≤ length ws
next_inside k [] e = absurd (false≢true e)
next_inside k (w ∷ ws) e = omega arith
