-- A call that answers by its fault, 0 where there is none: what the number of the answer tells.
use Prim.Native.Nat.{ℕ}
use mathlib.Core.Path.{◌≡◌, refl, sym, ap, ◌∙◌}
use mathlib.Core.Bool.{Bool, true, false, cond}
use lib.Dec.{eqb}
use borrow.Author.Tests.{eqb-true, eqb-false}

module _ {A : Type 0} (number : A → ℕ) (fine : A) (bad : ℕ → A) (f : ℕ) (zero-fine : number fine ≡ 0) (same : number (bad f) ≡ f)
    (r : A) (e : r ≡ cond (eqb f 0) fine (bad f)) where
  pub no_fault : number r ≡ 0 → (f ≡ 0) × (r ≡ fine)
  no_fault z = go (eqb f 0) refl e
    where
      go : (b : Bool) → eqb f 0 ≡ b → r ≡ cond b fine (bad f) → (f ≡ 0) × (r ≡ fine)
      go true t g = (eqb-true f 0 t, g)
      go false t g = absurd (eqb-false f 0 t (sym same ∙ ap number (sym g) ∙ z))

  pub some-fault : (number r ≡ 0 → ⊥) → (eqb f 0 ≡ false) × (number r ≡ f)
  some-fault n = go (eqb f 0) refl e
    where
      go : (b : Bool) → eqb f 0 ≡ b → r ≡ cond b fine (bad f) → (eqb f 0 ≡ false) × (number r ≡ f)
      go true t g = absurd (n (ap number g ∙ zero-fine))
      go false t g = (t, ap number g ∙ same)
