-- What the calls of a clause's methods say together: the test for a full sign, the meet at a variable, the clash test,
-- and whether two clauses may be resolved. Each law takes the answers of the calls and gives the method's own.
use Prim.Native.Nat.{ℕ, ◌-◌, ◌<◌}
use native.Mathlib.Omega.{arith}
use mathlib.Core.Path.{◌≡◌, sym, ap, ap₂, ◌∙◌}
use mathlib.Core.Bool.{Bool, true, false, not, ◌||◌, or-true}
use mathlib.Core.List.{List}
use lib.ListN.{get_or, set}
use lib.Bits.{bit_and, and_le_l}
use Rattle.wcsp.specs.Clause.{ValidClause, tautology}
use Rattle.wcsp.specs.Rule.{joined, others, clashing, nested, permitted}
use Rattle.wcsp.proofs.Validity.{met}
use Rattle.words.specs.Layout.{unpacked}
use Rattle.clause.specs.declared.Clause.{Clause}
use Rattle.clause.specs.Packed.{signs_of, Holds, FullSigns, any_equal}
use Rattle.clause.proofs.Blocks.{any_equal_block}
use Rattle.clause.proofs.Clashing.{tautology-any_equal, tautology-clashing-at}

-- ---- a full sign, block by block

abbrev full_in : ℕ → ℕ → Bool
full_in x f = any_equal (unpacked x) (unpacked f)

-- a clause is a tautology if one of its blocks has a full sign
pub tautology_blocks : (x f : Clause) (ds : List ℕ) → FullSigns f ds
    → (full_in x.a f.a || (full_in x.b f.b || (full_in x.c f.c || full_in x.d f.d))) ≡ tautology ds (signs_of x)
unfolding signs_of
tautology_blocks x f ds e =
    sym
    (tautology-any_equal ds (signs_of x)
    ∙ ap (λ l. any_equal (signs_of x) l) (sym e)
    ∙ any_equal_block x.a f.a _ _
    ∙ ap (λ r. full_in x.a f.a || r)
    (any_equal_block x.b f.b _ _
    ∙ ap (λ r. full_in x.b f.b || r) (any_equal_block x.c f.c (unpacked x.d) (unpacked f.d))))

module _ (x f : Clause) where
  pub full_a : (r : Bool) → r ≡ full_in x.a f.a → r ≡ true → (ds : List ℕ) → FullSigns f ds → true ≡ tautology ds (signs_of x)
  full_a r e t ds h = rw (← e, t) at (tautology_blocks x f ds h)

  pub full_b : (r : Bool) → r ≡ full_in x.b f.b → r ≡ true → (ds : List ℕ) → FullSigns f ds → true ≡ tautology ds (signs_of x)
  full_b r e t ds h = rw (← e, t, or-true) at (tautology_blocks x f ds h)

  pub full_c : (r : Bool) → r ≡ full_in x.c f.c → r ≡ true → (ds : List ℕ) → FullSigns f ds → true ≡ tautology ds (signs_of x)
  full_c r e t ds h = simp or-true at (rw (← e, t) at (tautology_blocks x f ds h))

  pub full_d : (o p q r : Bool) → o ≡ full_in x.a f.a → o ≡ false → p ≡ full_in x.b f.b → p ≡ false → q ≡ full_in x.c f.c
      → q ≡ false → r ≡ full_in x.d f.d → (ds : List ℕ) → FullSigns f ds → r ≡ tautology ds (signs_of x)
  full_d o p q r i m j s k u e ds h = rw (← i, m, ← j, s, ← k, u, ← e) at (tautology_blocks x f ds h)

-- ---- one sign complemented, and the meet

pub complemented_holds : (x y : Clause) (v s f : ℕ) → Holds y (set (signs_of x) v (f - s)) → s ≡ get_or (signs_of x) v 0
    → Holds y (set (signs_of x) v (f - get_or (signs_of x) v 0))
complemented_holds x y v s f h e = rw (← e) h

pub met_holds : (x y u z : Clause) (v s t : ℕ) → Holds u (joined (signs_of x) (signs_of y)) → s ≡ get_or (signs_of x) v 0
    → t ≡ get_or (signs_of y) v 0 → Holds z (set (signs_of u) v (bit_and s t)) → Holds z (met v (signs_of x) (signs_of y))
met_holds x y u z v s t h p q g =
    record {
      packed = g.packed;
      signs_are =
          g.signs_are ∙ ap (λ l. set l v (bit_and s t)) h.signs_are
          ∙ ap₂ (λ a b. set (joined (signs_of x) (signs_of y)) v (bit_and a b)) p q;
    }

-- a sign met with another is no greater
pub met_small : (s t : ℕ) → s < 256 → bit_and s t < 256
met_small s t h = omega (arith, and_le_l s t)

-- ---- clashing and permitted, for every list of sizes whose full signs are f

-- P holds of every list of sizes whose full signs are f and over which both clauses are valid
abbrev Over : Clause → Clause → Clause → (List ℕ → Type 0) → Type 0
Over f x y P = (ds : List ℕ) → FullSigns f ds → ValidClause ds (signs_of x) → ValidClause ds (signs_of y) → P ds

pub clashes_over : (x y f u z : Clause) (v : ℕ) (r : Bool) → Holds u (joined (signs_of x) (signs_of y)) → Holds z (set (signs_of u) v 0)
    → ((ds : List ℕ) → FullSigns f ds → r ≡ tautology ds (signs_of z)) → Over f x y (λ ds. r ≡ clashing ds (others v (signs_of x)) (others v (signs_of y)))
clashes_over x y f u z v r h g t ds e a b =
    t ds e ∙ ap (tautology ds) (g.signs_are ∙ ap (λ l. set l v 0) h.signs_are) ∙ tautology-clashing-at v a b

module _ (x y f : Clause) (v s t : ℕ) (r : Bool) (p : s ≡ get_or (signs_of x) v 0) (q : t ≡ get_or (signs_of y) v 0) (n : r ≡ nested s t) where
  nesting : nested (get_or (signs_of x) v 0) (get_or (signs_of y) v 0) ≡ r
  nesting = sym (n ∙ ap₂ nested p q)

  pub refused : r ≡ true → Over f x y (λ ds. false ≡ permitted ds v (signs_of x) (signs_of y))
  unfolding permitted
  refused e ds g a b = rw (nesting, e)

  pub allowed : r ≡ false → (w : Bool) → Over f x y (λ ds. w ≡ clashing ds (others v (signs_of x)) (others v (signs_of y)))
      → Over f x y (λ ds. not w ≡ permitted ds v (signs_of x) (signs_of y))
  unfolding permitted
  allowed e w k ds g a b = rw (nesting, e, ← (k ds g a b))
