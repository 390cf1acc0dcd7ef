-- The four groups one behind the other in the buffer are the conclusions that are no tautologies.
use Prim.Native.Nat.{ℕ}
use mathlib.Core.Path.{◌≡◌, sym, ap, ◌∙◌}
use mathlib.Core.List.{List, [], ◌∷◌, ◌++◌, append_assoc}
use Rattle.wcsp.specs.Clause.{ValidClause, kept}
use Rattle.wcsp.specs.Rule.{joined, others, excluding, conclusions}
use Rattle.wcsp.proofs.Adding.{kept_append}
use Rattle.wcsp.proofs.Validity.{met}
use Rattle.clause.specs.declared.Clause.{Clause}
use Rattle.clause.specs.Packed.{signs_of, Holds, FullSigns}
use Rattle.conclusions.specs.Buffer.{clauses_in}

-- kept of the four groups, part by part
kept_groups : (ds m j : List ℕ) (g h : List (List ℕ))
    → kept ds (m ∷ j ∷ (g ++ h)) ≡ kept ds (m ∷ []) ++ kept ds (j ∷ []) ++ kept ds g ++ kept ds h
kept_groups ds m j g h =
    kept_append ds (m ∷ []) (j ∷ (g ++ h))
    ∙ ap (λ l. kept ds (m ∷ []) ++ l) (kept_append ds (j ∷ []) (g ++ h) ∙ ap (λ l. kept ds (j ∷ []) ++ l) (kept_append ds g h))
    ∙ simp append_assoc

module _ (x y f m j : Clause) (v : ℕ) (meet : Holds m (met v (signs_of x) (signs_of y))) (join : Holds j (joined (signs_of x) (signs_of y))) where
  pub conclusions_filled : (B C D E F : List ℕ) (p q r s : ℕ)
      → ((ds : List ℕ) → FullSigns f ds → clauses_in p C ≡ clauses_in 0 B ++ kept ds (signs_of m ∷ []))
      → ((ds : List ℕ) → FullSigns f ds → clauses_in q D ≡ clauses_in p C ++ kept ds (signs_of j ∷ []))
      → ((ds : List ℕ) → FullSigns f ds → ValidClause ds (signs_of x) → ValidClause ds (signs_of y)
      → clauses_in r E ≡ clauses_in q D ++ kept ds (excluding ds (signs_of x) (others v (signs_of y))))
      → ((ds : List ℕ) → FullSigns f ds → ValidClause ds (signs_of y) → ValidClause ds (signs_of x)
      → clauses_in s F ≡ clauses_in r E ++ kept ds (excluding ds (signs_of y) (others v (signs_of x))))
      → (ds : List ℕ) → FullSigns f ds → ValidClause ds (signs_of x) → ValidClause ds (signs_of y)
      → clauses_in s F ≡ kept ds (conclusions ds v (signs_of x) (signs_of y))
  unfolding clauses_in conclusions
  conclusions_filled B C D E F p q r s first second third fourth ds g a b =
      rw (fourth ds g b a, third ds g a b, second ds g, first ds g, meet.signs_are, join.signs_are)
      (sym (kept_groups ds _ _ _ _))
