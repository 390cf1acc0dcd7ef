-- Fields with no variables: their entries bind nothing, so that every cost counts and all of them go to the empty row.
use Prim.Native.Nat.{ℕ, ◌+◌}
use native.Mathlib.Omega.{arith}
use mathlib.Core.Path.{◌≡◌, refl, ap, ◌∙◌}
use mathlib.Core.Bool.{Bool, true, false, cond}
use mathlib.Core.List.{List, [], ◌∷◌}
use lib.Dec.{eqb}
use borrow.Author.Tests.{eqb-true, eqb-false, ne_eqb}
use Rattle.wcsp.specs.Clause.{InRange, nil, tautology, same}
use Rattle.wcsp.specs.Row.{Row, ◌weighted◌, merge, add}
use Rattle.wcsp.specs.Entry.{Binding, Entry, matches, cost, Rising, nil_rising, cons_rising, WellFormed, nil_entries, cons_entries, clause_of, encode_onto, encoded}
use Rattle.wcsp.specs.Resolve.{next_pair}
use Rattle.wcsp.specs.Bound.{total}
use Rattle.wcsp.specs.Empty.{all_costs, OneAssignment, ConstantsAdd, LeastIsSum, EncodesToOne, NothingToResolve}

in_range_none : (p : List ℕ) → InRange [] p → p ≡ []
in_range_none (_ ∷ _) x3 = elim x3 [ ]
in_range_none [] nil = refl

none_in_range : (p : List ℕ) → p ≡ [] → InRange [] p
none_in_range p e = rw e nil

pub one_assignment : OneAssignment
one_assignment p = (in_range_none p, none_in_range p)

binds_nothing : (k : ℕ) (bs : List Binding) → Rising [] k bs → bs ≡ []
binds_nothing k [] nil_rising = refl
binds_nothing k (b ∷ bs) (cons_rising l v a r) = absurd (omega arith)

pub constants_add : ConstantsAdd
unfolding cost matches total
constants_add [] nil_entries = refl
constants_add (e ∷ es) (cons_entries r f) = rw (binds_nothing 0 e.bindings r) (ap (λ n. e.cost + n) (constants_add es f))

pub least_is_sum : LeastIsSum
least_is_sum es f =
    let c = constants_add es f in
    record { assignment = []; in_range = nil; attained = c; least = λ p r. omega (arith, ap (cost es) (in_range_none p r), c) }

-- ---- the encoding

-- the empty row of this weight, if there is any
abbrev one_row : ℕ → List Row
one_row w = cond (eqb w 0) [] ([] weighted w ∷ [])

one_added : (w c : ℕ) → cond (eqb c 0) (one_row w) (add [] c (one_row w) []) ≡ one_row (w + c)
unfolding add merge tautology same
one_added w c = go (eqb c 0) (eqb w 0) refl refl
  where
    go : (x y : Bool) → eqb c 0 ≡ x → eqb w 0 ≡ y
        → cond x (cond y [] ([] weighted w ∷ [])) (add [] c (cond y [] ([] weighted w ∷ [])) []) ≡ one_row (w + c)
    go true y f g = let e : w + c ≡ w = omega (arith, eqb-true c 0 f) in rw (e, g)
    go false true f g =
        let n = eqb-false c 0 f in
        let e : w + c ≡ c = omega (arith, eqb-true w 0 g) in
        rw (e, ne_eqb c 0 n)
    go false false f g =
        let n = eqb-false c 0 f in
        rw (ne_eqb (w + c) 0 (λ e. n (omega arith)))

one_onto : (w : ℕ) (es : List Entry) → WellFormed [] es → encode_onto [] (one_row w) es ≡ one_row (w + all_costs es)
unfolding encode_onto clause_of total
one_onto w [] nil_entries = ap one_row (let e : w ≡ w + 0 = omega arith in e)
one_onto w (e ∷ es) (cons_entries r f) =
    let sum : w + e.cost + all_costs es ≡ w + (e.cost + all_costs es) = omega arith in
    ap (λ bs. encode_onto [] (cond (eqb e.cost 0) (one_row w) (add [] e.cost (one_row w) (clause_of [] bs))) es) (binds_nothing 0 e.bindings r)
    ∙ ap (λ rs. encode_onto [] rs es) (one_added w e.cost)
    ∙ one_onto (w + e.cost) es f
    ∙ ap one_row sum

pub encodes_to_one : EncodesToOne
unfolding encoded
encodes_to_one es f = one_onto 0 es f ∙ ap one_row (let e : 0 + all_costs es ≡ all_costs es = omega arith in e)

pub nothing_to_resolve : NothingToResolve
unfolding next_pair
nothing_to_resolve rs = refl
