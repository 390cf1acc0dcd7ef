-- What the largest least cost and its sheet, and the sum, say of the sheets.
use Prim.Native.Nat.{ℕ, suc, ◌+◌, ◌*◌, ◌≤◌, ◌<◌}
use native.Mathlib.Omega.{arith}
use mathlib.Core.Path.{◌≡◌, refl, ap, ◌∙◌}
use mathlib.Core.Bool.{Bool, true, false, cond, ◌&&◌}
use mathlib.Core.List.{List, [], ◌∷◌, ◌++◌}
use lib.ListN.{length}
use lib.Dec.{eqb}
use borrow.Author.Tests.{eqb-true, eqb-false}
use Rattle.fields.specs.Limits.{greatest_allowed}
use Rattle.fields.specs.Entries.{Each, nil_each, cons_each}
use Rattle.figures.specs.Counting.{sum_of}
use Rattle.figures.specs.Tallies.{SheetFigure, is_planned, costs_of, greatest, first_at}
use Rattle.figures.specs.Theorems.{LargestOf, none_planned, has_sheet, LargestIsFirst, SumIsBounded}
use Rattle.figures.proofs.Tallies.{first_none, costs_append}

-- ---- every number of a list

-- no number is above the greatest
below_greatest : (ks : List ℕ) (g : ℕ) → greatest ks ≤ g → Each (λ k. k ≤ g) ks
unfolding greatest
below_greatest [] g h = nil_each
below_greatest (k ∷ ks) g h = let first : k ≤ g = omega (arith, h) in cons_each first (below_greatest ks g (omega (arith, h)))

module _ {P : ℕ → Type 0} where
  each_front : (ks js : List ℕ) → Each P (ks ++ js) → Each P ks
  each_front [] js hs = nil_each
  each_front (k ∷ ks) js (cons_each h hs) = cons_each h (each_front ks js hs)

  each_behind : (ks js : List ℕ) (j : ℕ) → Each P (ks ++ (j ∷ js)) → Each P js
  each_behind [] js j (cons_each h hs) = hs
  each_behind (k ∷ ks) js j (cons_each h hs) = each_behind ks js j hs

-- numbers up to a limit and none the limit are below it
each_below : (g : ℕ) (ks : List ℕ) → Each (λ k. k ≤ g) ks → Each (λ k. k ≡ g → ⊥) ks → Each (λ k. k < g) ks
each_below g [] nil_each nil_each = nil_each
each_below g (k ∷ ks) (cons_each h hs) (cons_each n ns) = let below : k < g = omega (arith, h, n) in cons_each below (each_below g ks hs ns)

-- ---- the first sheet of a cost

-- where it stands: nowhere, or behind sheets that were not planned at it
data Standing (g i : ℕ) (os : List SheetFigure) : ℕ → Type 0 where
  nowhere : Standing g i os 0
  stands : (before after : List SheetFigure) (o : SheetFigure) (m : ℕ) → m ≡ i + length before → os ≡ before ++ (o ∷ after) → is_planned o ≡ true
      → o.cost ≡ g → Each (λ k. k ≡ g → ⊥) (costs_of before) → Standing g i os m

-- behind one sheet more in front
later : (g i : ℕ) (o : SheetFigure) (os : List SheetFigure)
    → ((before : List SheetFigure) → Each (λ k. k ≡ g → ⊥) (costs_of before) → Each (λ k. k ≡ g → ⊥) (costs_of (o ∷ before)))
    → (m : ℕ) → Standing g (suc i) os m → Standing g i (o ∷ os) m
later g i o os f _ nowhere = nowhere
later g i o os f _ (stands before after p m e cut planned cost each) =
    stands (o ∷ before) after p m (e ∙ omega arith) (ap (λ ps. o ∷ ps) cut) planned cost (f before each)

standing : (g i : ℕ) (os : List SheetFigure) → Standing g i os (first_at g i os)
unfolding first_at costs_of
standing g i [] = nowhere
standing g i (o ∷ os) = go (is_planned o) (eqb o.cost g) refl refl (standing g (suc i) os)
  where
    go : (a b : Bool) → is_planned o ≡ a → eqb o.cost g ≡ b → Standing g (suc i) os (first_at g (suc i) os)
        → Standing g i (o ∷ os) (cond (a && b) i (first_at g (suc i) os))
    go true true p e s = stands [] os o i (omega arith) refl p (eqb-true o.cost g e) nil_each
    go true false p e s = later g i o os (λ before each. rw p (cons_each (eqb-false o.cost g e) each)) (first_at g (suc i) os) s
    go false b p e s = later g i o os (λ before each. rw p each) (first_at g (suc i) os) s

pub largest_is_first : LargestIsFirst
unfolding costs_of greatest
largest_is_first os = go (first_at (greatest (costs_of os)) 1 os) refl (standing (greatest (costs_of os)) 1 os)
  where
    go : (m : ℕ) → first_at (greatest (costs_of os)) 1 os ≡ m → Standing (greatest (costs_of os)) 1 os m → LargestOf os (greatest (costs_of os)) m
    go _ e nowhere =
        let none = first_none (greatest (costs_of os)) 0 os e refl in
        let zero : greatest (costs_of os) ≡ 0 = ap greatest none in
        rw zero (none_planned none)
    go _ e (stands before after o m f cut planned cost each) =
        let costs : costs_of os ≡ costs_of before ++ (o.cost ∷ costs_of after)
        = ap costs_of cut ∙ costs_append before (o ∷ after) ∙ ap (λ b. costs_of before ++ cond b (o.cost ∷ costs_of after) (costs_of after)) planned in
        let most = below_greatest (costs_of os) (greatest (costs_of os)) (omega arith) in
        let all : Each (λ k. k ≤ o.cost) (costs_of before ++ (o.cost ∷ costs_of after)) = rw (← costs, cost) most in
        let number : m ≡ suc (length before) = f ∙ omega arith in
        let lower = each_below o.cost (costs_of before) (each_front (costs_of before) _ all) (rw cost each) in
        rw (number, ← cost) (has_sheet before after o cut planned lower (each_behind (costs_of before) _ _ all))

-- ---- the sum

sum_of_most : (ks : List ℕ) (g : ℕ) → Each (λ k. k ≤ g) ks → sum_of ks ≤ length ks * g
unfolding sum_of
sum_of_most [] g nil_each = omega arith
sum_of_most (k ∷ ks) g (cons_each h hs) = let ih = sum_of_most ks g hs in omega (arith, h, ih)

costs_few : (os : List SheetFigure) → length (costs_of os) ≤ length os
unfolding costs_of
costs_few [] = omega arith
costs_few (o ∷ os) = go (is_planned o) (costs_few os)
  where
    go : (a : Bool) → length (costs_of os) ≤ length os → length (cond a (o.cost ∷ costs_of os) (costs_of os)) ≤ suc (length os)
    go true ih = omega (arith, ih)
    go false ih = omega (arith, ih)

pub sum_is_bounded : SumIsBounded
sum_is_bounded os hs = let most = sum_of_most (costs_of os) greatest_allowed hs in let few = costs_few os in omega (arith, most, few)
