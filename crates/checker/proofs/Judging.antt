-- The claim as the code tests it: bytes that are no assignment, another cost, another empty row's weight, or a claim that holds.
use Prim.Native.Nat.{ℕ, ◌≤◌}
use native.Mathlib.Omega.{arith}
use mathlib.Core.Path.{◌≡◌, refl, sym, ap, ◌∙◌}
use mathlib.Core.Bool.{Bool, true, false, cond, and-false}
use mathlib.Core.List.{List}
use lib.Dec.{eqb}
use borrow.Author.Tests.{eq-eqb, ne_eqb, eqb-true, eqb-false}
use Rattle.wcsp.specs.Entry.{cost}
use Rattle.fields.specs.Answers.{Answer}
use Rattle.fields.specs.Answers.{refused, good}
use Rattle.fields.specs.declared.refusals.Refusal.{Refusal}
use Rattle.fields.specs.Numbers.{number_of}
use Rattle.fields.specs.Assignment.{is_assignment}
use Rattle.cost.specs.Calls.{cost_call}
use Rattle.input.specs.Instance.{instance_fault, sizes_of, entries_of}
use Rattle.checker.specs.Calls.{claim_holds}

-- a refusal has a number
pub refused_more : (r : Refusal) → 1 ≤ number_of r
refused_more r = grind arith

module _ (inst plan : List ℕ) (accepted : instance_fault inst ≡ 0) (priced : Answer) (e : priced ≡ cost_call inst plan) where
  price : priced ≡ cond (is_assignment (sizes_of inst) plan) (good (cost (entries_of inst) plan)) (refused 7)
  unfolding cost_call
  price = rw (eq-eqb (instance_fault inst) 0 accepted) at e

  no_plan : (priced.number ≡ 0 → ⊥) → (is_assignment (sizes_of inst) plan ≡ false) × (priced.number ≡ 7)
  no_plan n = go _ refl (ap (λ a. a.number) price)
    where
      go : (b : Bool) → is_assignment (sizes_of inst) plan ≡ b → priced.number ≡ (cond b (good (cost (entries_of inst) plan)) (refused 7)).number
          → (b ≡ false) × (priced.number ≡ 7)
      go true p q = absurd (n q)
      go false p q = (refl, q)

  a_plan : priced.number ≡ 0 → (is_assignment (sizes_of inst) plan ≡ true) × (priced.value ≡ cost (entries_of inst) plan)
  a_plan n = go _ refl price
    where
      go : (b : Bool) → is_assignment (sizes_of inst) plan ≡ b → priced ≡ cond b (good (cost (entries_of inst) plan)) (refused 7)
          → (b ≡ true) × (priced.value ≡ cost (entries_of inst) plan)
      go true p q = (refl, ap (λ a. a.value) q)
      go false p q = absurd (let z = ap (λ a. a.number) q in omega arith)

  module _ (claimed weight : ℕ) where
    -- what the judgement must be
    abbrev Judges : ℕ → Type 0
    Judges number = number ≡ cond (claim_holds inst plan claimed weight) 0 7

    pub claim_unplanned : (priced.number ≡ 0 → ⊥) → Judges 7
    unfolding claim_holds
    claim_unplanned n = rw ((no_plan n).0)

    pub claim_other_cost : (claimed ≡ priced.value → ⊥) → Judges 7
    unfolding claim_holds
    claim_other_cost h = go (eqb priced.number 0) refl
      where
        go : (b : Bool) → eqb priced.number 0 ≡ b → Judges 7
        go true n =
            rw (ne_eqb claimed (cost (entries_of inst) plan) (λ q. h (q ∙ sym (a_plan (eqb-true priced.number 0 n)).1)), and-false)
        go false n = rw (no_plan (eqb-false priced.number 0 n)).0

    pub claim_other_weight : (empty : ℕ) → empty ≡ weight → (claimed ≡ empty → ⊥)
        → Judges 7
    unfolding claim_holds
    claim_other_weight empty f h =
        rw (ne_eqb claimed weight (λ q. h (q ∙ sym f)), and-false)

    pub claim_true : priced.number ≡ 0 → (empty : ℕ) → empty ≡ weight → claimed ≡ priced.value → claimed ≡ empty
        → Judges 0
    unfolding claim_holds
    claim_true n empty f g h =
        rw ((a_plan n).0, eq-eqb claimed weight (h ∙ f), eq-eqb claimed (cost (entries_of inst) plan) (g ∙ (a_plan n).1))
