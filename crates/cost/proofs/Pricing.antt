-- The cost of an assignment for an instance: the fold over the words is the sum over the entries, and the call's answer is made from its parts.
use Prim.Native.Nat.{ℕ, ◌+◌, ◌≤◌}
use native.Mathlib.Omega.{arith}
use mathlib.Core.Path.{◌≡◌, refl, sym, ap, ◌∙◌}
use mathlib.Core.Bool.{Bool, true, false, ◌&&◌, cond}
use mathlib.Core.List.{List, [], ◌∷◌, ◌++◌}
use lib.ListN.{length, get_or, take, drop}
use lib.Dec.{eqb}
use borrow.Author.Tests.{eq-eqb}
use Rattle.wcsp.specs.Entry.{Binding, matches, cost}
use Rattle.words.specs.Layout.{kind_of, payload_of, variable_in, value_in}
use Rattle.fields.specs.Limits.{max_variables, greatest_cost}
use Rattle.fields.specs.Entries.{closes_entry, cost_of, entries_from}
use Rattle.fields.specs.Assignment.{is_assignment}
use Rattle.fields.specs.Answers.{refused, good}
use Rattle.fields.proofs.Padding.{padded-length}
use Rattle.fields.proofs.Closing.{binding_closes_none, unclosed_costs_none}
use Rattle.fields.proofs.Costs.{entries_costs}
use Rattle.fields.specs.declared.refusals.Fault.{Fault}
use Rattle.fields.specs.Numbers.{fault_number}
use Rattle.input.specs.Instance.{instance_fault, sizes_of, entries_of}
use Rattle.input.specs.Accepted.{Accepted}
use Rattle.input.proofs.Heads.{fault_known}
use Rattle.input.proofs.Acceptance.{faultless_is_accepted}
use Rattle.cost.specs.Costing.{cost_in, matched_after, cost_from}
use Rattle.cost.specs.Calls.{cost_call}

-- ---- words and entries

pub matches_further : (p : List ℕ) (bs : List Binding) (b : Binding) → matches p (bs ++ (b ∷ [])) ≡ (matches p bs && eqb (get_or p b.variable 0) b.value)
unfolding matches
matches_further p [] b = go (eqb (get_or p b.variable 0) b.value)
  where
    go : (x : Bool) → (x && true) ≡ x
    go true = refl
    go false = refl
matches_further p (a ∷ bs) b =
    go (eqb (get_or p a.variable 0) a.value) (matches p bs) (eqb (get_or p b.variable 0) b.value) (matches_further p bs b)
  where
    go : (x y z : Bool) → matches p (bs ++ (b ∷ [])) ≡ (y && z) → (x && matches p (bs ++ (b ∷ []))) ≡ (x && y && z)
    go true y z e = e
    go false y z e = refl

pub cost_of_words : (p : List ℕ) (bs : List Binding) (ws : List ℕ) → cost (entries_from bs ws) p ≡ cost_from p (matches p bs) ws
unfolding cost entries_from cost_from cost_in matched_after cost_of matches
cost_of_words p bs [] = refl
cost_of_words p bs (w ∷ ws) = go (eqb (kind_of w) 3) (closes_entry w) refl refl (λ bs. cost_of_words p bs ws)
  where
    b : Binding
    b = record { variable = variable_in w; value = value_in w }

    same : Bool
    same = matches p bs && eqb (get_or p (variable_in w) 0) (value_in w)

    -- a word that closes no entry adds nothing
    nothing : (m : Bool) → closes_entry w ≡ false → cond m (cost_of w) 0 ≡ 0
    nothing true e = unclosed_costs_none w e
    nothing false e = refl

    go : (x y : Bool) → eqb (kind_of w) 3 ≡ x → closes_entry w ≡ y
        → ((bs : List Binding) → cost (entries_from bs ws) p ≡ cost_from p (matches p bs) ws)
        → cost (cond x (entries_from (bs ++ (b ∷ [])) ws) (cond y (record { bindings = bs; cost = cost_of w } ∷ entries_from [] ws) (entries_from bs ws))) p
        ≡ cond (matches p bs) (cost_of w) 0 + cost_from p (cond x same (cond y true (matches p bs))) ws
    go true y f g ih =
        omega (arith, ih (bs ++ (b ∷ [])), ap (λ m. cost_from p m ws) (matches_further p bs b), nothing (matches p bs) (binding_closes_none w f))
    go false true f g ih = ap (λ n. cond (matches p bs) (cost_of w) 0 + n) (ih [])
    go false false f g ih = omega (arith, ih bs, nothing (matches p bs) g)

-- ---- the call

pub cost_refused : (f : Fault) (ws plan : List ℕ) → fault_number f ≡ instance_fault ws → refused (fault_number f) ≡ cost_call ws plan
unfolding cost_call
cost_refused f ws plan e = rw (fault_known f ws e, e)

module _ (ws plan ds : List ℕ) (fine : 0 ≡ instance_fault ws) (s : ds ≡ sizes_of ws) where
  taken : eqb (instance_fault ws) 0 ≡ true
  taken = eq-eqb (instance_fault ws) 0 (sym fine)

  is_accepted : Accepted ws
  is_accepted = faultless_is_accepted ws (sym fine)

  words_are : cost (entries_of ws) plan ≡ cost_from plan true (drop (length ds + 1) ws)
  unfolding entries_of matches
  words_are =
      let o : 1 + payload_of (get_or ws 0 0) ≡ length ds + 1 = omega (arith, is_accepted.head, ap length s) in
      cost_of_words plan [] (drop (1 + payload_of (get_or ws 0 0)) ws) ∙ ap (λ j. cost_from plan true (drop j ws)) o

  pub cost_small : cost_from plan true (drop (length ds + 1) ws) ≤ greatest_cost
  cost_small = rw (← words_are) (entries_costs is_accepted.entries plan)

  pub cost_not : false ≡ is_assignment ds plan → refused 7 ≡ cost_call ws plan
  unfolding cost_call
  cost_not e = rw (taken, ← s, ← e)

  pub cost_is : (v : ℕ) → true ≡ is_assignment ds plan → v ≡ cost_from plan true (drop (length ds + 1) ws) → good v ≡ cost_call ws plan
  unfolding cost_call
  cost_is v e f = rw (taken, ← s, ← e, words_are, f)
