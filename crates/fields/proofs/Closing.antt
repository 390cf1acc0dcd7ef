-- Words that close an entry: a cost word and a forbidden one do, a binding does not. What such a word costs; one that closes none costs nothing.
use Prim.Native.Nat.{ℕ}
use native.Mathlib.Omega.{arith}
use mathlib.Core.Path.{◌≡◌, refl}
use mathlib.Core.Bool.{Bool, true, false, ◌||◌, cond}
use lib.Dec.{eqb}
use borrow.Author.Tests.{eq-eqb, ne_eqb, eqb-true}
use Rattle.words.specs.declared.Word.{Word}
use Rattle.words.specs.declared.Word.TheVariants.{Cost, Forbidden}
use Rattle.words.specs.Layout.{kind_of, payload_of}
use Rattle.words.specs.Meaning.{word_of}
use Rattle.words.proofs.Inverse.{cost_kind, forbidden_kind}
use Rattle.words.proofs.Said.{by_word}
use Rattle.fields.specs.Limits.{forbidden_cost}
use Rattle.fields.specs.Entries.{closes_entry, cost_of}

module _ (w : ℕ) where
  -- ---- a word that was read

  pub closes_cost : (c : ℕ) → word_of w ≡ Cost c → (eqb (kind_of w) 3 ≡ false) × (closes_entry w ≡ true)
  unfolding closes_entry
  closes_cost c e =
      let k = (cost_kind w c e).0 in
      (ne_eqb (kind_of w) 3 (omega arith), rw (eq-eqb (kind_of w) 4 k))

  pub closes_forbidden : (p : ℕ) → word_of w ≡ Forbidden p → (eqb (kind_of w) 3 ≡ false) × (closes_entry w ≡ true)
  unfolding closes_entry
  closes_forbidden p e =
      let k = (forbidden_kind w p e).0 in
      (ne_eqb (kind_of w) 3 (omega arith), rw (ne_eqb (kind_of w) 4 (omega arith), eq-eqb (kind_of w) 11 k))

  pub cost-some : (c : ℕ) → word_of w ≡ Cost c → c ≡ cost_of w
  unfolding cost_of
  cost-some c e = let k = cost_kind w c e in rw (eq-eqb (kind_of w) 4 k.0, k.1)

  pub cost_forbidden : (p : ℕ) → word_of w ≡ Forbidden p → forbidden_cost ≡ cost_of w
  unfolding cost_of
  cost_forbidden p e =
      let k = forbidden_kind w p e in
      rw (ne_eqb (kind_of w) 4 (omega (arith, k.0)), eq-eqb (kind_of w) 11 k.0)

  pub closes_none : (eqb (kind_of w) 4 ≡ false) × (eqb (kind_of w) 11 ≡ false) → closes_entry w ≡ false
  unfolding closes_entry
  closes_none (m, n) = rw (m, n)

  -- ---- a word by its tests

  pub binding_closes_none : eqb (kind_of w) 3 ≡ true → closes_entry w ≡ false
  binding_closes_none e =
      let k = eqb-true (kind_of w) 3 e in
      closes_none (ne_eqb (kind_of w) 4 (omega arith), ne_eqb (kind_of w) 11 (omega arith))

  pub unclosed_costs_none : closes_entry w ≡ false → cost_of w ≡ 0
  unfolding closes_entry cost_of
  unclosed_costs_none e = go (eqb (kind_of w) 4) (eqb (kind_of w) 11) e
    where
      go : (x y : Bool) → (x || y) ≡ false → cond x (payload_of w) (cond y forbidden_cost 0) ≡ 0
      go true y e = let z : ◌≡◌ {A = ℕ} 0 1 = cc in absurd (omega arith)
      go false true e = let z : ◌≡◌ {A = ℕ} 0 1 = cc in absurd (omega arith)
      go false false e = refl

-- the cost that a word gives, by what the word says
abbrev pub cost_said : Word → ℕ
cost_said (Cost c) = c
cost_said (Forbidden p) = forbidden_cost
cost_said word = 0

pub cost_of_said : (w : ℕ) → cost_of w ≡ cost_said (word_of w)
unfolding cost_of
cost_of_said w =
    by_word (λ k p. cond (eqb k 4) p (cond (eqb k 11) forbidden_cost 0)) cost_said (λ p. refl) (λ p. refl) (λ p. refl) (λ p. refl) (λ p. refl) (λ p. refl)
    (λ p. refl) (λ p. refl) (λ p. refl) (λ p. refl) (λ p. refl) (λ p. refl)
    (λ k p n. rw (n 4 (omega arith) (omega arith), n 11 (omega arith) (omega arith))) w
