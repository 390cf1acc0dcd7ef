-- What the answer of a step on a given pair says: refused, which leaves the table as it was, or made, and then the finished rows are neither too
-- heavy nor too many.
use Prim.Native.Nat.{ℕ, ◌≤◌}
use native.Mathlib.Omega.{arith}
use mathlib.Core.Path.{◌≡◌, refl, sym, ap, ◌∙◌}
use mathlib.Core.Bool.{false}
use mathlib.Core.List.{List}
use lib.ListN.{length}
use Rattle.wcsp.specs.Row.{Row}
use Rattle.wcsp.specs.Resolve.{Pair, resolve}
use Rattle.table.specs.Layout.{too_heavy}
use Rattle.table.specs.Meaning.{table_rows, domains, capacity_of}
use Rattle.stepping.specs.Step.{Stepping, refusing, steps_to, allowed, with_rows}
use Rattle.stepping.specs.Advance.{Advanced, Made, Refused, AdvanceReturned, advance_returns, advance_call}
use Rattle.stepping.proofs.Verdicts.{Verdict, refused, made, verdict}

-- a step that was made: its rows fit
pub record Advances (t : List ℕ) (pr : Pair) (now : ℕ) (t' : List ℕ) : Type 0 where
  pub is : allowed (capacity_of t) pr (resolve (domains t) pr (table_rows t)) ≡ steps_to pr (resolve (domains t) pr (table_rows t))
  pub light : too_heavy (resolve (domains t) pr (table_rows t)) ≡ false
  pub fits : length (resolve (domains t) pr (table_rows t)) ≤ capacity_of t
  pub counted : now ≡ length (resolve (domains t) pr (table_rows t))
  pub table : t' ≡ with_rows t (resolve (domains t) pr (table_rows t))

now_in : Advanced → ℕ
now_in (Made a) = a
now_in (Refused k) = k

pub not_made : {x : Advanced} {a : ℕ} → x ≡ Made a → (k : ℕ) → x ≡ Refused k → 0 ≡ k
not_made p k q = absurd (let z : ◌≡◌ {A = ℕ} 0 1 = cc in omega arith)

pub not-refused : {x : Advanced} {m : ℕ} → x ≡ Refused m → (a : ℕ) → x ≡ Made a → m ≡ 0
not-refused p a q = absurd (let z : ◌≡◌ {A = ℕ} 0 1 = cc in omega arith)

pub one_number : {x : Advanced} {m : ℕ} → x ≡ Refused m → (k : ℕ) → x ≡ Refused k → m ≡ k
unfolding now_in
one_number p k q = ap now_in (sym p ∙ q)

module _ (t : List ℕ) (pr : Pair) (answer : Advanced) (t' : List ℕ)
    (e : ◌≡◌ {A = AdvanceReturned} (record { answer = answer; table = t' }) (advance_call t pr)) where
  pub advance_made : (now : ℕ) → answer ≡ Made now → Advances t pr now t'
  unfolding advance_call advance_returns now_in
  advance_made now q = go (allowed (capacity_of t) pr rs') refl (verdict (capacity_of t) pr rs') e
    where
      rs' : List Row
      rs' = resolve (domains t) pr (table_rows t)

      go : (s : Stepping) → allowed (capacity_of t) pr rs' ≡ s → Verdict (capacity_of t) pr rs' s
          → ◌≡◌ {A = AdvanceReturned} (record { answer = answer; table = t' }) (advance_returns t s) → Advances t pr now t'
      go (refusing k) p (refused k' h) a =
          let b : answer ≡ Refused k = ap (λ r. r.answer) a in absurd (let z : ◌≡◌ {A = ℕ} 0 1 = cc in omega arith)
      go (steps_to x y) p (made h l) a =
          record { is = p; light = h; fits = l; counted = ap now_in (sym q ∙ ap (λ r. r.answer) a); table = ap (λ r. r.table) a }

  pub advance_refused : (k : ℕ) → answer ≡ Refused k
      → (allowed (capacity_of t) pr (resolve (domains t) pr (table_rows t)) ≡ refusing k) × (t' ≡ t)
  unfolding advance_call advance_returns now_in
  advance_refused k q = go (allowed (capacity_of t) pr rs') refl (verdict (capacity_of t) pr rs') e
    where
      rs' : List Row
      rs' = resolve (domains t) pr (table_rows t)

      go : (s : Stepping) → allowed (capacity_of t) pr rs' ≡ s → Verdict (capacity_of t) pr rs' s
          → ◌≡◌ {A = AdvanceReturned} (record { answer = answer; table = t' }) (advance_returns t s)
          → (allowed (capacity_of t) pr rs' ≡ refusing k) × (t' ≡ t)
      go (refusing m) p (refused m' h) a = (p ∙ ap refusing (ap now_in (sym (ap (λ r. r.answer) a) ∙ q)), ap (λ r. r.table) a)
      go (steps_to x y) p (made h l) a =
          let b : answer ≡ Made (length rs') = ap (λ r. r.answer) a in absurd (let z : ◌≡◌ {A = ℕ} 0 1 = cc in omega arith)
