-- What each call of the driver leaves in its slices: step words behind those that were there, and the rest of the slice as it was.
use Prim.Native.Nat.{ℕ, ◌+◌, ◌-◌, ◌≤◌, ◌<◌, ◌/◌, ◌%◌, min}
use native.Mathlib.Numerals.{add-one}
use native.Mathlib.Omega.{arith}
use mathlib.Core.Path.{◌≡◌, refl, sym, ap, ◌∙◌}
use mathlib.Core.Bool.{Bool, true, false}
use mathlib.Core.List.{List, [], ◌∷◌, ◌++◌, append-nil}
use lib.ListN.{length, take, drop, set, take-append-drop, length-append, length-take, length-drop, length-set}
use lib.Seq.{length-take-le, take-append_seam, drop-append_seam, take-append-add, drop-append-add, take-append-le, drop-append-le, take-suc-set, drop-set-lt, drop-drop}
use borrow.Author.Tests.{eq-eqb, ne_eqb}
use Rattle.table.specs.Meaning.{table_sizes, own_rows, capacity_of}
use Rattle.table.specs.Valid.{valid_table}
use Rattle.resolution.specs.Answers.{StepAnswer, Stepped}
use Rattle.resolution.specs.Outcomes.{RunAnswer}
use Rattle.resolution.specs.Run.{run_rows}
use Rattle.resolution.specs.Calls.{StepReturned, step_call, RunReturned, run_call}
use Rattle.assignment.specs.Calls.{PlanReturned, plan_call}
use Rattle.calls.specs.Calls.{run_asked, plan_asked, words_of_step, after_call}
use Rattle.calls.specs.Driver.{target_after}
use Rattle.calls.specs.Slices.{state_in, step_in, Leaves}

-- ---- a front that may be longer than the list

take_min : (k : ℕ) (xs : List ℕ) → take (min k (length xs)) xs ≡ take k xs
take_min k xs = ap (λ n. take n xs) (sym (length-take k xs)) ∙ rw (take-append-drop k xs) at (take-append_seam (take k xs) (drop k xs))

-- ---- s words of what stands behind a front of n words

module _ (front xs rest : List ℕ) (n s : ℕ) (long : length front ≡ n) (few : s ≤ length xs) where
  behind_taken : take (n + s) (front ++ (xs ++ rest)) ≡ front ++ take s xs
  behind_taken = rw (← long) (take-append-add front (xs ++ rest) s ∙ ap (λ ys. front ++ ys) (take-append-le s xs rest few))

  behind_dropped : drop (n + s) (front ++ (xs ++ rest)) ≡ drop s xs ++ rest
  behind_dropped = rw (← long) (drop-append-add front (xs ++ rest) s ∙ drop-append-le s xs rest few)

-- ---- no call

pub unchanged : (t out : List ℕ) (made : ℕ) → made ≤ length out → Leaves out made (state_in t out made) t out made
unchanged t out made fits = record { state = refl; grown = omega arith; room = fits; rest = refl }

-- ---- a step call

module _ (t out : List ℕ) (made : ℕ) (fits : made ≤ length out) where
  -- no place is left
  pub step-full : made ≡ length out
      → Leaves out made (step_in t out made) t out made
  step-full e = rw (eq-eqb made (length out) e) (unchanged t out made fits)

  module _ (left : made ≡ length out → ⊥) (a : StepAnswer) (t' : List ℕ)
      (called : ◌≡◌ {A = StepReturned} (record { answer = a; table = t' }) (step_call t)) where
    answered : a ≡ (step_call t).answer
    answered = ap (λ r. r.answer) called

    table : t' ≡ (step_call t).table
    table = ap (λ r. r.table) called

    pub step-none : words_of_step a ≡ []
        → Leaves out made (step_in t out made) t' out made
    unfolding after_call
    step-none h =
        let none : words_of_step (step_call t).answer ≡ [] = rw (← answered) h in
        rw (ne_eqb made (length out) left, none, append-nil, ← table) (unchanged t' out made fits)

    pub step_made : (w : ℕ) → a ≡ Stepped w
        → Leaves out made (step_in t out made) t' (set out made w) (made + 1)
    unfolding after_call
    step_made w e =
        let one : words_of_step (step_call t).answer ≡ w ∷ [] = rw (← answered, e) in
        let less : made < length out = omega arith in
        let long : made + 1 ≤ length (set out made w) = simp length-set (omega arith) in
        rw (ne_eqb made (length out) left, one, ← table)
        (record {
          state = rw add-one (ap (λ ws. record { table = t'; derivation = ws }) (sym (take-suc-set out made w less)));
          grown = omega arith;
          room = long;
          rest = drop-set-lt (made + 1) out made w (omega arith);
        })

-- ---- a run

-- step words in front of the slice, the rest of which is as it was
record Fronted (slice : List ℕ) (r : RunReturned) : Type 0 where
  words : List ℕ
  steps : r.answer.steps ≡ length words
  left : r.slice ≡ words ++ drop (length words) slice

run_fronted : (t : List ℕ) (limit : ℕ) (slice : List ℕ) → Fronted slice (run_call t limit slice)
unfolding run_call
run_fronted t limit slice = go (valid_table t) refl
  where
    go : (b : Bool) → valid_table t ≡ b → Fronted slice (run_call t limit slice)
    go true e =
        rw e
        (record {
          words = (run_rows (table_sizes t) (capacity_of t) (min limit (length slice)) (own_rows t) []).made;
          steps = refl;
          left = refl;
        })
    go false e = rw e (record { words = []; steps = refl; left = refl })

run_rest : (t : List ℕ) (limit : ℕ) (slice : List ℕ)
    → drop (run_call t limit slice).answer.steps (run_call t limit slice).slice ≡ drop (run_call t limit slice).answer.steps slice
run_rest t limit slice = let f = run_fronted t limit slice in rw (f.left, f.steps) (drop-append_seam f.words (drop (length f.words) slice))

-- no more step words than the slice has room for
run_few : (t : List ℕ) (limit : ℕ) (slice ys : List ℕ) → ys ≡ (run_call t limit slice).slice → length ys ≡ length slice
    → (run_call t limit slice).answer.steps ≤ length slice
run_few t limit slice ys e long =
    let f = run_fronted t limit slice in
    let l : length slice ≡ length f.words + (length slice - length f.words)
    = sym long ∙ ap length (e ∙ f.left) ∙ simp (length-append, length-drop) in
    omega (arith, f.steps)

module _ (t out : List ℕ) (made : ℕ) (fits : made ≤ length out) (limit room l : ℕ) (lent : l ≡ min room (length out - made)) where
  -- the step words of a run in the part of l words from made on have a place
  pub run_room : (a : RunAnswer) (t' ys : List ℕ)
      → ◌≡◌ {A = RunReturned} (record { answer = a; table = t'; slice = ys }) (run_call t limit (take (made + l - made) (drop made out)))
      → length ys ≡ length (take (made + l - made) (drop made out)) → made + a.steps ≤ length out
  run_room a t' ys called long =
      let ea : a ≡ (run_call t limit (take (made + l - made) (drop made out))).answer = ap (λ r. r.answer) called in
      let ey : ys ≡ (run_call t limit (take (made + l - made) (drop made out))).slice = ap (λ r. r.slice) called in
      let few : a.steps ≤ length (take (made + l - made) (drop made out)) = rw ea (run_few t limit (take (made + l - made) (drop made out)) ys ey long) in
      omega (arith, simp (length-take, length-drop) at few)

  -- that part put back as the run left it
  pub run_made : (a : RunAnswer) (t' ys : List ℕ)
      → ◌≡◌ {A = RunReturned} (record { answer = a; table = t'; slice = ys }) (run_call t limit (take (made + l - made) (drop made out)))
      → length ys ≡ length (take (made + l - made) (drop made out))
      → Leaves out made (after_call (state_in t out made) (run_asked limit (take room (drop made out)))) t'
      (take made out ++ (ys ++ drop (made + l - made) (drop made out))) (made + a.steps)
  unfolding after_call
  run_made a t' ys called long =
      let n = made + l - made in
      let free = drop made out in
      let ea : a ≡ (run_call t limit (take n free)).answer = ap (λ r. r.answer) called in
      let et : t' ≡ (run_call t limit (take n free)).table = ap (λ r. r.table) called in
      let ey : ys ≡ (run_call t limit (take n free)).slice = ap (λ r. r.slice) called in
      let size : n ≡ min room (length free) = rw (length-drop made out) (omega arith) in
      let same : take n free ≡ take room free = ap (λ m. take m free) size ∙ take_min room free in
      let few : a.steps ≤ length (take n free) = rw ea (run_few t limit (take n free) ys ey long) in
      let some : a.steps ≤ length ys = rw long few in
      let rest : drop a.steps ys ≡ drop a.steps (take n free) = rw (ea, ey) (run_rest t limit (take n free)) in
      let front : length (take made out) ≡ made = length-take-le made out fits in
      rw (← same, ← ea, ← et, ← ey)
      (record {
        state = ap (λ ws. record { table = t'; derivation = ws }) (sym (behind_taken (take made out) ys (drop n free) made a.steps front some));
        grown = omega arith;
        room = simp (length-append, length-take, length-drop) (omega arith);
        rest =
            behind_dropped (take made out) ys (drop n free) made a.steps front some
            ∙ rw (rest, ← drop-append-le a.steps (take n free) (drop n free) few, take-append-drop n free) (drop-drop a.steps made out);
      })

-- ---- a plan call

pub plan_made : (t target : List ℕ) (p l : ℕ) → l ≡ min p (length target) → (number : ℕ) (ys : List ℕ)
    → ◌≡◌ {A = PlanReturned} (record { number = number; target = ys }) (plan_call t (take l target)) → ys ++ drop l target ≡ target_after t target (plan_asked (take p target))
unfolding target_after
plan_made t target p l lent number ys called =
    let e : ys ≡ (plan_call t (take l target)).target = ap (λ r. r.target) called in
    let same : take l target ≡ take p target = ap (λ m. take m target) lent ∙ take_min p target in
    let long : length (take p target) ≡ l = length-take p target ∙ sym lent in
    rw (long, ← same, e)
