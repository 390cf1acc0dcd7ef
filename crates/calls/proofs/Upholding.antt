-- Demand 3: its sentences for rows that steps lead to, and so for every list of calls without a conversion; completions and forbidden combinations in
-- these, and in the table that the checker leaves.
use Prim.Native.Nat.{ℕ, ◌<◌, ◌≤◌, min}
use native.Mathlib.Omega.{arith}
use mathlib.Core.Path.{◌≡◌, refl, sym, ap, ◌∙◌}
use mathlib.Core.Logic.{◌⊎◌, inl, inr, ◌↔◌}
use mathlib.Core.Bool.{Bool, true, false, cond}
use mathlib.Core.List.{List, [], ◌∷◌}
use mathlib.Core.Option.{Option, none, some}
use lib.ListN.{length, drop}
use lib.Dec.{ltb}
use borrow.Author.Tests.{lt-leb, lt-ltb, le-ltb}
use Rattle.wcsp.specs.Clause.{InRange}
use Rattle.wcsp.specs.Row.{Row, empty_weight}
use Rattle.wcsp.specs.Entry.{Entry, cost}
use Rattle.wcsp.specs.Resolve.{Pair, next_pair, resolve}
use Rattle.wcsp.specs.Rebuild.{rebuilt, rebuilt_over, tail_weight}
use Rattle.wcsp.specs.Theorems.{Optimal, BestFrom}
use Rattle.wcsp.proofs.Bound.{steps_bounded, bound_fixed}
use Rattle.wcsp.proofs.Completeness.{optimality}
use Rattle.wcsp.proofs.Least.{best_from}
use Rattle.fields.specs.Limits.{forbidden_cost}
use Rattle.fields.specs.Entries.{FieldSizes}
use Rattle.fields.specs.Forbidden.{has_forbidden, AllForbidden, AllForbiddenFrom}
use Rattle.fields.proofs.Costs.{entries_costs}
use Rattle.fields.proofs.Forbidden.{forbidden_is_dear, least_forbids}
use Rattle.rows.specs.Raw.{max_weight}
use Rattle.table.specs.Form.{TableForm}
use Rattle.table.specs.Raws.{standard_form}
use Rattle.table.specs.Layout.{capacity, table_words_in, table_words}
use Rattle.table.specs.Meaning.{own_rows_in, own_rows}
use Rattle.table.specs.Valid.{valid_table_in}
use Rattle.table.proofs.Own.{Held}
use Rattle.stepping.specs.Step.{Stepping, refusing, steps_to, pair_word}
use Rattle.resolution.specs.Calls.{step_returns, step_call, run_call}
use Rattle.resolution.specs.Numbers.{step_number, step_fields, outcome_field, run_number}
use Rattle.checker.specs.Theorems.{Best}
use Rattle.checker.proofs.Encoded.{GoodEncoding, coded}
use Rattle.checker.proofs.Kept.{Takes, Keeps, keeps_below}
use Rattle.checker.proofs.Replaying.{Left, left_held}
use Rattle.checker.proofs.Claims.{coded_takes, encoded_left, replayed_ended, check_held}
use Rattle.calls.specs.Calls.{Call, in_place, after_calls, started, Derives}
use Rattle.calls.specs.LastFixed.{CompletesBest, CheckedCompletes}
use Rattle.calls.specs.Forbids.{ForbidsExactly, CheckedForbids}
use Rattle.calls.specs.Demand.{StepGives, RunEnds, none_left, limit_met, no_room, Kept, Upheld, UpheldFrom, Demand3InPlace}
use Rattle.calls.proofs.Reaching.{derives_steps, derives_keeps, reaches_derives, reaches_left}
use Rattle.calls.proofs.Held.{held_rows, held_run, plan_short, plan_early, plan_heavy, plan_written, complete_written}
use Rattle.calls.proofs.Moving.{step_done, step_left, ran, ran_runs, run_table, moved_left, moved_held, reached}

-- ---- what a run's ending says of its number and its field

ends_number : {ds : List ℕ} {cap most n a b : ℕ} {rs : List Row} → RunEnds ds cap most n rs a b → (a ≡ 0) ⊎ (a ≡ 12)
ends_number (none_left e) = inl refl
ends_number (limit_met l pr e) = inl refl
ends_number (no_room l pr e f) = inr refl

ends_done : {ds : List ℕ} {cap most n a b : ℕ} {rs : List Row} → RunEnds ds cap most n rs a b → (b ≡ 0) ↔ (next_pair ds rs ≡ none)
ends_done (none_left e) = (λ z. e, λ z. refl)
ends_done (limit_met l pr e) = (λ (z : ◌≡◌ {A = ℕ} 1 0). absurd (omega arith), λ f. absurd (let z : ◌≡◌ {A = ℕ} 0 1 = cc in omega arith))
ends_done (no_room l pr e f) = (λ (z : ◌≡◌ {A = ℕ} 2 0). absurd (omega arith), λ g. absurd (let z : ◌≡◌ {A = ℕ} 0 1 = cc in omega arith))

-- a step call's number, fields and table, from what it returns
gives : (t : List ℕ) (s : Option Stepping) → step_call t ≡ step_returns t s
    → StepGives t (step_number (step_returns t s).answer) (step_fields (step_returns t s).answer) (step_returns t s).table
gives t s e = (ap (λ r. step_number r.answer) e, ap (λ r. step_fields r.answer) e, ap (λ r. r.table) e)

-- a step call that found a pair did not answer done
not_done : (t : List ℕ) (b : Bool) (pr : Pair) (rs : List Row)
    → step_fields (step_returns t (some (cond b (refusing 12) (steps_to pr rs)))).answer ≡ 1 ∷ (0 ∷ []) → ⊥
unfolding step_returns step_fields
not_done t true pr rs e = let z : ◌≡◌ {A = ℕ} 0 1 = ap first e in omega arith
  where
    first : List ℕ → ℕ
    first [] = 0
    first (x ∷ xs) = x
not_done t false pr rs e = let z : ◌≡◌ {A = ℕ} 0 1 = ap first e in omega arith
  where
    first : List ℕ → ℕ
    first [] = 0
    first (x ∷ xs) = x

-- ---- of a table of either form

module _ {ds : List ℕ} {es : List Entry} where
  pub kept_rows : (f : TableForm) {from : List Row} {t' ws : List ℕ} → Keeps ds es from → valid_table_in f t' ≡ true
      → t' ≡ table_words_in f (length t') ds (own_rows_in f t') → Derives ds from ws (own_rows_in f t') → Kept f ds es from t' ws
  kept_rows f {from} {t'} {ws} first v e d =
      let k = derives_keeps first d in
      record {
        valid = v;
        words = e;
        derived = d;
        conserved = k.weights;
        below = keeps_below k;
        bounded = steps_bounded ds from (own_rows_in f t') (length ws) first.valid (derives_steps d);
        fixed = bound_fixed ds es from first.weights;
      }

  -- with no pair left
  pub best_rows : {rs : List Row} → FieldSizes ds → Keeps ds es rs → next_pair ds rs ≡ none → Best ds es (rebuilt ds rs) (empty_weight (length ds) rs)
  best_rows {rs} s k e =
      let o : Optimal ds rs = optimality ds rs s.positive k.valid e in
      record { in_range = o.in_range; attained = sym (k.weights (rebuilt ds rs) o.in_range) ∙ o.attained; least = keeps_below k }

-- ---- of a table of six-word rows

module _ {len : ℕ} {ds : List ℕ} {es : List Entry} (a : Takes len ds es) where
  abbrev cap : ℕ
  cap = capacity len (length ds)

  module _ {t' : List ℕ} {rs : List Row} (l : Left ds es cap rs) (h : Held t' len ds rs) where
    -- ---- with no pair left

    best : next_pair ds rs ≡ none → Best ds es (rebuilt ds rs) (empty_weight (length ds) rs)
    best e = best_rows a.sizes l.keeps e

    completions_best : next_pair ds rs ≡ none → (k : ℕ) (fixed : List ℕ) → k ≤ length ds → InRange (drop k ds) fixed
        → BestFrom ds es k fixed (rebuilt_over ds rs k fixed) (tail_weight k fixed rs)
    completions_best e = best_from ds es rs a.sizes.positive l.keeps.valid e l.keeps.weights

    pub completed_rows : CompletesBest ds es t'
    completed_rows = rw h.rows (λ k fixed target room low r e.
        let best = completions_best e k fixed low r in
        let light : tail_weight k fixed rs ≤ max_weight = omega (arith, best.attained, entries_costs a.entries (rebuilt_over ds rs k fixed)) in
        (complete_written h k fixed target room low r e light, best))

    -- by the rebuilt assignment, whose cost is the empty row's weight, and by what no cost is below
    heavy_all : next_pair ds rs ≡ none → (forbidden_cost ≤ empty_weight (length ds) rs) ↔ AllForbidden ds es
    heavy_all e =
        let b = best e in
        least_forbids a.entries (InRange ds) (empty_weight (length ds) rs) (rebuilt ds rs) b.in_range b.attained b.least

    light_free : next_pair ds rs ≡ none → empty_weight (length ds) rs < forbidden_cost → has_forbidden es (rebuilt ds rs) ≡ false
    light_free e w = sym (forbidden_is_dear ds 0 es a.entries (rebuilt ds rs)) ∙ lt-leb forbidden_cost (cost es (rebuilt ds rs)) (omega (arith, (best e).attained))

    heavy_completions : next_pair ds rs ≡ none → (k : ℕ) (fixed : List ℕ) → k ≤ length ds → InRange (drop k ds) fixed
        → (forbidden_cost ≤ tail_weight k fixed rs) ↔ AllForbiddenFrom ds es k fixed
    heavy_completions e k fixed low r =
        let b = completions_best e k fixed low r in
        let f = least_forbids a.entries (λ p. InRange ds p × (drop k p ≡ fixed)) (tail_weight k fixed rs) (rebuilt_over ds rs k fixed)
        (b.in_range, b.agrees) b.attained (λ p q. b.least p q.0 q.1) in
        (λ w p i d. f.0 w p (i, d), λ (all : AllForbiddenFrom ds es k fixed). f.1 (λ p q. all p q.0 q.1))

    -- by what the comparisons say and not by how they are spelt, so that another comparison in the statement fails at the weight where it is wrong
    pub forbidden_rows : next_pair ds rs ≡ none → ForbidsExactly ds es t'
    forbidden_rows e =
        record {
          exactly = rw h.rows (λ w. (heavy_all e).0 (omega (arith, w)), λ all. omega (arith, (heavy_all e).1 all));
          free = rw h.rows (λ w. light_free e (omega (arith, w)));
          completing =
              rw h.rows (λ k fixed low r. (
                λ w. (heavy_completions e k fixed low r).0 (omega (arith, w)),
                λ all. omega (arith, (heavy_completions e k fixed low r).1 all),
              ));
        }

    -- ---- further calls

    step_made : (pr : Pair) → next_pair ds rs ≡ some pr → length (resolve ds pr rs) ≤ cap
        → StepGives t' 0 (0 ∷ (pair_word pr ∷ [])) (table_words len ds (resolve ds pr rs))
    unfolding step_returns step_number step_fields
    step_made pr e f =
        let rs' = resolve ds pr rs in
        let g = rw (le-ltb cap (length rs') f) at (step_left a l h pr e) in
        let (x, y, z) = gives t' (some (steps_to pr rs')) g in
        (x, y, z ∙ held_rows h rs')

    step-full : (pr : Pair) → next_pair ds rs ≡ some pr → cap < length (resolve ds pr rs) → StepGives t' 12 (0 ∷ (0 ∷ [])) t'
    unfolding step_returns step_number step_fields
    step-full pr e f = gives t' (some (refusing 12)) (rw (lt-ltb cap (length (resolve ds pr rs)) f) at (step_left a l h pr e))

    step-none : next_pair ds rs ≡ none → StepGives t' 0 (1 ∷ (0 ∷ [])) t'
    unfolding step_returns step_number step_fields
    step-none e = gives t' none (step_done a l h e)

    done_only : step_fields (step_call t').answer ≡ 1 ∷ (0 ∷ []) → next_pair ds rs ≡ none
    done_only e = go (next_pair ds rs) refl
      where
        go : (o : Option Pair) → next_pair ds rs ≡ o → o ≡ none
        go none f = refl
        go (some pr) f =
            absurd
            (not_done t' (ltb cap (length (resolve ds pr rs))) pr (resolve ds pr rs)
            (sym (ap (λ r. step_fields r.answer) (step_left a l h pr f)) ∙ e))

    module _ (limit : ℕ) (slice : List ℕ) where
      after_run : own_rows (run_call t' limit slice).table ≡ (ran len ds rs limit slice).rows
      after_run = (left_held a (reaches_left l (ran_runs a l h limit slice).reaches) (run_table a l h limit slice)).rows

      run_ends : let r = run_call t' limit slice in
          RunEnds ds cap (min limit (length slice)) r.answer.steps (own_rows r.table) (run_number r.answer) (outcome_field r.answer.outcome)
      run_ends =
          let r = ran_runs a l h limit slice in
          let n : length (ran len ds rs limit slice).made ≡ length r.words = ap length r.made in
          rw (after_run, held_run h limit slice, n) r.ends

      run_bound : let r = run_call t' limit slice in r.answer.bound ≡ empty_weight (length ds) (own_rows r.table)
      run_bound = rw (after_run, held_run h limit slice)

      run_done : let r = run_call t' limit slice in (outcome_field r.answer.outcome ≡ 0) ↔ (next_pair ds (own_rows r.table) ≡ none)
      run_done = rw (after_run, held_run h limit slice) (ends_done (ran_runs a l h limit slice).ends)

      run_numbers : let k = run_number (run_call t' limit slice).answer in (k ≡ 0) ⊎ (k ≡ 12)
      run_numbers = rw (held_run h limit slice) (ends_number (ran_runs a l h limit slice).ends)

    pub upheld : {from : List Row} {ws : List ℕ} → Keeps ds es from → Derives ds from ws rs → Upheld ds es from t' ws
    upheld first d =
        record {
          kept = kept_rows standard_form first h.valid (rw (h.long, h.rows) h.words) (rw h.rows d);
          step_made = rw (h.long, h.rows) (step_made);
          step_full = rw (h.long, h.rows) (step-full);
          step_done = rw h.rows (step-none);
          done_only = rw h.rows (done_only);
          run = rw h.long (run_ends);
          run_bound = run_bound;
          run_done = run_done;
          run_numbers = run_numbers;
          plan_short = plan_short h;
          plan_early = rw h.rows (plan_early h);
          plan_forbidden = rw h.rows (plan_heavy h);
          plan_written = rw h.rows (plan_written h);
          best = rw h.rows (best);
          completed = completed_rows;
          forbidden = rw h.rows (forbidden_rows);
        }

pub demand_rows : (inst t : List ℕ) → GoodEncoding inst t → (calls : List Call) → in_place calls ≡ true
    → let st = after_calls (started inst t) calls in
    UpheldFrom inst t st.table st.derivation
demand_rows inst t c calls e =
    let a = coded_takes inst t c in
    let first = encoded_left inst t c in
    let m = reached inst t c calls e in
    let h = moved_held a first m in
    (h.long, upheld a (moved_left a first m) h first.keeps (reaches_derives m.reaches))

pub demand3_in_place : Demand3InPlace
demand3_in_place inst t calls e p = demand_rows inst t (coded inst t e) calls p

-- ---- the table that the checker leaves

pub checked_completes : CheckedCompletes
checked_completes inst derivation plan claimed t e =
    let c = coded inst t e in
    completed_rows (coded_takes inst t c) (replayed_ended inst t c derivation).left (check_held inst derivation plan claimed t e)

pub checked_forbids : CheckedForbids
checked_forbids inst derivation plan claimed t e =
    let c = coded inst t e in
    let held = check_held inst derivation plan claimed t e in
    rw held.rows (forbidden_rows (coded_takes inst t c) (replayed_ended inst t c derivation).left held)
