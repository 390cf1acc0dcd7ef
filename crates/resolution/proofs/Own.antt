-- A step and a run on twelve signs are those on the table's own variables, widened: so they leave the same words and answer the same.
use Prim.Native.Nat.{ℕ, zero, suc, ◌+◌}
use native.Mathlib.Omega.{arith}
use mathlib.Core.Path.{◌≡◌, refl, sym, ap, ◌∙◌}
use mathlib.Core.Bool.{true}
use mathlib.Core.List.{List, [], ◌∷◌, ◌++◌}
use mathlib.Core.Option.{Option, none, some}
use lib.ListN.{length, drop}
use Rattle.wcsp.specs.Row.{Row, empty_weight, ValidRows}
use Rattle.wcsp.specs.Resolve.{Pair, next_pair, resolve}
use Rattle.wcsp.specs.Widening.{widened, wide_rows}
use Rattle.wcsp.proofs.NextPair.{next-permitted}
use Rattle.wcsp.proofs.Validity.{step_valid}
use Rattle.wcsp.proofs.Widening.{widening}
use Rattle.wcsp.proofs.WideningRows.{empty_wide}
use Rattle.fields.specs.Limits.{max_variables}
use Rattle.fields.specs.Padding.{padded, lacking}
use Rattle.table.specs.Meaning.{variables_of, table_sizes, table_rows, own_rows, domains, capacity_of}
use Rattle.table.specs.Valid.{valid_table}
use Rattle.table.proofs.Own.{valid_is_canonical, words_wide, no_sign_behind, own_valid}
use Rattle.table.proofs.Finishing.{valid_variables}
use Rattle.stepping.specs.Step.{Stepping, refusing, steps_to, allowed, pair_word}
use Rattle.stepping.proofs.Wide.{wide_stepping, allowed-wide}
use Rattle.stepping.proofs.Verdicts.{Verdict, refused, made, verdict}
use Rattle.resolution.specs.Outcomes.{Done, Refused}
use Rattle.resolution.specs.Answers.{Stepped}
use Rattle.resolution.specs.Step.{one_step}
use Rattle.resolution.specs.Run.{Ran, after, at_limit, run_rows}
use Rattle.resolution.specs.Calls.{step_returns, run_returns}
use Rattle.resolution.specs.Twelve.{run_twelve}
use Rattle.resolution.proofs.Stepped.{no_step, next-step}

-- what a step and a run come to, with their rows widened
wide_step : ℕ → Option Stepping → Option Stepping
wide_step k none = none
wide_step k (some s) = some (wide_stepping k s)

abbrev wide_ran : ℕ → Ran → Ran
wide_ran k r = record { outcome = r.outcome; rows = wide_rows k r.rows; made = r.made }

module _ (k cap : ℕ) (ds : List ℕ) where
  module _ (rs : List Row) (v : ValidRows ds rs) where
    next_pair_lem : next_pair (widened k ds) (wide_rows k rs) ≡ next_pair ds rs
    next_pair_lem = (widening k ds rs v).next

    resolved : (pr : Pair) → next_pair ds rs ≡ some pr → resolve (widened k ds) pr (wide_rows k rs) ≡ wide_rows k (resolve ds pr rs)
    resolved pr e = (widening k ds rs v).resolved pr (next-permitted ds rs pr e)

    step-wide : one_step (widened k ds) cap (wide_rows k rs) ≡ wide_step k (one_step ds cap rs)
    unfolding wide_step
    step-wide = go (next_pair ds rs) refl
      where
        go : (o : Option Pair) → next_pair ds rs ≡ o → one_step (widened k ds) cap (wide_rows k rs) ≡ wide_step k (one_step ds cap rs)
        go none e = no_step (widened k ds) cap (wide_rows k rs) (next_pair_lem ∙ e) ∙ ap (wide_step k) (sym (no_step ds cap rs e))
        go (some pr) e =
            next-step (widened k ds) cap (wide_rows k rs) pr (next_pair_lem ∙ e)
            ∙ ap (λ q. some (allowed cap pr q)) (resolved pr e)
            ∙ ap some (allowed-wide k cap pr (resolve ds pr rs))
            ∙ ap (wide_step k) (sym (next-step ds cap rs pr e))

  run_wide : (m : ℕ) (rs : List Row) (words : List ℕ) → ValidRows ds rs → run_rows (widened k ds) cap m (wide_rows k rs) words ≡ wide_ran k (run_rows ds cap m rs words)
  unfolding run_rows after at_limit wide_step wide_stepping
  run_wide zero rs words v = rw (next_pair_lem rs v) (go (next_pair ds rs))
    where
      go : (o : Option Pair) → at_limit (wide_rows k rs) words o ≡ wide_ran k (at_limit rs words o)
      go none = refl
      go (some pr) = refl
  run_wide (suc m) rs words v = rw (step-wide rs v) (go (next_pair ds rs) refl (λ rs' later w. run_wide m rs' later w))
    where
      wide_next : Option Stepping → Ran
      wide_next =
          after (record { outcome = Done; rows = wide_rows k rs; made = words })
          (λ number. record { outcome = Refused number; rows = wide_rows k rs; made = words })
          (λ pr rs'. run_rows (widened k ds) cap m rs' (words ++ (pair_word pr ∷ [])))

      own_next : Option Stepping → Ran
      own_next =
          after (record { outcome = Done; rows = rs; made = words })
          (λ number. record { outcome = Refused number; rows = rs; made = words })
          (λ pr rs'. run_rows ds cap m rs' (words ++ (pair_word pr ∷ [])))

      Later : Type 0
      Later = (rs' : List Row) (later : List ℕ) → ValidRows ds rs'
          → run_rows (widened k ds) cap m (wide_rows k rs') later ≡ wide_ran k (run_rows ds cap m rs' later)

      stepped : (pr : Pair) → next_pair ds rs ≡ some pr → Later → (s : Stepping) → Verdict cap pr (resolve ds pr rs) s
          → wide_next (wide_step k (some s)) ≡ wide_ran k (own_next (some s))
      stepped pr e ih (refusing number) (refused n h) = refl
      stepped pr e ih (steps_to x y) (made h l) =
          ih (resolve ds pr rs) (words ++ (pair_word pr ∷ [])) (step_valid ds rs pr v (next-permitted ds rs pr e))

      go : (o : Option Pair) → next_pair ds rs ≡ o → Later → wide_next (wide_step k (one_step ds cap rs)) ≡ wide_ran k (own_next (one_step ds cap rs))
      go none e ih = rw (no_step ds cap rs e)
      go (some pr) e ih = rw (next-step ds cap rs pr e) (stepped pr e ih (allowed cap pr (resolve ds pr rs)) (verdict cap pr (resolve ds pr rs)))

-- ---- in a table

returns_wide : (t : List ℕ) (k : ℕ) (s : Option Stepping) → step_returns t (wide_step k s) ≡ step_returns t s
unfolding step_returns wide_step wide_stepping
returns_wide t k none = refl
returns_wide t k (some (refusing number)) = refl
returns_wide t k (some (steps_to pr rs)) = ap (λ u. record { answer = Stepped (pair_word pr); table = u }) (words_wide (length t) k (table_sizes t) rs)

module _ (t : List ℕ) (v : valid_table t ≡ true) where
  abbrev lacks : ℕ
  lacks = lacking (table_sizes t)

  pub step_own : step_returns t (one_step (domains t) (capacity_of t) (table_rows t)) ≡ step_returns t (one_step (table_sizes t) (capacity_of t) (own_rows t))
  unfolding domains padded
  step_own =
      rw (no_sign_behind t v, step-wide lacks (capacity_of t) (table_sizes t) (own_rows t) (own_valid t v))
      (returns_wide t lacks (one_step (table_sizes t) (capacity_of t) (own_rows t)))

  pub run_own : (most : ℕ) (slice : List ℕ)
      → run_twelve t most slice ≡ run_returns (variables_of t) t slice (run_rows (table_sizes t) (capacity_of t) most (own_rows t) [])
  unfolding domains padded
  run_own most slice =
      let ran = run_rows (table_sizes t) (capacity_of t) most (own_rows t) [] in
      let n = valid_variables t v in
      let few = (valid_is_canonical t v).holdable.few in
      let twelve : variables_of t + lacks ≡ max_variables = omega arith in
      let bound : empty_weight max_variables (wide_rows lacks ran.rows) ≡ empty_weight (variables_of t) ran.rows
      = rw twelve at (empty_wide lacks (variables_of t) ran.rows) in
      let table = words_wide (length t) lacks (table_sizes t) ran.rows in
      rw (no_sign_behind t v, run_wide lacks (capacity_of t) (table_sizes t) most (own_rows t) [] (own_valid t v))
      (λ i. record {
        answer = record { outcome = ran.outcome; steps = length ran.made; bound = bound i };
        table = table i;
        slice = ran.made ++ drop (length ran.made) slice;
      })
