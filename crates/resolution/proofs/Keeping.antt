-- On every valid table the step call and the run leave a valid one: a refusal changes nothing, and the rows of a step that is made fit.
use Prim.Native.Nat.{ℕ, zero, suc, min}
use mathlib.Core.Path.{◌≡◌, refl, sym, ap, ◌∙◌}
use mathlib.Core.Bool.{true}
use mathlib.Core.List.{List, [], ◌∷◌, ◌++◌}
use mathlib.Core.Option.{Option, none, some}
use lib.ListN.{length}
use Rattle.wcsp.specs.Row.{Row}
use Rattle.wcsp.specs.Resolve.{Pair, next_pair, resolve}
use Rattle.stepping.proofs.Verdicts.{Verdict, refused, made, verdict}
use Rattle.table.specs.Meaning.{table_rows, domains, capacity_of}
use Rattle.table.specs.Valid.{valid_table}
use Rattle.table.proofs.Canonical.{twelve_is_canonical}
use Rattle.stepping.specs.Step.{Stepping, refusing, steps_to, allowed, pair_word, with_rows}
use Rattle.stepping.proofs.Following.{Following, following}
use Rattle.resolution.specs.Step.{one_step}
use Rattle.resolution.specs.Outcomes.{Done, Refused}
use Rattle.resolution.specs.Run.{after, at_limit, run_rows}
use Rattle.resolution.specs.Calls.{step_returns, step_call, run_call}
use Rattle.resolution.specs.Theorems.{StepsKeepValid, RunsKeepValid}
use Rattle.resolution.proofs.Stepped.{no_step, next-step}
use Rattle.resolution.proofs.Own.{step_own, run_own}
use Rattle.resolution.proofs.Single.{permitted}

-- what one step on a valid table's rows comes to
data Comes (t : List ℕ) : Option Stepping → Type 0 where
  none_left : Comes t none
  refusal : (k : ℕ) → Comes t (some (refusing k))
  onward : (pr : Pair) (rs : List Row) → Following t (with_rows t rs) rs → Comes t (some (steps_to pr rs))

module _ (t : List ℕ) (v : valid_table t ≡ true) where
  comes : Comes t (one_step (domains t) (capacity_of t) (table_rows t))
  comes = go (next_pair (domains t) (table_rows t)) refl
    where
      judged : (pr : Pair) → next_pair (domains t) (table_rows t) ≡ some pr → (s : Stepping)
          → allowed (capacity_of t) pr (resolve (domains t) pr (table_rows t)) ≡ s
          → Verdict (capacity_of t) pr (resolve (domains t) pr (table_rows t)) s → Comes t (some s)
      judged pr next (refusing k) e (refused k' h) = refusal k
      judged pr next (steps_to x y) e (made h l) =
          onward pr (resolve (domains t) pr (table_rows t))
          (following t v pr (permitted t v pr next) _ _ (record { is = e; light = h; fits = l; counted = refl; table = refl }))

      go : (o : Option Pair) → next_pair (domains t) (table_rows t) ≡ o → Comes t (one_step (domains t) (capacity_of t) (table_rows t))
      go none e = rw (no_step (domains t) (capacity_of t) (table_rows t) e) none_left
      go (some pr) e = rw (next-step (domains t) (capacity_of t) (table_rows t) pr e) (judged pr e _ refl (verdict _ _ _))

  -- the table with its own rows written anew
  rewritten : valid_table (with_rows t (table_rows t)) ≡ true
  rewritten = rw (← (twelve_is_canonical t v).words) v

pub steps_keep_valid : StepsKeepValid
unfolding step_call step_returns
steps_keep_valid t v = rw (v, ← step_own t v) (go _ (comes t v))
  where
    go : (s : Option Stepping) → Comes t s → valid_table (step_returns t s).table ≡ true
    go none none_left = v
    go (some (refusing k)) (refusal k') = v
    go (some (steps_to pr rs)) (onward pr' rs' f) = f.valid

-- a run of up to k steps on a valid table's rows
run_keeps : (k : ℕ) (t : List ℕ) → valid_table t ≡ true → (words : List ℕ)
    → valid_table (with_rows t (run_rows (domains t) (capacity_of t) k (table_rows t) words).rows) ≡ true
unfolding run_rows after at_limit
run_keeps zero t v words = go (next_pair (domains t) (table_rows t))
  where
    go : (o : Option Pair) → valid_table (with_rows t (at_limit (table_rows t) words o).rows) ≡ true
    go none = rewritten t v
    go (some pr) = rewritten t v
run_keeps (suc k) t v words = go _ (comes t v) (run_keeps k)
  where
    go : (s : Option Stepping) → Comes t s
        → ((t' : List ℕ) → valid_table t' ≡ true → (words : List ℕ)
        → valid_table (with_rows t' (run_rows (domains t') (capacity_of t') k (table_rows t') words).rows) ≡ true)
        → valid_table (with_rows t (after (record { outcome = Done; rows = table_rows t; made = words })
        (λ number. record { outcome = Refused number; rows = table_rows t; made = words })
        (λ pr rs'. run_rows (domains t) (capacity_of t) k rs' (words ++ (pair_word pr ∷ []))) s).rows) ≡ true
    go none none_left later = rewritten t v
    go (some (refusing n)) (refusal n') later = rewritten t v
    go (some (steps_to pr rs)) (onward pr' rs' f) later =
        let d = f.domained in
        let c = f.capacious in
        let r = f.rows in
        let l = f.long in
        let s = f.sizes in
        rw (d, c, r, l, s) at (later (with_rows t rs) f.valid (words ++ (pair_word pr ∷ [])))

pub runs_keep_valid : RunsKeepValid
unfolding run_call
runs_keep_valid t limit slice v =
    let most = min limit (length slice) in
    rw v (sym (ap (λ r. valid_table r.table) (run_own t v most slice)) ∙ run_keeps most t v [])
