-- Widened rows and trimmed ones, for valid rows: each question has the same answer, and the same steps lead on.
use Prim.Native.Nat.{ℕ, ◌<◌}
use native.Mathlib.Omega.{arith}
use mathlib.Core.Path.{◌≡◌, sym, subst, ap, ◌∙◌}
use mathlib.Core.List.{List, []}
use mathlib.Core.Option.{some}
use lib.ListN.{length}
use Rattle.wcsp.specs.Row.{Row, empty_weight}
use Rattle.wcsp.specs.Resolve.{Pair, next_pair, resolve, MayResolve, Steps, Replays}
use Rattle.wcsp.specs.Widening.{widened, wide_rows, trimmed, clauses_of, Spanning, Widens, Widening, Trimming, WideSteps, TrimmedSteps, WideReplays, TrimmedReplays}
use Rattle.wcsp.proofs.NextPair.{next_is_least}
use Rattle.wcsp.proofs.WideningRows.{length-wide, heavy-wide, empty_wide, falsified-wide, resolve-wide, spanning_resolve}
use Rattle.wcsp.proofs.WideningTables.{valid_spanning, wide_trims, trimmed_valid, trimmed_wide}
use Rattle.wcsp.proofs.WideningSearch.{widened-length, next-wide, may_wide, may_narrow}
use Rattle.wcsp.proofs.WideningRebuilt.{over_own}
use Rattle.wcsp.proofs.Tails.{tail_wide}

module _ (k : ℕ) (ds : List ℕ) where
  -- the step on a permitted pair, and that the clauses stay as long
  step-wide : (rs : List Row) → Spanning (length ds) (clauses_of rs) → (pr : Pair) → MayResolve ds rs pr
      → (resolve (widened k ds) pr (wide_rows k rs) ≡ wide_rows k (resolve ds pr rs)) × Spanning (length ds) (clauses_of (resolve ds pr rs))
  step-wide rs s pr m =
      let h : pr.first < length rs = omega (arith, m.ordered, m.in_table) in
      (resolve-wide k ds rs s pr h m.in_table, spanning_resolve ds rs s pr h m.in_table)

  as_wide : (own : List Row) → Spanning (length ds) (clauses_of own) → Widens k ds own (wide_rows k own)
  as_wide own s = record {
    count = length-wide k own;
    heavy_as = λ L. heavy-wide k L own;
    empty = ap (λ n. empty_weight n (wide_rows k own)) (widened-length k ds) ∙ empty_wide k (length ds) own;
    weights = λ p e. falsified-wide k p own (rw (← e) at s);
    next = next-wide k ds own s;
    may = λ pr. (may_narrow k ds own s pr, may_wide k ds own s pr);
    resolved = λ pr m. (step-wide own s pr m).0;
    own_resolved = λ pr m. ap (trimmed (length ds)) (step-wide own s pr m).0 ∙ trimmed_wide k (length ds) _ (step-wide own s pr m).1;
    own_completed = λ f q e. over_own k ds f q own s e;
    tail = λ f q e. tail_wide k f q own (rw (← e) at s);
  }

pub widening : Widening
widening k ds own v = as_wide k ds own (valid_spanning v)

pub trimming : Trimming
trimming k ds rows v =
    subst (λ t. Widens k ds (trimmed (length ds) rows) t) (sym (wide_trims k ds rows v))
    (widening k ds (trimmed (length ds) rows) (trimmed_valid k ds rows v))

-- ---- lists of steps

module _ (k : ℕ) (ds : List ℕ) where
  next_may : (rs : List Row) (pr : Pair) → next_pair ds rs ≡ some pr → MayResolve ds rs pr
  next_may rs pr e = ((next_is_least ds rs pr).0 e).is.pair

  steps_wide : {rs rs' : List Row} {m : ℕ} → Spanning (length ds) (clauses_of rs) → Steps ds rs m rs'
      → Steps (widened k ds) (wide_rows k rs) m (wide_rows k rs')
  steps_wide s Steps.stop = Steps.stop
  steps_wide {rs} {rs'} s (Steps.step {k = m} pr e t) =
      let (f, s') = step-wide k ds rs s pr (next_may rs pr e) in
      Steps.step pr (next-wide k ds rs s ∙ e)
      (subst (λ t. Steps (widened k ds) t m (wide_rows k rs')) (sym f) (steps_wide s' t))

  steps_trimmed : {rows rows' : List Row} {m : ℕ} (rs : List Row) → rows ≡ wide_rows k rs → Spanning (length ds) (clauses_of rs)
      → Steps (widened k ds) rows m rows' → Steps ds rs m (trimmed (length ds) rows')
  steps_trimmed rs q s Steps.stop =
      subst (λ t. Steps ds rs 0 t) (sym (ap (trimmed (length ds)) q ∙ trimmed_wide k (length ds) rs s)) Steps.stop
  steps_trimmed rs q s (Steps.step pr e t) =
      let n : next_pair ds rs ≡ some pr = sym (next-wide k ds rs s) ∙ ap (next_pair (widened k ds)) (sym q) ∙ e in
      let (f, s') = step-wide k ds rs s pr (next_may rs pr n) in
      Steps.step pr n (steps_trimmed (resolve ds pr rs) (ap (resolve (widened k ds) pr) q ∙ f) s' t)

  replays_wide : {rs rs' : List Row} {prs : List Pair} → Spanning (length ds) (clauses_of rs) → Replays ds rs prs rs'
      → Replays (widened k ds) (wide_rows k rs) prs (wide_rows k rs')
  replays_wide s Replays.stop = Replays.stop
  replays_wide {rs} {rs'} s (Replays.step {prs = prs} pr m t) =
      let (f, s') = step-wide k ds rs s pr m in
      Replays.step pr (may_wide k ds rs s pr m)
      (subst (λ t. Replays (widened k ds) t prs (wide_rows k rs')) (sym f) (replays_wide s' t))

  replays_trimmed : {rows rows' : List Row} {prs : List Pair} (rs : List Row) → rows ≡ wide_rows k rs
      → Spanning (length ds) (clauses_of rs) → Replays (widened k ds) rows prs rows' → Replays ds rs prs (trimmed (length ds) rows')
  replays_trimmed rs q s Replays.stop =
      subst (λ t. Replays ds rs [] t) (sym (ap (trimmed (length ds)) q ∙ trimmed_wide k (length ds) rs s)) Replays.stop
  replays_trimmed rs q s (Replays.step pr m t) =
      let n : MayResolve ds rs pr = may_narrow k ds rs s pr (subst (λ t. MayResolve (widened k ds) t pr) q m) in
      let (f, s') = step-wide k ds rs s pr n in
      Replays.step pr n (replays_trimmed (resolve ds pr rs) (ap (resolve (widened k ds) pr) q ∙ f) s' t)

pub wide_steps : WideSteps
wide_steps k ds own own' m v t = steps_wide k ds (valid_spanning v) t

pub trimmed_steps : TrimmedSteps
trimmed_steps k ds rows rows' m v t =
    steps_trimmed k ds (trimmed (length ds) rows) (wide_trims k ds rows v) (valid_spanning (trimmed_valid k ds rows v)) t

pub wide_replays : WideReplays
wide_replays k ds own own' prs v t = replays_wide k ds (valid_spanning v) t

pub trimmed_replays : TrimmedReplays
trimmed_replays k ds rows rows' prs v t =
    replays_trimmed k ds (trimmed (length ds) rows) (wide_trims k ds rows v) (valid_spanning (trimmed_valid k ds rows v)) t
