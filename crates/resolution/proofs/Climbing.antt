-- Along a run the words name the lowest unsettled variable, which never falls. By induction on the steps that the run may still make.
use Prim.Native.Nat.{ℕ, zero, suc, ◌≤◌, min}
use native.Mathlib.Omega.{arith}
use mathlib.Core.Path.{◌≡◌, refl, sym, ap, ◌∙◌}
use mathlib.Core.Bool.{true}
use mathlib.Core.List.{List, [], ◌∷◌, ◌++◌, append-nil, append_assoc}
use mathlib.Core.Option.{Option, none, some}
use lib.ListN.{length}
use Rattle.wcsp.specs.Row.{Row, ValidRows}
use Rattle.wcsp.specs.Resolve.{Pair, next_pair, resolve}
use Rattle.wcsp.proofs.NextPair.{next-permitted}
use Rattle.wcsp.proofs.Validity.{step_valid}
use Rattle.wcsp.proofs.Unsettled.{on_it, never_falls}
use Rattle.fields.specs.Limits.{max_variables}
use Rattle.table.specs.Raws.{standard_form}
use Rattle.table.specs.Layout.{max_rows}
use Rattle.table.specs.Meaning.{variables_of, table_sizes, own_rows, capacity_of}
use Rattle.table.specs.Valid.{valid_table}
use Rattle.table.proofs.FormTables.{capacity_small}
use Rattle.table.proofs.Own.{valid_is_canonical}
use Rattle.table.proofs.Finishing.{valid_variables}
use Rattle.stepping.specs.Step.{Stepping, refusing, steps_to, allowed, pair_word}
use Rattle.stepping.proofs.Named.{next_named}
use Rattle.stepping.proofs.Verdicts.{Verdict, refused, made, verdict}
use Rattle.resolution.specs.Outcomes.{Done, Refused}
use Rattle.resolution.specs.Step.{one_step}
use Rattle.resolution.specs.Run.{Ran, after, at_limit, run_rows}
use Rattle.resolution.specs.Climbing.{Climbs, RunsClimb}
use Rattle.resolution.proofs.Stepped.{no_step, next-step}

-- what a run makes after the words before it
record Climbing (ds : List ℕ) (rs : List Row) (before : List ℕ) (ran : Ran) : Type 0 where
  words : List ℕ
  told : ran.made ≡ before ++ words
  climbs : Climbs ds rs words ran.rows

module _ (ds : List ℕ) (few : length ds ≤ max_variables) (cap : ℕ) (small : cap ≤ max_rows) where
  run_climbs : (k : ℕ) (rs : List Row) (before : List ℕ) → ValidRows ds rs → length rs ≤ cap → Climbing ds rs before (run_rows ds cap k rs before)
  unfolding run_rows after at_limit
  run_climbs zero rs before v f = go (next_pair ds rs)
    where
      go : (o : Option Pair) → Climbing ds rs before (at_limit rs before o)
      go none = record { words = []; told = sym (append-nil before); climbs = Climbs.stop }
      go (some pr) = record { words = []; told = sym (append-nil before); climbs = Climbs.stop }
  run_climbs (suc k) rs before v f = go (next_pair ds rs) refl (λ rs' ws v' f'. run_climbs k rs' ws v' f')
    where
      next : Option Stepping → Ran
      next =
          after (record { outcome = Done; rows = rs; made = before })
          (λ number. record { outcome = Refused number; rows = rs; made = before })
          (λ pr rs'. run_rows ds cap k rs' (before ++ (pair_word pr ∷ [])))

      Later : Type 0
      Later = (rs' : List Row) (ws : List ℕ) → ValidRows ds rs' → length rs' ≤ cap → Climbing ds rs' ws (run_rows ds cap k rs' ws)

      judged : (pr : Pair) → next_pair ds rs ≡ some pr → Later → (s : Stepping) → Verdict cap pr (resolve ds pr rs) s → Climbing ds rs before (next (some s))
      judged pr e ih (refusing number) (refused n h) = record { words = []; told = sym (append-nil before); climbs = Climbs.stop }
      judged pr e ih (steps_to x y) (made h l) =
          let r = ih (resolve ds pr rs) (before ++ (pair_word pr ∷ [])) (step_valid ds rs pr v (next-permitted ds rs pr e)) l in
          record {
            words = pair_word pr ∷ r.words;
            told = r.told ∙ append_assoc before (pair_word pr ∷ []) r.words;
            climbs = Climbs.step pr e
                (ap (λ p. p.variable) (next_named ds few rs (omega arith) pr e).1 ∙ on_it ds rs pr e)
                (never_falls ds rs pr v e)
                r.climbs;
          }

      go : (o : Option Pair) → next_pair ds rs ≡ o → Later → Climbing ds rs before (next (one_step ds cap rs))
      go none e ih = rw (no_step ds cap rs e) (record { words = []; told = sym (append-nil before); climbs = Climbs.stop })
      go (some pr) e ih = rw (next-step ds cap rs pr e) (judged pr e ih (allowed cap pr (resolve ds pr rs)) (verdict cap pr (resolve ds pr rs)))

-- a table's rows fit in it
room : (t : List ℕ) → valid_table t ≡ true → length (own_rows t) ≤ capacity_of t
room t v = let n = valid_variables t v in rw n at (valid_is_canonical t v).holdable.fits

pub runs_climb : RunsClimb
runs_climb t limit slice v =
    let h = (valid_is_canonical t v).holdable in
    let c = run_climbs (table_sizes t) h.few (capacity_of t) (capacity_small standard_form (length t) (variables_of t)) (min limit (length slice)) (own_rows t) [] h.valid (room t v) in
    rw c.told c.climbs
