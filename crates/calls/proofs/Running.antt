-- A run on rows that keep sizes and entries: the words it makes are those of steps on the next pair whose rows fit, and it ends with no pair left,
-- at its limit, or short of its limit before a step that lacks room. By induction on the steps that it may still make.
use Prim.Native.Nat.{ℕ, zero, suc}
use native.Mathlib.Omega.{arith}
use mathlib.Core.Path.{◌≡◌, refl, sym, ap, ◌∙◌}
use mathlib.Core.Bool.{Bool, true, false, cond}
use mathlib.Core.List.{List, [], ◌∷◌, ◌++◌, append-nil, append_assoc}
use mathlib.Core.Option.{Option, none, some}
use lib.ListN.{length}
use lib.Dec.{ltb}
use borrow.Author.Tests.{ltb-true, ltb-false}
use Rattle.wcsp.specs.Row.{Row}
use Rattle.wcsp.specs.Entry.{Entry}
use Rattle.wcsp.specs.Resolve.{Pair, next_pair, resolve}
use Rattle.wcsp.proofs.NextPair.{next-permitted}
use Rattle.fields.specs.Entries.{Entries}
use Rattle.stepping.specs.Step.{Stepping, refusing, steps_to, pair_word}
use Rattle.resolution.specs.Step.{on_pair, one_step}
use Rattle.resolution.specs.Outcomes.{Done, Refused}
use Rattle.resolution.specs.Run.{Ran, after, at_limit, run_rows}
use Rattle.resolution.specs.Numbers.{outcome_number, outcome_field}
use Rattle.resolution.proofs.Stepped.{no_step}
use Rattle.checker.proofs.Replaying.{Left, allowed-room}
use Rattle.calls.specs.Demand.{RunEnds, none_left, limit_met, no_room}
use Rattle.calls.proofs.Reaching.{Reaches, still, onward, next_left}

pub record Runs (ds : List ℕ) (cap k : ℕ) (rs : List Row) (before : List ℕ) (ran : Ran) : Type 0 where
  pub words : List ℕ
  pub made : ran.made ≡ before ++ words
  pub reaches : Reaches ds cap rs words ran.rows
  pub ends : RunEnds ds cap k (length words) ran.rows (outcome_number ran.outcome) (outcome_field ran.outcome)

-- one step more in front
later : {ds : List ℕ} {cap k n a b : ℕ} {rs : List Row} → RunEnds ds cap k n rs a b → RunEnds ds cap (suc k) (suc n) rs a b
later (none_left x) = none_left x
later (limit_met l pr x) = limit_met (ap suc l) pr x
later (no_room l pr x f) = no_room (omega arith) pr x f

module _ {ds : List ℕ} {es : List Entry} (n : Entries ds 0 es) (cap : ℕ) where
  pub next-step : {rs : List Row} (pr : Pair) → Left ds es cap rs → next_pair ds rs ≡ some pr
      → one_step ds cap rs
      ≡ some (cond (ltb cap (length (resolve ds pr rs))) (refusing 12) (steps_to pr (resolve ds pr rs)))
  unfolding one_step on_pair
  next-step {rs} pr l e = rw e (ap some (allowed-room n cap l.keeps pr (next-permitted ds rs pr e)))

  pub run_runs : (k : ℕ) (rs : List Row) (before : List ℕ) → Left ds es cap rs
      → Runs ds cap k rs before (run_rows ds cap k rs before)
  unfolding run_rows after at_limit outcome_number outcome_field
  run_runs zero rs before l = go (next_pair ds rs) refl
    where
      go : (o : Option Pair) → next_pair ds rs ≡ o → Runs ds cap 0 rs before (at_limit rs before o)
      go none e = record { words = []; made = sym (append-nil before); reaches = still; ends = none_left e }
      go (some pr) e = record { words = []; made = sym (append-nil before); reaches = still; ends = limit_met refl pr e }
  run_runs (suc k) rs before l = go (next_pair ds rs) refl (λ rs' ws l'. run_runs k rs' ws l')
    where
      next : Option Stepping → Ran
      next =
          after (record { outcome = Done; rows = rs; made = before })
          (λ number. record { outcome = Refused number; rows = rs; made = before })
          (λ pr rs'. run_rows ds cap k rs' (before ++ (pair_word pr ∷ [])))

      Later : Type 0
      Later = (rs' : List Row) (ws : List ℕ) → Left ds es cap rs' → Runs ds cap k rs' ws (run_rows ds cap k rs' ws)

      room : (pr : Pair) → next_pair ds rs ≡ some pr → (b : Bool) → ltb cap (length (resolve ds pr rs)) ≡ b → Later
          → Runs ds cap (suc k) rs before (next (some (cond b (refusing 12) (steps_to pr (resolve ds pr rs)))))
      room pr e true f ih =
          record {
            words = [];
            made = sym (append-nil before);
            reaches = still;
            ends = no_room (omega arith) pr e (ltb-true cap (length (resolve ds pr rs)) f);
          }
      room pr e false f ih =
          let fits = ltb-false cap (length (resolve ds pr rs)) f in
          let r = ih (resolve ds pr rs) (before ++ (pair_word pr ∷ [])) (next_left pr l e fits) in
          record {
            words = pair_word pr ∷ r.words;
            made = r.made ∙ append_assoc before (pair_word pr ∷ []) r.words;
            reaches = onward pr e fits r.reaches;
            ends = later r.ends;
          }

      go : (o : Option Pair) → next_pair ds rs ≡ o → Later → Runs ds cap (suc k) rs before (next (one_step ds cap rs))
      go none e ih =
          rw (no_step ds cap rs e) (record { words = []; made = sym (append-nil before); reaches = still; ends = none_left e })
      go (some pr) e ih = rw (next-step pr l e) (room pr e (ltb cap (length (resolve ds pr rs))) refl ih)
