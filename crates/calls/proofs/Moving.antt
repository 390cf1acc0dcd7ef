-- The invariant of a list of calls without a conversion: the slice holds rows that the first rows reach by the derivation's words, each step on the
-- next pair and with room. A step call and a run go on by words of the same kind; a plan call leaves all as it is.
use Prim.Native.Nat.{ℕ, min}
use mathlib.Core.Path.{◌≡◌, refl, ◌∙◌}
use mathlib.Core.Bool.{Bool, true, false, cond, false≢true}
use mathlib.Core.List.{List, [], ◌∷◌, ◌++◌}
use mathlib.Core.Option.{Option, none, some}
use lib.ListN.{length, take, drop}
use lib.Seq.{take-append_seam}
use lib.Dec.{ltb}
use borrow.Author.Tests.{ltb-false}
use Rattle.wcsp.specs.Row.{Row}
use Rattle.wcsp.specs.Entry.{Entry}
use Rattle.wcsp.specs.Resolve.{Pair, next_pair, resolve}
use Rattle.input.specs.Instance.{sizes_of}
use Rattle.table.specs.Layout.{capacity, table_words}
use Rattle.table.proofs.Own.{Held}
use Rattle.encoding.specs.Calls.{encoded_rows}
use Rattle.stepping.specs.Step.{refusing, steps_to}
use Rattle.resolution.specs.Run.{Ran, run_rows}
use Rattle.resolution.specs.Calls.{step_returns, step_call, run_call}
use Rattle.resolution.proofs.Stepped.{no_step}
use Rattle.checker.proofs.Encoded.{GoodEncoding, coded, coded_table}
use Rattle.checker.proofs.Kept.{Takes}
use Rattle.checker.proofs.Replaying.{Left, left_held}
use Rattle.checker.proofs.Claims.{coded_takes, encoded_left}
use Rattle.calls.specs.Calls.{Call, step_asked, run_asked, plan_asked, six_asked, five_asked, State, words_of_step, after_call, after_calls, in_place, started}
use Rattle.calls.specs.Demand.{EncodesExactly}
use Rattle.calls.proofs.Reaching.{Reaches, still, onward, reaches_append, reaches_left}
use Rattle.calls.proofs.Held.{held_rows, held_step, held_run}
use Rattle.calls.proofs.Running.{Runs, run_runs, next-step}

pub encodes_exactly : EncodesExactly
encodes_exactly inst t e = coded_table inst t (coded inst t e)

-- a slice of this length with the rows that steps with these words make of rs
pub record Moved (len : ℕ) (ds : List ℕ) (rs : List Row) (t' ws : List ℕ) : Type 0 where
  pub rows : List Row
  pub table : t' ≡ table_words len ds rows
  pub reaches : Reaches ds (capacity len (length ds)) rs ws rows

-- the run that a run call with this limit and this slice makes
abbrev pub ran : ℕ → List ℕ → List Row → ℕ → List ℕ → Ran
ran len ds rs limit slice = run_rows ds (capacity len (length ds)) (min limit (length slice)) rs []

-- steps on from what was reached
moved_on : {len : ℕ} {ds t' t'' ws vs : List ℕ} {rs : List Row} (m : Moved len ds rs t' ws) → Moved len ds m.rows t'' vs
    → Moved len ds rs t'' (ws ++ vs)
moved_on m n = record { rows = n.rows; table = n.table; reaches = reaches_append m.reaches n.reaches }

module _ {len : ℕ} {ds : List ℕ} {es : List Entry} (a : Takes len ds es) where
  abbrev cap : ℕ
  cap = capacity len (length ds)

  module _ {t' : List ℕ} {rs : List Row} (l : Left ds es cap rs) (h : Held t' len ds rs) where
    -- ---- a step call

    pub step_done : next_pair ds rs ≡ none → step_call t' ≡ step_returns t' none
    step_done e = rw (held_step h, no_step ds cap rs e)

    pub step_left : (pr : Pair) → next_pair ds rs ≡ some pr
        → step_call t' ≡ step_returns t' (some (cond (ltb cap (length (resolve ds pr rs))) (refusing 12) (steps_to pr (resolve ds pr rs))))
    step_left pr e = rw (held_step h, next-step a.entries cap pr l e)

    pub step_moved : Moved len ds rs (step_call t').table (words_of_step (step_call t').answer)
    unfolding step_returns words_of_step
    step_moved = go (next_pair ds rs) refl
      where
        fitting : (pr : Pair) → next_pair ds rs ≡ some pr → (b : Bool) → ltb cap (length (resolve ds pr rs)) ≡ b
            → Moved len ds rs (step_returns t' (some (cond b (refusing 12) (steps_to pr (resolve ds pr rs))))).table
            (words_of_step (step_returns t' (some (cond b (refusing 12) (steps_to pr (resolve ds pr rs))))).answer)
        fitting pr e true f = record { rows = rs; table = h.words; reaches = still }
        fitting pr e false f =
            let rs' = resolve ds pr rs in
            record { rows = rs'; table = held_rows h rs'; reaches = onward pr e (ltb-false cap (length rs') f) still }

        go : (o : Option Pair) → next_pair ds rs ≡ o → Moved len ds rs (step_call t').table (words_of_step (step_call t').answer)
        go none e = rw (step_done e) (record { rows = rs; table = h.words; reaches = still })
        go (some pr) e = rw (step_left pr e) (fitting pr e (ltb cap (length (resolve ds pr rs))) refl)

    -- ---- a run

    module _ (limit : ℕ) (slice : List ℕ) where
      pub ran_runs : Runs ds cap (min limit (length slice)) rs [] (ran len ds rs limit slice)
      ran_runs = run_runs a.entries cap (min limit (length slice)) rs [] l

      pub run_table : (run_call t' limit slice).table ≡ table_words len ds (ran len ds rs limit slice).rows
      run_table = rw (held_run h limit slice) (held_rows h (ran len ds rs limit slice).rows)

      run_words : take (run_call t' limit slice).answer.steps (run_call t' limit slice).slice ≡ ran_runs.words
      run_words =
          let made = (ran len ds rs limit slice).made in
          rw (held_run h limit slice) (take-append_seam made (drop (length made) slice) ∙ ran_runs.made)

      pub run_moved : Moved len ds rs (run_call t' limit slice).table (take (run_call t' limit slice).answer.steps (run_call t' limit slice).slice)
      run_moved = rw run_words (record { rows = (ran len ds rs limit slice).rows; table = run_table; reaches = ran_runs.reaches })

  -- ---- the invariant, from rows that keep sizes and entries, and fit

  module _ {from : List Row} (first : Left ds es cap from) where
    pub moved_left : {t' ws : List ℕ} (m : Moved len ds from t' ws) → Left ds es cap m.rows
    moved_left m = reaches_left first m.reaches

    pub moved_held : {t' ws : List ℕ} (m : Moved len ds from t' ws) → Held t' len ds m.rows
    moved_held m = left_held a (moved_left m) m.table

    pub calls_moved : (st : State) (calls : List Call) → in_place calls ≡ true → Moved len ds from st.table st.derivation
        → Moved len ds from (after_calls st calls).table (after_calls st calls).derivation
    unfolding in_place after_calls after_call
    calls_moved st [] e m = m
    calls_moved st (step_asked ∷ calls) e m = calls_moved (after_call st step_asked) calls e (moved_on m (step_moved (moved_left m) (moved_held m)))
    calls_moved st (run_asked limit slice ∷ calls) e m =
        calls_moved (after_call st (run_asked limit slice)) calls e (moved_on m (run_moved (moved_left m) (moved_held m) limit slice))
    calls_moved st (plan_asked target ∷ calls) e m = calls_moved st calls e m
    calls_moved st (six_asked target ∷ calls) e m = absurd (false≢true e)
    calls_moved st (five_asked target ∷ calls) e m = absurd (false≢true e)

-- from an encoding
pub reached : (inst t : List ℕ) → GoodEncoding inst t → (calls : List Call) → in_place calls ≡ true
    → let st = after_calls (started inst t) calls in
    Moved (length t) (sizes_of inst) (encoded_rows inst) st.table st.derivation
reached inst t c calls e =
    calls_moved (coded_takes inst t c) (encoded_left inst t c) (started inst t) calls e
    (record { rows = encoded_rows inst; table = coded_table inst t c; reaches = still })
