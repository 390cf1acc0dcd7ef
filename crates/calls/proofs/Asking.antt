-- A call word, by what it asks for: what the driver leaves once it has made the call is what the word asks for.
use Prim.Native.Nat.{ℕ, ◌≤◌}
use native.Mathlib.Omega.{arith}
use mathlib.Core.Path.{◌≡◌, refl, sym, ap, ◌∙◌}
use mathlib.Core.Bool.{Bool, true, false, cond}
use mathlib.Core.List.{List}
use mathlib.Core.Option.{Option, none, some}
use lib.ListN.{length, take, drop, length-drop}
use lib.Seq.{length-take-le}
use lib.Dec.{eqb}
use borrow.Author.Tests.{eq-eqb, ne_eqb, eqb-true, eqb-false}
use Rattle.words.specs.Layout.{kind_of, payload_of}
use Rattle.calls.specs.declared.Ask.{Ask}
use Rattle.calls.specs.Calls.{Call, step_asked, run_asked, plan_asked, after_call}
use Rattle.calls.specs.Driver.{limit_of, slice_of, asked, Driving, target_after, drive_call, drive_word}
use Rattle.calls.specs.Asks.{ask_of}
use Rattle.calls.specs.Slices.{state_in, step_in, driving_in, Leaves, LeavesAll}
use Rattle.calls.proofs.Leaving.{unchanged}

-- the slices and the target that a word's call leaves
abbrev pub Made : List ℕ → List ℕ → ℕ → List ℕ → ℕ → List ℕ → List ℕ → ℕ → List ℕ → Type 0
Made t out made target w t' out' made' target' =
    LeavesAll out made (drive_word out (driving_in t out made target) w) t' out' made' target'

-- the call that is made, given the free words and the target's bytes
call_of : List ℕ → List ℕ → Ask → Option Call
call_of free target Ask.Step = cond (eqb (length free) 0) none (some step_asked)
call_of free target (Ask.Run limit room) = some (run_asked limit (take room free))
call_of free target (Ask.Plan room) = some (plan_asked (take room target))
call_of free target Ask.Nothing = none

asked_by : (free target : List ℕ) (w : ℕ) → asked free target w ≡ call_of free target (ask_of w)
unfolding asked call_of ask_of
asked_by free target w = go (eqb (kind_of w) 0) (eqb (kind_of w) 1) (eqb (kind_of w) 2)
  where
    go : (a b c : Bool)
        → cond a (cond (eqb (length free) 0) none (some step_asked))
        (cond b (some (run_asked (limit_of w) (take (slice_of w) free))) (cond c (some (plan_asked (take (payload_of w) target))) none))
        ≡ call_of free target (cond a Ask.Step (cond b (Ask.Run (limit_of w) (slice_of w)) (cond c (Ask.Plan (payload_of w)) Ask.Nothing)))
    go true b c = refl
    go false true c = refl
    go false false true = refl
    go false false false = refl

module _ (t out : List ℕ) (made : ℕ) (target : List ℕ) (fits : made ≤ length out) (w : ℕ) (ask : Ask) (read : ask ≡ ask_of w) where
  -- the free words are those from made on
  word_asks : drive_word out (driving_in t out made target) w ≡ drive_call (driving_in t out made target) (call_of (drop made out) target ask)
  unfolding drive_word
  word_asks =
      rw (length-take-le made out fits)
      (ap (drive_call (driving_in t out made target)) (asked_by (drop made out) target w ∙ ap (call_of (drop made out) target) (sym read)))

  module _ (t' out' : List ℕ) (made' : ℕ) where
    pub step_word_lem : ask ≡ Ask.Step
        → Leaves out made (step_in t out made) t' out' made'
        → Made t out made target w t' out' made' target
    unfolding call_of drive_call target_after
    step_word_lem e l = rw (word_asks, e) (go (eqb made (length out)) refl l)
      where
        called : Bool → Driving
        called b = drive_call (driving_in t out made target) (cond b none (some step_asked))

        go : (b : Bool) → eqb made (length out) ≡ b
            → Leaves out made (cond b (state_in t out made) (after_call (state_in t out made) step_asked)) t' out' made'
            → Leaves out made (called (eqb (length (drop made out)) 0)).state t' out' made' × (target ≡ (called (eqb (length (drop made out)) 0)).target)
        go true f l =
            let full : length (drop made out) ≡ 0 = omega (arith, length-drop made out, eqb-true made (length out) f) in
            rw (eq-eqb (length (drop made out)) 0 full) (l, refl)
        go false f l =
            let free : length (drop made out) ≡ 0 → ⊥ = omega (arith, length-drop made out, eqb-false made (length out) f) in
            rw (ne_eqb (length (drop made out)) 0 free) (l, refl)

    pub run_word : (limit room : ℕ) → ask ≡ Ask.Run limit room
        → Leaves out made (after_call (state_in t out made) (run_asked limit (take room (drop made out)))) t' out' made'
        → Made t out made target w t' out' made' target
    unfolding call_of drive_call target_after
    run_word limit room e l = rw (word_asks, e) (l, refl)

  pub plan_word : (room : ℕ) → ask ≡ Ask.Plan room → (target' : List ℕ) → target' ≡ target_after t target (plan_asked (take room target))
      → Made t out made target w t out made target'
  unfolding call_of drive_call after_call
  plan_word room e target' p = rw (word_asks, e) (unchanged t out made fits, p)

  pub no_call : ask ≡ Ask.Nothing → Made t out made target w t out made target
  unfolding call_of drive_call
  no_call e = rw (word_asks, e) (unchanged t out made fits, refl)
