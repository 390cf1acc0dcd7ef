-- The driver's loop: the words that are left do to what the slices hold what all words do to the start. What they do is a list of calls without a
-- conversion, so demand 3 is upheld in the slice.
use Prim.Native.Nat.{ℕ, suc, ◌+◌, ◌-◌, ◌≤◌, ◌<◌}
use native.Mathlib.Numerals.{add-one}
use native.Mathlib.Omega.{arith}
use mathlib.Core.Path.{◌≡◌, refl, sym, ap, ap₂, ◌∙◌}
use mathlib.Core.Bool.{Bool, true, false, cond}
use mathlib.Core.List.{List, [], ◌∷◌, ◌++◌, Option-to_list}
use mathlib.Core.Option.{Option, none, some}
use lib.ListN.{length, get_or, take, drop, take-append-drop, drop_of_length-le}
use lib.Seq.{length-take-le, drop-cons, drop-drop}
use lib.Dec.{eqb}
use borrow.Author.Tests.{eq-eqb, ne_eqb}
use Rattle.words.specs.Layout.{kind_of, payload_of}
use Rattle.fields.specs.Answers.{Answer}
use Rattle.encoding.specs.Calls.{EncodeReturned, encode_call}
use Rattle.checker.proofs.Encoded.{GoodEncoding, coded, encode_refused}
use Rattle.calls.specs.Calls.{Call, step_asked, run_asked, plan_asked, in_place, after_calls}
use Rattle.calls.specs.Demand.{UpheldFrom}
use Rattle.calls.specs.Driver.{limit_of, slice_of, asked, Driving, drive_call, drive_word, drive_words, calls_asked, DrivesCalls, start_of, drive_all, Drives}
use Rattle.calls.specs.Slices.{driving_in}
use Rattle.calls.proofs.Upholding.{demand_rows}
use Rattle.calls.proofs.Asking.{Made}

-- ---- the loop

-- what holds before each word: the words from i on are left, and behind the derivation the slice is as it was lent
pub record Going (t₀ out₀ target₀ calls t out : List ℕ) (made : ℕ) (target : List ℕ) (i : ℕ) : Type 0 where
  pub same : drive_words out₀ (driving_in t₀ out₀ 0 target₀) calls ≡ drive_words out₀ (driving_in t out made target) (drop i calls)
  pub room : made ≤ length out
  pub rest : drop made out ≡ drop made out₀

module _ (t₀ out₀ target₀ calls : List ℕ) where
  pub going_start : Going t₀ out₀ target₀ calls t₀ out₀ 0 target₀ 0
  going_start = record { same = refl; room = omega arith; rest = refl }

  module _ (t out : List ℕ) (made : ℕ) (target : List ℕ) (i : ℕ) (g : Going t₀ out₀ target₀ calls t out made target i) where
    -- a word asks for the same, whichever of the two slices the free words are taken from
    same_word : (w : ℕ) → drive_word out₀ (driving_in t out made target) w ≡ drive_word out (driving_in t out made target) w
    unfolding drive_word
    same_word w = rw (length-take-le made out g.room, g.rest)

    -- what lies behind more words is as it was lent, too
    still_rest : (n : ℕ) → made ≤ n → drop n out ≡ drop n out₀
    still_rest n h =
        let e : n ≡ made + (n - made) = omega arith in
        rw (e, ← drop-drop (n - made) made out, ← drop-drop (n - made) made out₀, g.rest)

    pub going_on : i < length calls → (t' out' : List ℕ) (made' : ℕ) (target' : List ℕ)
        → Made t out made target (get_or calls i 0) t' out' made' target' → Going t₀ out₀ target₀ calls t' out' made' target' (i + 1)
    unfolding drive_words
    going_on h t' out' made' target' (l, p) =
        let w = get_or calls i 0 in
        let d = drive_word out (driving_in t out made target) w in
        let left : d ≡ driving_in t' out' made' target' = ap₂ (λ st ws. record { state = st; target = ws }) l.state (sym p) in
        record {
          same =
              g.same ∙ ap (drive_words out₀ (driving_in t out made target)) (drop-cons calls i 0 h)
              ∙ ap (λ e. drive_words out₀ e (drop (suc i) calls)) (same_word w ∙ left)
              ∙ ap (λ n. drive_words out₀ (driving_in t' out' made' target') (drop n calls)) (sym (add-one i));
          room = l.room;
          rest = l.rest ∙ still_rest made' l.grown;
        }

    pub going_end : length calls ≤ i → drive_words out₀ (driving_in t₀ out₀ 0 target₀) calls ≡ driving_in t out made target
    unfolding drive_words
    going_end h = rw (drop_of_length-le calls h) at g.same

-- ---- a list of calls

pub drives_calls : DrivesCalls
unfolding drive_words drive_word drive_call calls_asked after_calls Option-to_list
drives_calls out d [] = refl
drives_calls out d (w ∷ ws) =
    drives_calls out (drive_word out d w) ws ∙ made (asked (drop (length d.state.derivation) out) d.target w) (calls_asked out (drive_word out d w) ws)
  where
    made : (call : Option Call) (calls : List Call) → after_calls (drive_call d call).state calls ≡ after_calls d.state (Option-to_list call ++ calls)
    made none calls = refl
    made (some call) calls = refl

-- none of which is a conversion
asked_plain : (free target : List ℕ) (w : ℕ) (calls : List Call) → in_place (Option-to_list (asked free target w) ++ calls) ≡ in_place calls
unfolding asked in_place Option-to_list
asked_plain free target w calls = go (eqb (kind_of w) 0) (eqb (length free) 0) (eqb (kind_of w) 1) (eqb (kind_of w) 2)
  where
    go : (a b c d : Bool)
        → in_place
        (Option-to_list
        (cond a (cond b none (some step_asked))
        (cond c (some (run_asked (limit_of w) (take (slice_of w) free))) (cond d (some (plan_asked (take (payload_of w) target))) none)))
        ++ calls)
        ≡ in_place calls
    go true true c d = refl
    go true false c d = refl
    go false b true d = refl
    go false b false true = refl
    go false b false false = refl

pub asked-in_place : (out : List ℕ) (d : Driving) (ws : List ℕ) → in_place (calls_asked out d ws) ≡ true
unfolding calls_asked in_place
asked-in_place out d [] = refl
asked-in_place out d (w ∷ ws) =
    asked_plain (drop (length d.state.derivation) out) d.target w (calls_asked out (drive_word out d w) ws) ∙ asked-in_place out (drive_word out d w) ws

-- so what the words leave upholds demand 3
drive_upheld : (inst t : List ℕ) → GoodEncoding inst t → (out target ws : List ℕ)
    → let st = (drive_words out (start_of inst t target) ws).state in
    UpheldFrom inst t st.table st.derivation
drive_upheld inst t c out target ws =
    let start = start_of inst t target in
    rw (drives_calls out start ws) (demand_rows inst t c (calls_asked out start ws) (asked-in_place out start ws))

-- ---- the whole call

module _ (inst t calls out target : List ℕ) (a : Answer) (t₀ : List ℕ)
    (called : ◌≡◌ {A = EncodeReturned} (record { answer = a; table = t₀ }) (encode_call inst t)) where
  coding : (a ≡ (encode_call inst t).answer) × (t₀ ≡ (encode_call inst t).table)
  coding = (ap (λ r. r.answer) called, ap (λ r. r.table) called)

  pub drive_refused : (a.number ≡ 0 → ⊥)
      → Drives inst t calls out target (record { answer = record { number = a.number; steps = 0 }; table = t₀; out = out; target = target })
  unfolding drive_all
  drive_refused f =
      let refused : (encode_call inst t).answer.number ≡ 0 → ⊥ = rw coding.0 at f in
      let kept = coding.1 ∙ encode_refused inst t refused in
      rw (ne_eqb (encode_call inst t).answer.number 0 refused)
      (λ i. record { answer = record { number = (coding.0 i).number; steps = 0 }; table = kept i; out = out; target = target }, λ z. absurd (f z))

  pub drive_made : a.number ≡ 0 → (t' out' : List ℕ) (made : ℕ) (target' : List ℕ) (i : ℕ) → length calls ≤ i
      → Going t₀ out target calls t' out' made target' i
      → Drives inst t calls out target (record { answer = record { number = 0; steps = made }; table = t'; out = out'; target = target' })
  unfolding drive_all
  drive_made e t' out' made target' i h g =
      let start = start_of inst t target in
      let encoded : (encode_call inst t).answer.number ≡ 0 = rw coding.0 at e in
      let c = coded inst t encoded in
      let end : drive_words out start calls ≡ driving_in t' out' made target'
      = rw coding.1 at (going_end t₀ out target calls t' out' made target' i g h) in
      let front : length (take made out') ≡ made = length-take-le made out' g.room in
      let whole : out' ≡ take made out' ++ drop made out = rw (← g.rest) (sym (take-append-drop made out')) in
      rw (eq-eqb (encode_call inst t).answer.number 0 encoded, end, front)
      (λ j. record { answer = record { number = 0; steps = made }; table = t'; out = whole j; target = target' }, λ z. rw end at (drive_upheld inst t c out target calls))
