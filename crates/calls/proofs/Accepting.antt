-- The planner's derivation is accepted: with room for the most rows that it had the checker's encoding is good, the steps are replayed to the rows
-- that they led to, and there the claim holds, since the rebuilt assignment is the best. So is what the driver leaves.
use Prim.Native.Nat.{ℕ, ◌+◌, ◌≤◌, ◌<◌}
use native.Mathlib.Nat.{zero-add}
use native.Mathlib.Omega.{arith}
use mathlib.Core.Path.{◌≡◌, refl, sym}
use mathlib.Core.Bool.{Bool, true, false, cond}
use mathlib.Core.List.{List}
use mathlib.Core.Option.{none}
use lib.ListN.{length, take, drop}
use lib.Seq.{take-append_seam}
use lib.Dec.{eqb, ltb}
use borrow.Author.Tests.{eq-eqb, eqb-true, le-ltb, ltb-false}
use Rattle.wcsp.specs.Row.{Row, empty_weight}
use Rattle.wcsp.specs.Entry.{cost}
use Rattle.wcsp.specs.Resolve.{next_pair}
use Rattle.wcsp.specs.Rebuild.{rebuilt}
use Rattle.fields.specs.Entries.{FieldSizes, Entries}
use Rattle.fields.proofs.Assigning.{assignment_of}
use Rattle.input.specs.Instance.{instance_fault, sizes_of, entries_of}
use Rattle.table.specs.Raws.{standard_form}
use Rattle.table.specs.Meaning.{own_rows}
use Rattle.table.proofs.FormTables.{capacity_small}
use Rattle.encoding.specs.Calls.{encoded_rows, encode_call}
use Rattle.checker.specs.Replay.{replay}
use Rattle.checker.specs.Calls.{claim_holds, judged, check_call}
use Rattle.checker.specs.Theorems.{Best}
use Rattle.checker.proofs.Instances.{accepted_sizes, accepted_entries}
use Rattle.checker.proofs.Encoded.{GoodEncoding, coded, coded_number}
use Rattle.checker.proofs.Kept.{Keeps, encoded_keeps}
use Rattle.checker.proofs.Claims.{check_judged, coded_takes, encoded_left}
use Rattle.calls.specs.Calls.{State, after_calls, started, Derives}
use Rattle.calls.specs.Demand.{room}
use Rattle.calls.specs.Derivation.{needs, TakesFront, Accepts, AcceptedWithRoom, FullWithoutRoom, ConvertedAccepted, DerivationAccepted, DrivenAccepted}
use Rattle.calls.specs.Driver.{drive_words, calls_asked, DriveReturned, start_of, drive_returns, drive_all}
use Rattle.calls.proofs.Reaching.{derives_keeps, reaches_replayed}
use Rattle.calls.proofs.Most.{most_first, derives_reaches, reaches_most, replay-full}
use Rattle.calls.proofs.Moving.{moved_held, reached}
use Rattle.calls.proofs.Held.{held_assignment}
use Rattle.calls.proofs.Upholding.{best_rows}
use Rattle.calls.proofs.Going.{comes_held, comes_six, calls_come, encoded_comes}
use Rattle.calls.proofs.Driving.{drives_calls, asked-in_place}

-- the best assignment with the empty row's weight is a claim that holds
best_claim : (inst plan : List ℕ) (rs : List Row) → Best (sizes_of inst) (entries_of inst) plan (empty_weight (length (sizes_of inst)) rs)
    → claim_holds inst plan (empty_weight (length (sizes_of inst)) rs) (empty_weight (length (sizes_of inst)) rs) ≡ true
unfolding claim_holds
best_claim inst plan rs b =
    let w = empty_weight (length (sizes_of inst)) rs in
    rw (
      assignment_of b.in_range,
      eq-eqb w w refl,
      eq-eqb w (cost (entries_of inst) plan) (sym b.attained),
    )

-- ---- by room

module _ (inst ws : List ℕ) (rs : List Row) (accepted : instance_fault inst ≡ 0) (d : Derives (sizes_of inst) (encoded_rows inst) ws rs) where
  abbrev ds : List ℕ
  ds = sizes_of inst

  sizes : FieldSizes ds
  sizes = accepted_sizes inst accepted

  entries : Entries ds 0 (entries_of inst)
  entries = accepted_entries inst accepted

  first : Keeps ds (entries_of inst) (encoded_rows inst)
  first = encoded_keeps sizes entries

  module _ (work : List ℕ) (front : TakesFront inst work) where
    small : room ds work ≤ 4096
    small = capacity_small standard_form (length work) (length ds)

    -- the encoding has room, where the most rows have it
    encodes : length (encoded_rows inst) ≤ room ds work → GoodEncoding inst work
    encodes f = record { accepted = accepted; room = front; fits = f }

    accepts : next_pair ds rs ≡ none → needs inst ws ≤ room ds work → Accepts inst ws (rebuilt ds rs) rs work
    unfolding judged
    accepts done enough =
        let fits : length (encoded_rows inst) ≤ room ds work = omega (arith, most_first ds (encoded_rows inst) ws) in
        let r = derives_reaches {es = entries_of inst} sizes entries small d enough in
        let replayed : replay ds (room ds work) (encoded_rows inst) 0 ws ≡ record { number = 0; steps = 0 + length ws; rows = rs }
        = reaches_replayed sizes entries small 0 (record { keeps = first; fits = fits }) r in
        rw (
          check_judged inst ws (rebuilt ds rs) (empty_weight (length ds) rs) work (coded_number inst work (encodes fits)),
          replayed,
          best_claim inst (rebuilt ds rs) rs (best_rows sizes (derives_keeps first d) done),
          zero-add,
        )

    fills : (plan : List ℕ) (claimed : ℕ) → room ds work < needs inst ws → (check_call inst ws plan claimed work).answer.number ≡ 12
    unfolding check_call encode_call judged
    fills plan claimed lacks = go (ltb (room ds work) (length (encoded_rows inst))) refl
      where
        go : (b : Bool) → ltb (room ds work) (length (encoded_rows inst)) ≡ b → (check_call inst ws plan claimed work).answer.number ≡ 12
        go true e = rw (eq-eqb (instance_fault inst) 0 accepted, le-ltb (length work) (length ds + 2) front, e)
        go false e =
            let fits = ltb-false (room ds work) (length (encoded_rows inst)) e in
            let full = replay-full sizes entries small 0 (record { keeps = first; fits = fits }) d lacks in
            rw (check_judged inst ws plan claimed work (coded_number inst work (encodes fits)), full)

pub accepted_with_room : AcceptedWithRoom
accepted_with_room inst ws rs accepted d done work front room = accepts inst ws rs accepted d work front done (omega (arith, room))

pub full_without_room : FullWithoutRoom
full_without_room inst ws rs accepted d plan claimed work front lacks = fills inst ws rs accepted d work front plan claimed (omega (arith, lacks))

-- ---- after a list of calls

pub converted_accepted : ConvertedAccepted
converted_accepted inst st calls c valid done work front room =
    let end = after_calls st calls in
    let s = comes_six inst end (calls_come inst st calls c) valid in
    rw (held_assignment (comes_held inst s)) (accepted_with_room inst end.derivation (own_rows end.table) s.accepted s.derived done work front (omega (arith, room)))

pub derivation_accepted : DerivationAccepted
derivation_accepted inst t calls e plain done work long =
    let c = coded inst t e in
    let a = coded_takes inst t c in
    let first = encoded_left inst t c in
    let m = reached inst t c calls plain in
    let most = reaches_most a.sizes a.entries (capacity_small standard_form (length t) (length (sizes_of inst))) first.fits m.reaches in
    converted_accepted inst (started inst t) calls (encoded_comes inst t e) (moved_held a first m).valid done work (rw long a.room) (rw long most)

-- ---- the driver

-- what a good drive returns, as the state that the calls left
record Returns (r : DriveReturned) (st : State) : Type 0 where
  answer : r.answer ≡ record { number = 0; steps = length st.derivation }
  table : r.table ≡ st.table
  derivation : take r.answer.steps r.out ≡ st.derivation

module _ (inst t calls out target : List ℕ) (e : (drive_all inst t calls out target).answer.number ≡ 0) where
  drive_encoded : (encode_call inst t).answer.number ≡ 0
  unfolding drive_all
  drive_encoded = go (eqb (encode_call inst t).answer.number 0) refl e
    where
      go : (b : Bool) → eqb (encode_call inst t).answer.number 0 ≡ b
          → (cond b (drive_returns out (drive_words out (start_of inst t target) calls))
          (record { answer = record { number = (encode_call inst t).answer.number; steps = 0 }; table = t; out = out; target = target })).answer.number
          ≡ 0 → (encode_call inst t).answer.number ≡ 0
      go true f h = eqb-true (encode_call inst t).answer.number 0 f
      go false f h = h

  drive_returns_lem : Returns (drive_all inst t calls out target) (after_calls (started inst t) (calls_asked out (start_of inst t target) calls))
  unfolding drive_all
  drive_returns_lem =
      let d = drive_words out (start_of inst t target) calls in
      let ws = d.state.derivation in
      rw (← drives_calls out (start_of inst t target) calls, eq-eqb (encode_call inst t).answer.number 0 drive_encoded)
      (record { answer = refl; table = refl; derivation = take-append_seam ws (drop (length ws) out) })

pub driven_accepted : DrivenAccepted
driven_accepted inst t calls out target e done work long =
    let r = drive_returns_lem inst t calls out target e in
    rw (r.derivation, r.table, r.answer)
    (derivation_accepted inst t (calls_asked out (start_of inst t target) calls) (drive_encoded inst t calls out target e) (asked-in_place out (start_of inst t target) calls) (rw r.table at done) work long)
