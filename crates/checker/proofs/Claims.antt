-- An accepted claim's cost is the least cost: the empty row's weight in rows that keep sizes and entries is below every cost, and the claim
-- is such a weight and the cost of an assignment. The table that the checker leaves holds rows that keep the instance's.
use Prim.Native.Nat.{ℕ}
use native.Mathlib.Omega.{arith}
use mathlib.Core.Path.{◌≡◌, refl, sym, ap}
use mathlib.Core.Bool.{Bool, true, false, ◌&&◌, cond}
use mathlib.Core.List.{List}
use lib.ListN.{length}
use lib.Dec.{eqb}
use borrow.Author.Tests.{eqb-true, eqb-false, eq-eqb}
use Rattle.wcsp.specs.Row.{Row, empty_weight}
use Rattle.wcsp.specs.Entry.{cost}
use Rattle.wcsp.proofs.Lists.{and_left, and_right}
use Rattle.fields.specs.Assignment.{is_assignment}
use Rattle.fields.proofs.Assigning.{in_range_of}
use Rattle.input.specs.Instance.{instance_fault, sizes_of, entries_of}
use Rattle.table.proofs.Own.{Held}
use Rattle.table.specs.Layout.{capacity}
use Rattle.encoding.specs.Calls.{encoded_rows, encode_call}
use Rattle.checker.specs.Replay.{Replayed, replay}
use Rattle.checker.specs.Calls.{claim_holds, judged, check_call}
use Rattle.checker.specs.Theorems.{Best, AcceptedIsLeast, LeftConserves}
use Rattle.checker.proofs.Instances.{accepted_sizes, accepted_entries}
use Rattle.checker.proofs.Encoded.{GoodEncoding, coded}
use Rattle.checker.proofs.Kept.{Takes, Keeps, encoded_keeps, keeps_below}
use Rattle.checker.proofs.Replaying.{Left, left_held, Ended, replay_ended}

-- the replay that the check makes
abbrev pub replayed : List ℕ → List ℕ → List ℕ → Replayed
replayed inst t derivation =
    replay (sizes_of inst) (capacity (length t) (length (sizes_of inst))) (encoded_rows inst) 0 derivation

-- once the encoding is good, the replay is judged
pub check_judged : (inst derivation plan : List ℕ) (claimed : ℕ) (t : List ℕ) → (encode_call inst t).answer.number ≡ 0
    → check_call inst derivation plan claimed t ≡ judged inst plan claimed (length t) (replayed inst t derivation)
unfolding check_call
check_judged inst derivation plan claimed t e = rw (eq-eqb (encode_call inst t).answer.number 0 e)

-- the parts of a claim that holds
record Claim (inst plan : List ℕ) (claimed : ℕ) (rs : List Row) : Type 0 where
  assigned : is_assignment (sizes_of inst) plan ≡ true
  empty : claimed ≡ empty_weight (length (sizes_of inst)) rs
  costs : claimed ≡ cost (entries_of inst) plan

claim : (inst plan : List ℕ) (claimed : ℕ) (rs : List Row) → claim_holds inst plan claimed (empty_weight (length (sizes_of inst)) rs) ≡ true → Claim inst plan claimed rs
unfolding claim_holds
claim inst plan claimed rs e =
    let a = is_assignment (sizes_of inst) plan in
    let b = eqb claimed (empty_weight (length (sizes_of inst)) rs) in
    let c = eqb claimed (cost (entries_of inst) plan) in
    let two = and_left (a && b) c e in
    record {
      assigned = and_left a b two;
      empty = eqb-true claimed (empty_weight (length (sizes_of inst)) rs) (and_right a b two);
      costs = eqb-true claimed (cost (entries_of inst) plan) (and_right (a && b) c e);
    }

module _ (inst t : List ℕ) (c : GoodEncoding inst t) where
  pub coded_takes : Takes (length t) (sizes_of inst) (entries_of inst)
  coded_takes =
      record { sizes = accepted_sizes inst c.accepted; entries = accepted_entries inst c.accepted; room = c.room }

  -- the encoding's rows keep the instance, and fit
  pub encoded_left : Left (sizes_of inst) (entries_of inst) (capacity (length t) (length (sizes_of inst))) (encoded_rows inst)
  encoded_left = record { keeps = encoded_keeps coded_takes.sizes coded_takes.entries; fits = c.fits }

  pub replayed_ended : (derivation : List ℕ)
      → Ended (sizes_of inst) (entries_of inst) (capacity (length t) (length (sizes_of inst))) (replayed inst t derivation)
  replayed_ended derivation =
      replay_ended coded_takes.entries (capacity (length t) (length (sizes_of inst))) derivation (encoded_rows inst) 0 encoded_left

claim_accepted : (inst plan : List ℕ) (claimed : ℕ) {rs : List Row} → instance_fault inst ≡ 0 → Keeps (sizes_of inst) (entries_of inst) rs
    → Claim inst plan claimed rs → Best (sizes_of inst) (entries_of inst) plan claimed
claim_accepted inst plan claimed a k h =
    record {
      in_range = in_range_of (sizes_of inst) plan h.assigned;
      attained = sym h.costs;
      least = rw h.empty (keeps_below k);
    }

pub accepted_is_least : AcceptedIsLeast
unfolding check_call judged
accepted_is_least inst derivation plan claimed t e = coding (eqb (encode_call inst t).answer.number 0) refl e
  where
    done : Replayed
    done = replayed inst t derivation

    judging : GoodEncoding inst t → (a b : Bool) → claim_holds inst plan claimed (empty_weight (length (sizes_of inst)) done.rows) ≡ b → eqb done.number 0 ≡ a
        → cond a (cond b 0 7) done.number ≡ 0 → Best (sizes_of inst) (entries_of inst) plan claimed
    judging c true true f h n =
        claim_accepted inst plan claimed c.accepted (replayed_ended inst t c derivation).left.keeps (claim inst plan claimed done.rows f)
    judging c true false f h n = absurd (omega arith)
    judging c false b f h n = absurd (eqb-false done.number 0 h n)

    coding : (a : Bool) → eqb (encode_call inst t).answer.number 0 ≡ a
        → (cond a (judged inst plan claimed (length t) done)
        (record { answer = record { number = (encode_call inst t).answer.number; steps = 0 }; table = t })).answer.number
        ≡ 0 → Best (sizes_of inst) (entries_of inst) plan claimed
    coding true h n =
        judging (coded inst t (eqb-true (encode_call inst t).answer.number 0 h)) (eqb done.number 0)
        (claim_holds inst plan claimed (empty_weight (length (sizes_of inst)) done.rows)) refl refl n
    coding false h n = absurd (eqb-false (encode_call inst t).answer.number 0 h n)

-- the table left holds the rows that were replayed
pub check_held : (inst derivation plan : List ℕ) (claimed : ℕ) (t : List ℕ) → (encode_call inst t).answer.number ≡ 0
    → Held (check_call inst derivation plan claimed t).table (length t) (sizes_of inst) (replayed inst t derivation).rows
unfolding judged
check_held inst derivation plan claimed t e =
    let c = coded inst t e in
    left_held (coded_takes inst t c) (replayed_ended inst t c derivation).left
    (ap (λ k. k.table) (check_judged inst derivation plan claimed t e))

pub left_conserves : LeftConserves
left_conserves inst derivation plan claimed t p e r =
    rw (check_held inst derivation plan claimed t e).rows ((replayed_ended inst t (coded inst t e) derivation).left.keeps.weights p r)
