-- The numbers of a check: those of the encoding, of a replay, and of the claim, which answers 0 or 7.
use Prim.Native.Nat.{ℕ}
use native.Mathlib.Omega.{arith}
use mathlib.Core.Path.{◌≡◌, refl}
use mathlib.Core.Bool.{Bool, true, false, cond}
use mathlib.Core.List.{List}
use lib.ListN.{length}
use lib.Dec.{eqb}
use borrow.Author.Tests.{eqb-true, eqb-false}
use Rattle.wcsp.specs.Row.{empty_weight}
use Rattle.input.specs.Instance.{instance_fault, sizes_of}
use Rattle.input.proofs.Faults.{instance_small}
use Rattle.encoding.specs.Calls.{encode_call}
use Rattle.checker.specs.Replay.{Replayed}
use Rattle.checker.specs.Calls.{claim_holds, judged, check_call}
use Rattle.checker.specs.Theorems.{CheckNumber, success, fault, claim_fails, too_short, too_many, CheckNumbers}
use Rattle.checker.proofs.Encoded.{coded, encodes, encode_tests}
use Rattle.checker.proofs.Claims.{replayed, replayed_ended}

module _ (inst t : List ℕ) where
  encodes_number : (a b c : Bool) → eqb (instance_fault inst) 0 ≡ a → CheckNumber (encodes inst t a b c).answer.number
  unfolding encodes
  encodes_number true true c e = too_short
  encodes_number true false true e = too_many
  encodes_number true false false e = success
  encodes_number false b c e =
      let some = eqb-false (instance_fault inst) 0 e in
      fault (instance_fault inst) (omega arith) (instance_small inst)

  encode_number : CheckNumber (encode_call inst t).answer.number
  encode_number = rw (encode_tests inst t) (encodes_number _ _ _ refl)

pub check_numbers : CheckNumbers
unfolding check_call judged
check_numbers inst derivation plan claimed t = coding (eqb (encode_call inst t).answer.number 0) refl
  where
    done : Replayed
    done = replayed inst t derivation

    judging : CheckNumber done.number → (a b : Bool) → CheckNumber (cond a (cond b 0 7) done.number)
    judging f true true = success
    judging f true false = claim_fails
    judging f false b = f

    coding : (a : Bool) → eqb (encode_call inst t).answer.number 0 ≡ a
        → CheckNumber
        (cond a (judged inst plan claimed (length t) done)
        (record { answer = record { number = (encode_call inst t).answer.number; steps = 0 }; table = t })).answer.number
    coding true h =
        let c = coded inst t (eqb-true (encode_call inst t).answer.number 0 h) in
        judging (replayed_ended inst t c derivation).number (eqb done.number 0) (claim_holds inst plan claimed (empty_weight (length (sizes_of inst)) done.rows))
    coding false h = encode_number inst t
