-- A check that accepts has replayed every word of the derivation: a word that is refused has a number that is not 0.
use Prim.Native.Nat.{ℕ, suc, ◌+◌}
use native.Mathlib.Omega.{arith}
use mathlib.Core.Path.{◌≡◌, refl}
use mathlib.Core.Bool.{Bool, true, false, cond}
use mathlib.Core.List.{List, [], ◌∷◌}
use mathlib.Core.Option.{Option, none, some}
use lib.ListN.{length}
use lib.Dec.{eqb, ltb}
use borrow.Author.Tests.{eqb-true, eqb-false}
use Rattle.wcsp.specs.Row.{Row, empty_weight}
use Rattle.wcsp.specs.Resolve.{Pair, resolve}
use Rattle.input.specs.Instance.{sizes_of}
use Rattle.table.specs.Layout.{too_heavy}
use Rattle.stepping.specs.Step.{Stepping, refusing, steps_to, allowed}
use Rattle.encoding.specs.Calls.{encode_call}
use Rattle.checker.specs.Replay.{Replayed, named_pair, replay_on, replay_word, replay_next, replay}
use Rattle.checker.specs.Calls.{claim_holds, judged, check_call}
use Rattle.checker.proofs.Claims.{replayed}

module _ (ds : List ℕ) (cap : ℕ) where
  word_refused : (rs : List Row) (w n : ℕ) → replay_word ds cap rs w ≡ refusing n → n ≡ 0 → ⊥
  unfolding replay_word replay_on allowed
  word_refused rs w n = go (named_pair ds rs w)
    where
      made : (pr : Pair) (b c : Bool) → cond b (refusing 11) (cond c (refusing 12) (steps_to pr (resolve ds pr rs))) ≡ refusing n → n ≡ 0 → ⊥
      made pr true c e z = let k : 11 ≡ n = cc in omega (arith, k, z)
      made pr false true e z = let k : 12 ≡ n = cc in omega (arith, k, z)
      made pr false false e z = let k : ◌≡◌ {A = ℕ} 0 1 = cc in omega (arith, k)

      go : (o : Option Pair) → replay_on ds cap rs o ≡ refusing n → n ≡ 0 → ⊥
      go none e z = let k : 6 ≡ n = cc in omega (arith, k, z)
      go (some pr) e z = made pr (too_heavy (resolve ds pr rs)) (ltb cap (length (resolve ds pr rs))) e z

  replay-counts : (ws : List ℕ) (rs : List Row) (k : ℕ) → (replay ds cap rs k ws).number ≡ 0 → (replay ds cap rs k ws).steps ≡ k + length ws
  unfolding replay replay_next
  replay-counts [] rs k z = omega arith
  replay-counts (w ∷ ws) rs k z = go (replay_word ds cap rs w) refl (replay-counts ws) z
    where
      stops : ℕ → Replayed
      stops number = record { number = number; steps = k; rows = rs }

      goes : List Row → Replayed
      goes rs' = replay ds cap rs' (suc k) ws

      go : (s : Stepping) → replay_word ds cap rs w ≡ s
          → ((rs : List Row) (k : ℕ) → (replay ds cap rs k ws).number ≡ 0 → (replay ds cap rs k ws).steps ≡ k + length ws)
          → (replay_next stops goes s).number ≡ 0 → (replay_next stops goes s).steps ≡ k + suc (length ws)
      go (refusing n) e ih z = absurd (word_refused rs w n e z)
      go (steps_to pr rs') e ih z = omega (arith, ih rs' (suc k) z)

pub check_counts : (inst derivation plan : List ℕ) (claimed : ℕ) (t : List ℕ) → (check_call inst derivation plan claimed t).answer.number ≡ 0
    → (check_call inst derivation plan claimed t).answer.steps ≡ length derivation
unfolding check_call judged
check_counts inst derivation plan claimed t = coding (eqb (encode_call inst t).answer.number 0) refl
  where
    done : Replayed
    done = replayed inst t derivation

    judging : (a b : Bool) → eqb done.number 0 ≡ a → cond a (cond b 0 7) done.number ≡ 0 → done.steps ≡ length derivation
    judging true b h n = omega (arith, replay-counts (sizes_of inst) _ derivation _ 0 (eqb-true done.number 0 h))
    judging false b h n = absurd (eqb-false done.number 0 h n)

    coding : (a : Bool) → eqb (encode_call inst t).answer.number 0 ≡ a
        → let c = cond a (judged inst plan claimed (length t) done) (record { answer = record { number = (encode_call inst t).answer.number; steps = 0 }; table = t }) in
        c.answer.number ≡ 0 → c.answer.steps ≡ length derivation
    coding true h n = judging (eqb done.number 0) (claim_holds inst plan claimed (empty_weight (length (sizes_of inst)) done.rows)) refl n
    coding false h n = absurd (eqb-false (encode_call inst t).answer.number 0 h n)
