-- One sign from one word of a row: variable v stands in word v / 3, at the byte v % 3, and the byte above the three is the word's kind.
use Prim.Native.Nat.{ℕ, zero, suc, ◌+◌, ◌*◌, ◌/◌, ◌%◌, ◌^◌, ◌<◌}
use native.Mathlib.Nat.{add-zero}
use native.Mathlib.Omega.{arith}
use mathlib.Core.Path.{◌≡◌, refl}
use mathlib.Core.List.{List}
use lib.ListN.{get_or}
use Rattle.words.specs.Layout.{unpacked}
use Rattle.clause.specs.Packed.{signs_of}
use Rattle.clause.proofs.Signs12.{sign_a, sign_b, sign_c, sign_d}
use Rattle.rows.specs.Raw.{raw_at, clause_in}

in_block : (w k : ℕ) → k < 3 → (w / 2 ^ (8 * k) % 256 ≡ get_or (unpacked (w % 16777216)) k 0) × (w / 2 ^ (8 * k) % 256 < 256)
in_block w zero h = (omega arith, omega arith)
in_block w (suc zero) h = (omega arith, omega arith)
in_block w (suc (suc zero)) h = (omega arith, omega arith)
in_block w (suc (suc (suc k))) h = absurd (omega arith)

pub one_sign : (t : List ℕ) (p v : ℕ) → v < 12 → get_or t (p + v / 3) 0 / 2 ^ (8 * (v % 3)) % 256 ≡ get_or (signs_of (clause_in (raw_at t p))) v 0
unfolding raw_at
one_sign t p v h = go (v / 3) refl
  where
    go : (q : ℕ) → v / 3 ≡ q → get_or t (p + q) 0 / 2 ^ (8 * (v % 3)) % 256 ≡ get_or (signs_of (clause_in (raw_at t p))) v 0
    go zero e = rw add-zero (sign_a (clause_in (raw_at t p)) v (v % 3) _ (in_block (get_or t p 0) (v % 3) (omega arith)) (omega arith) (omega arith)).0
    go (suc zero) e = (sign_b (clause_in (raw_at t p)) v (v % 3) _ (in_block (get_or t (p + 1) 0) (v % 3) (omega arith)) (omega arith) (omega arith)).0
    go (suc (suc zero)) e = (sign_c (clause_in (raw_at t p)) v (v % 3) _ (in_block (get_or t (p + 2) 0) (v % 3) (omega arith)) (omega arith) (omega arith)).0
    go (suc (suc (suc zero))) e = (sign_d (clause_in (raw_at t p)) v (v % 3) _ (in_block (get_or t (p + 3) 0) (v % 3) (omega arith)) (omega arith)).0
    go (suc (suc (suc (suc q)))) e = absurd (omega arith)
