-- The bytes of a certificate: those of its claim, and those of its steps behind them.
use Prim.Native.Nat.{ℕ, ◌+◌, ◌*◌, ◌-◌, ◌/◌, ◌%◌, ◌≤◌}
use native.Mathlib.Omega.{arith}
use mathlib.Core.Path.{◌≡◌, refl, sym, ap, ◌∙◌}
use mathlib.Core.List.{List, [], ◌∷◌, ◌++◌, append_assoc}
use lib.ListN.{length, take, drop, replicate, length-append, length-replicate}
use lib.Seq.{sets, sets-eq, take_at}
use borrow.Rule.Slice.PartMut.{put_mid}
use Rattle.words.specs.Layout.{weight_word, high_word}
use Rattle.littleendian.specs.Words.{bytes_of}
use Rattle.littleendian.proofs.Writing.{length_bytes}
use Rattle.certificate.specs.Certificate.{binding_words, cost_unit, claim_words, certificate_words}
use Rattle.certificate.proofs.Bindings.{length_bindings}

pub bytes_append : (xs ys : List ℕ) → bytes_of (xs ++ ys) ≡ bytes_of xs ++ bytes_of ys
unfolding bytes_of
bytes_append [] ys = refl
bytes_append (x ∷ xs) ys = ap (λ (l : List ℕ). x % 256 ∷ x / 256 % 256 ∷ x / 65536 % 256 ∷ x / 16777216 ∷ l) (bytes_append xs ys)

pub length_claim : (plan : List ℕ) (cost : ℕ) → length (claim_words plan cost) ≡ length plan + 3
length_claim plan cost =
    let b = length_bindings 0 plan in
    let l = length-append (binding_words 0 plan) (weight_word (cost % cost_unit) ∷ (high_word (cost / cost_unit) ∷ [])) in
    omega (arith, b, l)

-- the claim written to the front of fifteen words
module _ (plan : List ℕ) (cost k : ℕ) (claim : List ℕ) (few : length plan ≤ 12) (written : claim ≡ sets (replicate 15 0) 0 (claim_words plan cost))
    (counted : k ≡ length plan + 3) where
  pub claim_front : take k claim ≡ claim_words plan cost
  claim_front =
      let n = length_claim plan cost in
      let z = length-replicate {A = ℕ} 15 0 in
      rw (written, sets-eq (claim_words plan cost) (replicate 15 0) 0 (omega (arith, n, z)))
      (take_at (claim_words plan cost) (drop (0 + length (claim_words plan cost)) (replicate 15 0)) k (omega (arith, n)))

  pub claim_long : k ≡ length (take k claim)
  claim_long = rw claim_front (omega (arith, length_claim plan cost))

  -- its bytes put in front of a buffer, and those of the steps into the part behind them
  module _ (steps out out' part part' : List ℕ) (first : out' ≡ bytes_of (take k claim) ++ drop (4 * length (take k claim)) out)
      (second : part' ≡ bytes_of steps ++ drop (4 * length steps) part) where
    front : take (4 * k) out' ≡ bytes_of (claim_words plan cost)
    front =
        let n = length_bytes (claim_words plan cost) in
        let l = length_claim plan cost in
        rw (first, claim_front) (take_at (bytes_of (claim_words plan cost)) (drop (4 * length (claim_words plan cost)) out) (4 * k) (omega (arith, n, l)))

    whole : put_mid (4 * k) (length out' - 4 * k) out' part' ≡ bytes_of (certificate_words plan cost steps) ++ (drop (4 * length steps) part ++ drop (length out' - 4 * k) (drop (4 * k) out'))
    whole =
        let a = bytes_of (claim_words plan cost) in
        let b = bytes_of steps in
        let c = drop (4 * length steps) part in
        let d = drop (length out' - 4 * k) (drop (4 * k) out') in
        rw (front, second, bytes_append (claim_words plan cost) steps)
        (ap (λ (l : List ℕ). a ++ l) (append_assoc b c d) ∙ sym (append_assoc a b (c ++ d)))

    counted_bytes : length (bytes_of (certificate_words plan cost steps)) ≡ 4 * (k + length steps)
    counted_bytes =
        let n = length_bytes (certificate_words plan cost steps) in
        let l = length-append (claim_words plan cost) steps in
        omega (arith, n, l, length_claim plan cost)

    pub certificate_put : take (4 * (k + length steps)) (put_mid (4 * k) (length out' - 4 * k) out' part') ≡ bytes_of (certificate_words plan cost steps)
    certificate_put =
        rw whole (take_at (bytes_of (certificate_words plan cost steps)) (drop (4 * length steps) part ++ drop (length out' - 4 * k) (drop (4 * k) out')) (4 * (k + length steps)) counted_bytes)

    pub certificate_within : 4 * (k + length steps) ≤ length (put_mid (4 * k) (length out' - 4 * k) out' part')
    certificate_within =
        rw whole
        (omega (arith, counted_bytes, length-append (bytes_of (certificate_words plan cost steps)) (drop (4 * length steps) part ++ drop (length out' - 4 * k) (drop (4 * k) out'))))
