-- The decimal digits of a number: its last behind those of its tenth, and 20 of them hold every number of 64 bits.
use Prim.Native.Nat.{ℕ, zero, suc, ◌+◌, ◌/◌, ◌%◌, ◌^◌, ◌<◌, ◌≤◌}
use mathlib.Core.Path.{◌≡◌, refl, sym, ap, ◌∙◌}
use mathlib.Core.Bool.{Bool, true, false, cond}
use mathlib.Core.List.{List, [], ◌∷◌, ◌++◌}
use native.Mathlib.Omega.{arith}
use borrow.Author.Tests.{ltb-true, ltb-false, lt-ltb, le-ltb}
use lib.Dec.{ltb}
use lib.ListN.{length, set, length-append}
use Rattle.text.specs.Text.{digits_in, decimal}
use Rattle.text.specs.Putting.{Put}
use Rattle.text.proofs.Putting.{put_put, put_byte}

digits_last : (k n : ℕ) → n < 10 → digits_in (suc k) n ≡ (48 + n) ∷ []
unfolding digits_in
digits_last k n h = rw (lt-ltb n 10 h)

digits_more : (k n : ℕ) → 10 ≤ n → digits_in (suc k) n ≡ digits_in k (n / 10) ++ ((48 + n % 10) ∷ [])
unfolding digits_in
digits_more k n h = rw (le-ltb n 10 h)

-- no more digits than asked for
digits_within : (k n : ℕ) → length (digits_in k n) ≤ k
unfolding digits_in
digits_within zero n = omega arith
digits_within (suc k) n = go (ltb n 10) (digits_within k (n / 10))
  where
    go : (b : Bool) → length (digits_in k (n / 10)) ≤ k → length (cond b ((48 + n) ∷ []) (digits_in k (n / 10) ++ ((48 + n % 10) ∷ []))) ≤ suc k
    go true h = omega arith
    go false h = simp length-append (omega arith)

-- one digit more changes nothing where there were enough
digits_enough : (k n : ℕ) → n < 10 ^ suc k → digits_in (suc (suc k)) n ≡ digits_in (suc k) n
digits_enough zero n h = digits_last 1 n h ∙ sym (digits_last 0 n h)
digits_enough (suc k) n h = go (ltb n 10) refl (digits_enough k (n / 10))
  where
    go : (b : Bool) → ltb n 10 ≡ b → (n / 10 < 10 ^ suc k → digits_in (suc (suc k)) (n / 10) ≡ digits_in (suc k) (n / 10))
        → digits_in (suc (suc (suc k))) n ≡ digits_in (suc (suc k)) n
    go true e ih = digits_last (suc (suc k)) n (ltb-true n 10 e) ∙ sym (digits_last (suc k) n (ltb-true n 10 e))
    go false e ih = digits_more (suc (suc k)) n (ltb-false n 10 e) ∙ ap (λ (l : List ℕ). l ++ ((48 + n % 10) ∷ [])) (ih (omega arith)) ∙ sym (digits_more (suc k) n (ltb-false n 10 e))

-- a number below ten is its own digit
pub decimal_last : (n : ℕ) → n < 10 → decimal n ≡ (48 + n) ∷ []
decimal_last n h = digits_last 19 n h

-- the digits of a greater one are those of its tenth, then the last
pub decimal_more : (n : ℕ) → 10 ≤ n → n < 2 ^ 64 → decimal n ≡ decimal (n / 10) ++ ((48 + n % 10) ∷ [])
decimal_more n h f = digits_more 19 n h ∙ ap (λ (l : List ℕ). l ++ ((48 + n % 10) ∷ [])) (sym (digits_enough 18 (n / 10) (omega arith)))

-- which leave room for the last
pub decimal_tenth : (n : ℕ) → n < 2 ^ 64 → length (decimal (n / 10)) ≤ 19
decimal_tenth n f = rw (digits_enough 18 (n / 10) (omega arith)) (digits_within 19 (n / 10))

-- a number below ten is put by one byte
pub put_last : (buffer : List ℕ) (at n : ℕ) → n < 10 → at < length buffer → Put buffer at (decimal n) (set buffer at (48 + n)) (at + 1)
put_last buffer at n h room = rw (decimal_last n h) (put_byte buffer at (48 + n) room)

-- a greater one by a byte behind its tenth
pub put_more : (buffer : List ℕ) (at n : ℕ) (middle : List ℕ) (between : ℕ) → 10 ≤ n → n < 2 ^ 64 → between < length middle
    → Put buffer at (decimal (n / 10)) middle between → Put buffer at (decimal n) (set middle between (48 + n % 10)) (between + 1)
put_more buffer at n middle between h f room p = rw (decimal_more n h f) (put_put buffer at _ middle between _ _ _ p (put_byte middle between (48 + n % 10) room))

-- equal numbers have the same digits
pub put_digits : (buffer : List ℕ) (at n m : ℕ) (after : List ℕ) (end : ℕ) → n ≡ m → Put buffer at (decimal m) after end → Put buffer at (decimal n) after end
put_digits buffer at n m after end e p = rw e p
