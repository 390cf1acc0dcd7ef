-- What is put into the buffer is the answer: that of a call, of a table, and of a request.
use Prim.Native.Nat.{ℕ, zero, suc, ◌*◌, ◌-◌, ◌≤◌}
use native.Mathlib.Omega.{arith}
use mathlib.Core.Path.{◌≡◌, refl, sym, ap}
use mathlib.Core.List.{List, ◌∷◌, ◌++◌}
use lib.ListN.{length, take, drop, replicate, length-append, length-drop, length-replicate}
use lib.Seq.{length-take-le, take_all, take_at}
use borrow.Author.Tests.{eq-eqb, ne_eqb}
use Rattle.fields.specs.Answers.{Answer}
use Rattle.littleendian.specs.Words.{words_in, bytes_of}
use Rattle.littleendian.proofs.Writing.{length_bytes}
use Rattle.text.specs.Text.{refused_line}
use Rattle.conversion.specs.Calls.{ConvertReturned, to_six_call, to_five_call}
use Rattle.converter.specs.Converted.{wanted_form, wanted_words, request_fault, converted_in, answer_bytes, table_bytes, converted_bytes}

-- so many bytes of the buffer are these
abbrev Holds : List ℕ → ℕ → List ℕ → Type 0
Holds out r bytes = (take r out ≡ bytes) × (r ≤ length out)

-- ---- the call

module _ (form : ℕ) (source target : List ℕ) (c : ConvertReturned) where
  pub makes_six_lem : form ≡ 6 → c ≡ to_six_call source target → c ≡ converted_in form source target
  unfolding converted_in
  makes_six_lem h e = rw (eq-eqb form 6 h) e

  pub makes_five_lem : (form ≡ 6 → ⊥) → c ≡ to_five_call source target → c ≡ converted_in form source target
  unfolding converted_in
  makes_five_lem h e = rw (ne_eqb form 6 h) e

-- ---- its answer

-- the line of a refusal put in front of a buffer
abbrev Put : List ℕ → List ℕ → ℕ → ℕ → Type 0
Put before after r k = (take r after ≡ refused_line k) × (r ≤ 64) × (length after ≡ length before)

-- it has room for it
line_put : (before after : List ℕ) (r k : ℕ) → Put before after r k → 64 ≤ length before → Holds after r (refused_line k)
line_put before after r k p room = (p.0, omega (arith, p.1, p.2))

module _ (answer : Answer) (target : List ℕ) where
  abbrev returned : ConvertReturned
  returned = record { answer = answer; target = target }

  pub refusal_put : (before after : List ℕ) (r : ℕ) → (answer.number ≡ 0 → ⊥) → 64 ≤ length before
      → Put before after r answer.number → Holds after r (answer_bytes returned)
  unfolding answer_bytes
  refusal_put before after r h room p = rw (ne_eqb answer.number 0 h) (line_put before after r answer.number p room)

  pub target_put : (before after : List ℕ) → answer.number ≡ 0 → after ≡ bytes_of target ++ drop (4 * length target) before
      → Holds after (4 * length target) (answer_bytes returned)
  unfolding answer_bytes
  target_put before after h e =
      let n = length_bytes target in
      let rest = drop (4 * length target) before in
      rw (eq-eqb answer.number 0 h, e) (take_at (bytes_of target) rest (4 * length target) n, omega (arith, n, length-append (bytes_of target) rest))

pub call_put : (c d : ConvertReturned) (out : List ℕ) (r : ℕ) → c ≡ d → Holds out r (answer_bytes c) → Holds out r (answer_bytes d)
call_put c d out r e p = rw (← e) p

-- ---- a table

-- the front of a buffer of zeros
zeros_front : (m n : ℕ) → m ≤ n → take {A = ℕ} m (replicate n 0) ≡ replicate m 0
zeros_front zero n h = refl
zeros_front (suc m) zero h = absurd (omega arith)
zeros_front (suc m) (suc n) h = ap (λ (l : List ℕ). 0 ∷ l) (zeros_front m n (omega arith))

pub zeros_long : (m n : ℕ) → m ≤ n → m ≡ length (take {A = ℕ} m (replicate n 0))
zeros_long m n h = sym (length-take-le m (replicate n 0) (omega (arith, length-replicate {A = ℕ} n 0)))

pub table_put : (form m n : ℕ) (bytes words out : List ℕ) (r : ℕ) → m ≤ n
    → words ≡ words_in bytes → Holds out r (answer_bytes (converted_in form words (take m (replicate n 0))))
    → Holds out r (table_bytes form m (words_in bytes))
table_put form m n bytes words out r h g p = rw (← g, ← zeros_front m n h) p

-- ---- a request

module _ (bytes : List ℕ) (fault : ℕ) (e : fault ≡ request_fault bytes) where
  pub fault_put : (before after : List ℕ) (r : ℕ) → (fault ≡ 0 → ⊥) → 64 ≤ length before → Put before after r fault
      → Holds after r (converted_bytes bytes)
  unfolding converted_bytes
  fault_put before after r h room p = rw (← e, ne_eqb fault 0 h) (line_put before after r fault p room)

  pub request_put : (form words : ℕ) (out : List ℕ) (r : ℕ) → fault ≡ 0 → form ≡ wanted_form bytes → words ≡ wanted_words bytes
      → Holds out r (table_bytes form words (words_in (take (length bytes - 4) (drop 4 bytes)))) → Holds out r (converted_bytes bytes)
  unfolding converted_bytes
  request_put form words out r h f g p =
      let all = take_all (length bytes - 4) (drop 4 bytes) (omega (arith, length-drop 4 bytes)) in
      rw (← e, eq-eqb fault 0 h, ← f, ← g, ← all) p
