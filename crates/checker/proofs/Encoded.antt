-- A good encoding: what its tests found, and the table that it wrote. A refused one leaves the slice as it was.
use Prim.Native.Nat.{ℕ, ◌+◌, ◌≤◌}
use native.Mathlib.Omega.{arith}
use mathlib.Core.Path.{◌≡◌, refl, sym, ap, ◌∙◌}
use mathlib.Core.Bool.{Bool, true, false, cond}
use mathlib.Core.List.{List}
use lib.ListN.{length}
use lib.Dec.{eqb, ltb}
use borrow.Author.Tests.{eqb-true, eqb-false, ltb-false, eq-eqb, le-ltb}
use Rattle.fields.specs.Answers.{refused, good}
use Rattle.input.specs.Instance.{instance_fault, sizes_of}
use Rattle.table.specs.Layout.{capacity, table_words}
use Rattle.encoding.specs.Calls.{EncodeReturned, encoded_rows, encode_call}

-- what a good encoding found: an accepted instance and room for head, sizes, count and rows
pub record GoodEncoding (inst t : List ℕ) : Type 0 where
  pub accepted : instance_fault inst ≡ 0
  pub room : length (sizes_of inst) + 2 ≤ length t
  pub fits : length (encoded_rows inst) ≤ capacity (length t) (length (sizes_of inst))

-- the tests of the call, by their results
unfoldable pub encodes : (inst t : List ℕ) → Bool → Bool → Bool → EncodeReturned
encodes inst t a b c =
    cond a
    (cond b
    (record { answer = refused 10; table = t })
    (cond c
    (record { answer = refused 12; table = t })
    (record { answer = good (length (encoded_rows inst)); table = table_words (length t) (sizes_of inst) (encoded_rows inst) })))
    (record { answer = refused (instance_fault inst); table = t })

module _ (inst t : List ℕ) where
  pub encode_tests : encode_call inst t
      ≡ encodes inst t (eqb (instance_fault inst) 0) (ltb (length t) (length (sizes_of inst) + 2))
      (ltb (capacity (length t) (length (sizes_of inst))) (length (encoded_rows inst)))
  unfolding encode_call encodes
  encode_tests = refl

  coded_answer : GoodEncoding inst t → encode_call inst t ≡ encodes inst t true false false
  coded_answer c =
      rw (
        encode_tests,
        eq-eqb (instance_fault inst) 0 c.accepted,
        le-ltb (length t) (length (sizes_of inst) + 2) c.room,
        le-ltb (capacity (length t) (length (sizes_of inst))) (length (encoded_rows inst)) c.fits,
      )

  pub coded_number : GoodEncoding inst t → (encode_call inst t).answer.number ≡ 0
  unfolding encodes
  coded_number c = ap (λ r. r.answer.number) (coded_answer c)

  pub coded_table : GoodEncoding inst t → (encode_call inst t).table ≡ table_words (length t) (sizes_of inst) (encoded_rows inst)
  unfolding encodes
  coded_table c = ap (λ r. r.table) (coded_answer c)

  pub coded : (encode_call inst t).answer.number ≡ 0 → GoodEncoding inst t
  unfolding encodes
  coded e = go _ _ _ refl refl refl (sym (ap (λ r. r.answer.number) encode_tests) ∙ e)
    where
      go : (a b c : Bool) → eqb (instance_fault inst) 0 ≡ a → ltb (length t) (length (sizes_of inst) + 2) ≡ b
          → ltb (capacity (length t) (length (sizes_of inst))) (length (encoded_rows inst)) ≡ c
          → (encodes inst t a b c).answer.number ≡ 0 → GoodEncoding inst t
      go true true c p q r h = absurd (omega arith)
      go true false true p q r h = absurd (omega arith)
      go true false false p q r h =
          record {
            accepted = eqb-true (instance_fault inst) 0 p;
            room = ltb-false (length t) (length (sizes_of inst) + 2) q;
            fits = ltb-false (capacity (length t) (length (sizes_of inst))) (length (encoded_rows inst)) r;
          }
      go false b c p q r h = absurd (eqb-false (instance_fault inst) 0 p h)

  kept_so : (a b c : Bool) → encode_call inst t ≡ encodes inst t a b c → ((encode_call inst t).answer.number ≡ 0 → ⊥) → (encode_call inst t).table ≡ t
  unfolding encodes
  kept_so true true c e n = ap (λ r. r.table) e
  kept_so true false true e n = ap (λ r. r.table) e
  kept_so true false false e n = absurd (n (ap (λ r. r.answer.number) e))
  kept_so false b c e n = ap (λ r. r.table) e

  -- a refused encoding leaves the slice as it was
  pub encode_refused : ((encode_call inst t).answer.number ≡ 0 → ⊥) → (encode_call inst t).table ≡ t
  encode_refused n = kept_so _ _ _ encode_tests n
