-- What `encode` answers, from the answers of its parts: one law for each way out.
use Prim.Native.Nat.{ℕ, ◌+◌, ◌*◌, ◌<◌, ◌≤◌}
use native.Mathlib.Omega.{arith}
use mathlib.Core.Path.{◌≡◌, sym, ap, ap₂, subst, ◌∙◌}
use mathlib.Core.Bool.{Bool, true, false}
use mathlib.Core.List.{List, [], map}
use lib.ListN.{length, set, take}
use lib.Dec.{eqb, leb}
use borrow.Author.Tests.{eq-eqb, lt-ltb, le-ltb, leb-true, leb-false}
use Rattle.wcsp.specs.Sign.{full}
use Rattle.wcsp.specs.Widening.{wide_rows}
use Rattle.wcsp.proofs.WideningRows.{length-wide}
use Rattle.words.specs.Layout.{count_word}
use Rattle.clause.specs.declared.Clause.{Clause}
use Rattle.clause.specs.Packed.{signs_of, Holds}
use Rattle.fields.specs.Answers.{Answer}
use Rattle.fields.specs.Padding.{padded, lacking}
use Rattle.fields.specs.Answers.{refused, good}
use Rattle.fields.specs.Entries.{EachSize}
use Rattle.fields.proofs.Padding.{sizes_padded}
use Rattle.fields.specs.declared.refusals.Fault.{Fault}
use Rattle.fields.specs.Numbers.{fault_number}
use Rattle.input.specs.Instance.{instance_fault, sizes_of}
use Rattle.input.proofs.Heads.{fault_known}
use Rattle.rows.specs.Raw.{row_width, Left}
use Rattle.table.specs.Layout.{capacity, table_words}
use Rattle.table.specs.Raws.{raw_of}
use Rattle.table.proofs.Canonical.{room_rows, length_words}
use Rattle.table.proofs.Own.{words_wide}
use Rattle.table.proofs.Finishing.{laid_words, finished}
use Rattle.encoding.specs.Calls.{EncodeReturned, encoded_rows, encode_call}
use Rattle.encoding.specs.Coding.{AllProper, rows_to, Encodable}
use Rattle.encoding.proofs.Instances.{Known, known}

-- the answer and the table are those of the call
abbrev pub Answered : List ℕ → List ℕ → Answer → List ℕ → Type 0
Answered ws t a t' = ◌≡◌ {A = EncodeReturned} (record { answer = a; table = t' }) (encode_call ws t)

-- ---- 1 to 5

pub encode_refused : (ws t : List ℕ) (f : Fault) → fault_number f ≡ instance_fault ws → Answered ws t (refused (fault_number f)) t
unfolding encode_call
encode_refused ws t f e = rw (fault_known f ws e, e)

module _ (ws t ds : List ℕ) (n : ℕ) (fine : 0 ≡ instance_fault ws) (s : ds ≡ sizes_of ws) (e : n ≡ length ds) where
  taken : eqb (instance_fault ws) 0 ≡ true
  taken = eq-eqb (instance_fault ws) 0 (sym fine)

  variables_are : length (sizes_of ws) ≡ n
  variables_are = ap length (sym s) ∙ sym e

  sizes_are : padded ds ≡ padded (sizes_of ws)
  sizes_are = ap padded s

  pub instance_known : Known ws n
  instance_known = rw variables_are at (known ws (sym fine))

  pub sizes_good : (length ds ≤ 12) × EachSize (padded ds)
  sizes_good = let k = instance_known in (omega (arith, k.few, e), rw sizes_are (sizes_padded k.sizes))

  -- ---- 10

  pub encode_short : length t < n + 2 → Answered ws t (refused 10) t
  unfolding encode_call
  encode_short h = rw (taken, variables_are, lt-ltb (length t) (n + 2) h)

  module _ (long : n + 2 ≤ length t) (x : Clause) (q : Holds x (map full (padded ds))) where
    signs_are : signs_of x ≡ map full (padded (sizes_of ws))
    signs_are = q.signs_are ∙ ap (map full) sizes_are

    rows_are : rows_to (signs_of x) (n + 1) (length ws) ws ≡ wide_rows (lacking (sizes_of ws)) (encoded_rows ws)
    rows_are = rw signs_are instance_known.rows

    rows_long : length (rows_to (signs_of x) (n + 1) (length ws) ws) ≡ length (encoded_rows ws)
    rows_long = ap length rows_are ∙ length-wide (lacking (sizes_of ws)) (encoded_rows ws)

    pub words_proper : AllProper (signs_of x) (n + 1) ws
    words_proper = rw signs_are instance_known.proper

    module _ (room : ℕ) (m : room ≡ capacity (length t) n) (b : Bool)
        (g : b ≡ leb (length (rows_to (signs_of x) (n + 1) (length ws) ws)) room) where
      fits_as : leb (length (encoded_rows ws)) room ≡ b
      fits_as = ap (λ m. leb m room) (sym rows_long) ∙ sym g

      -- ---- 12

      pub encode_full : b ≡ false → Answered ws t (refused 12) t
      unfolding encode_call
      encode_full h =
          let l : capacity (length t) n < length (encoded_rows ws) = omega (arith, leb-false (length (encoded_rows ws)) room (fits_as ∙ h)) in
          rw (taken, variables_are, le-ltb (length t) (n + 2) long, lt-ltb (capacity (length t) n) (length (encoded_rows ws)) l)

      -- ---- the encoding

      module _ (ok : b ≡ true) (t₁ : List ℕ) (c : t₁ ≡ table_words (length t) ds []) where
        fits : length (encoded_rows ws) ≤ room
        fits = leb-true (length (encoded_rows ws)) room (fits_as ∙ ok)

        rows_fit : n + 2 + row_width * length (encoded_rows ws) ≤ length t
        rows_fit = room_rows (length t) n (length (encoded_rows ws)) long (omega (arith, fits))

        words_are : t₁ ≡ table_words (length t) (sizes_of ws) []
        words_are = c ∙ ap (λ xs. table_words (length t) xs []) s

        pub cleared_long : length t₁ ≡ length t
        cleared_long = ap length words_are ∙ length_words (length t) (sizes_of ws) [] (omega (arith, variables_are))

        words_own : t₁ ≡ table_words (length t₁) (sizes_of ws) []
        words_own = words_are ∙ ap (λ m. table_words m (sizes_of ws) []) (sym cleared_long)

        pub encodable : Encodable (signs_of x) (n + 1) ws t₁ (n + 2)
        encodable =
            let k = instance_known in
            record {
              proper = words_proper;
              costs = k.costs;
              laid = rw variables_are at (laid_words t₁ (sizes_of ws) [] words_own (omega (arith, variables_are, cleared_long)));
              room = rw rows_long (omega (arith, cleared_long, rows_fit));
            }

        module _ (t₂ : List ℕ) (count : ℕ)
            (w : Left t₁ (n + 2) t₂ (map raw_of (rows_to (signs_of x) (n + 1) (length ws) ws))
            × (count ≡ length (rows_to (signs_of x) (n + 1) (length ws) ws))) where
          counted : count ≡ length (encoded_rows ws)
          counted = w.1 ∙ rows_long

          pub count_small : count ≤ room
          count_small = omega (arith, counted, fits)

          pub written_long : length t₂ ≡ length t
          written_long = w.0.long ∙ cleared_long

          left_encoded : Left t₁ (length (sizes_of ws) + 2) t₂ (map raw_of (wide_rows (lacking (sizes_of ws)) (encoded_rows ws)))
          left_encoded =
              subst (λ m. Left t₁ (m + 2) t₂ (map raw_of (wide_rows (lacking (sizes_of ws)) (encoded_rows ws)))) (sym variables_are) (rw rows_are at w.0)

          table_done : (v : ℕ) → v ≡ count_word count → set t₂ (n + 1) v ≡ table_words (length t) (sizes_of ws) (encoded_rows ws)
          table_done v f =
              let k = lacking (sizes_of ws) in
              ap₂ (λ i u. set t₂ (i + 1) u) (sym variables_are) (f ∙ ap count_word (counted ∙ sym (length-wide k (encoded_rows ws))))
              ∙ finished t₁ t₂ (sizes_of ws) [] (wide_rows k (encoded_rows ws)) words_own left_encoded
              ∙ words_wide (length t₁) k (sizes_of ws) (encoded_rows ws)
              ∙ ap (λ m. table_words m (sizes_of ws) (encoded_rows ws)) cleared_long

          pub encode_done : (v : ℕ) → v ≡ count_word count → Answered ws t (good count) (set t₂ (n + 1) v)
          unfolding encode_call
          encode_done v f =
              let l : length (encoded_rows ws) ≤ capacity (length t) n = omega (arith, fits) in
              rw (taken, variables_are, le-ltb (length t) (n + 2) long, le-ltb (capacity (length t) n) (length (encoded_rows ws)) l)
              (ap₂ (λ m u. record { answer = good m; table = u }) counted (table_done v f))
