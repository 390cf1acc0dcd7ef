-- What an answer means: a refusal or a table, by the call that is made; and there and back, by the two calls.
use Prim.Native.Nat.{ℕ, ◌+◌, ◌*◌, ◌/◌, ◌%◌, ◌≤◌, ◌<◌}
use native.Mathlib.Omega.{arith}
use mathlib.Core.Path.{◌≡◌, refl, sym, ap, ◌∙◌}
use mathlib.Core.Logic.{◌≢◌}
use mathlib.Core.Bool.{Bool, true, false}
use mathlib.Core.List.{List, [], ◌∷◌}
use lib.ListN.{length, get_or, drop, replicate, length-replicate}
use lib.Dec.{eqb}
use borrow.Author.Tests.{eqb-true, eqb-false, eq-eqb, ne_eqb}
use Rattle.littleendian.specs.Words.{words_in, word_at, bytes_of}
use Rattle.littleendian.proofs.Writing.{length_bytes, length_words, one_back, written_reads_back, read_writes_back}
use Rattle.text.specs.Text.{line, refused_line}
use Rattle.table.specs.Form.{TableForm}
use Rattle.table.specs.Raws.{standard_form}
use Rattle.table.specs.Meaning.{variables_of, table_sizes, own_rows_in}
use Rattle.table.specs.TableLaws.{TableLaws}
use Rattle.table.proofs.FormTables.{PassedIn, passed, length_sizes, room_rows}
use Rattle.table.proofs.FormTables as forms
use Rattle.table.proofs.RawRows.{table_laws}
use Rattle.table.specs.Five.{five_form}
use Rattle.table.proofs.FiveLaws.{five_laws}
use Rattle.conversion.specs.Calls.{ConvertReturned, convert_call}
use Rattle.conversion.specs.Theorems.{KeepsIn, BackIn}
use Rattle.conversion.proofs.Theorems.{good_of, of_good, conversions}
use Rattle.converter.specs.Converted.{most_words, wanted_form, wanted_words, table_in, request_fault, converted_in, answer_bytes, converted_bytes}
use Rattle.converter.specs.Theorems.{letter_r, Made, Answers, refuses, makes_six, makes_five, ConvertedMeans, request, RestoredFrom, ThereAndBack}
use Rattle.converter.proofs.Requests.{fine, no_fault}

-- ---- refusals

line_first : (k : ℕ) → get_or (refused_line k) 0 0 ≡ letter_r
unfolding line
line_first k = refl

module _ (bytes : List ℕ) where
  faulty : request_fault bytes ≢ 0 → converted_bytes bytes ≡ refused_line (request_fault bytes)
  unfolding converted_bytes
  faulty h = rw (ne_eqb (request_fault bytes) 0 h)

  -- an answer that begins otherwise is no refusal
  no_refusal : get_or (converted_bytes bytes) 0 0 ≢ letter_r → request_fault bytes ≡ 0
  no_refusal h = go (eqb (request_fault bytes) 0) refl
    where
      go : (b : Bool) → eqb (request_fault bytes) 0 ≡ b → request_fault bytes ≡ 0
      go true e = eqb-true (request_fault bytes) 0 e
      go false e = absurd (h (ap (λ l. get_or l 0 0) (faulty (eqb-false (request_fault bytes) 0 e)) ∙ line_first (request_fault bytes)))

-- the answer to a call
module _ (c : ConvertReturned) where
  call_good : c.answer.number ≡ 0 → answer_bytes c ≡ bytes_of c.target
  unfolding answer_bytes
  call_good h = rw (eq-eqb c.answer.number 0 h)

  call_refused : c.answer.number ≢ 0 → answer_bytes c ≡ refused_line c.answer.number
  unfolding answer_bytes
  call_refused h = rw (ne_eqb c.answer.number 0 h)

  call_no_refusal : get_or (answer_bytes c) 0 0 ≢ letter_r → c.answer.number ≡ 0
  call_no_refusal h = go (eqb c.answer.number 0) refl
    where
      go : (b : Bool) → eqb c.answer.number 0 ≡ b → c.answer.number ≡ 0
      go true e = eqb-true c.answer.number 0 e
      go false e =
          absurd (h (ap (λ l. get_or l 0 0) (call_refused (eqb-false c.answer.number 0 e)) ∙ line_first c.answer.number))

-- ---- the call of each form

-- a request for this form with nothing wrong is answered by the conversion from f to g
abbrev AskedAs : ℕ → TableForm → TableForm → Type 0
AskedAs form f g = (bytes : List ℕ) → request_fault bytes ≡ 0 → wanted_form bytes ≡ form
    → converted_bytes bytes ≡ answer_bytes (convert_call f g (table_in bytes) (replicate (wanted_words bytes) 0))

asked_six : AskedAs 6 five_form standard_form
unfolding converted_bytes converted_in
asked_six bytes h e = rw (eq-eqb (request_fault bytes) 0 h, eq-eqb (wanted_form bytes) 6 e)

asked_five : AskedAs 5 standard_form five_form
unfolding converted_bytes converted_in
asked_five bytes h e = rw (eq-eqb (request_fault bytes) 0 h, ne_eqb (wanted_form bytes) 6 (λ k. omega (arith, k, e)))

-- ---- the table that was made

-- the first byte is that of the first word
first_byte : (t : List ℕ) → get_or (bytes_of t) 0 0 ≡ get_or t 0 0 % 256
unfolding bytes_of
first_byte [] = refl
first_byte (w ∷ t) = refl

first_stations : (g : TableForm) (t : List ℕ) → PassedIn g t → get_or (bytes_of t) 0 0 ≡ variables_of t
first_stations g t p = omega (arith, first_byte t, p.head, p.few)

module _ (f g : TableForm) (law : TableLaws f) (other : TableLaws g) where
  -- the target keeps its length
  kept_long : (source target : List ℕ) → (convert_call f g source target).answer.number ≡ 0 → length (convert_call f g source target).target ≡ length target
  kept_long source target e =
      let h = good_of f g source target e in
      let n = length_sizes f law source (passed f source h.valid) in
      let r = room_rows g (length target) (variables_of source) (length (own_rows_in f source)) h.place h.fits in
      ap (λ c. length c.target) (of_good f g source target h)
      ∙ forms.length_words g other.form (length target) (table_sizes source) (own_rows_in f source) (rw n r)

  module _ (keeps : KeepsIn f g) (bytes : List ℕ) where
    abbrev called : ConvertReturned
    called = convert_call f g (table_in bytes) (replicate (wanted_words bytes) 0)

    made : called.answer.number ≡ 0 → Made f g bytes (bytes_of called.target)
    made e =
        let s = keeps (table_in bytes) (replicate (wanted_words bytes) 0) e in
        let p = passed g called.target s.valid in
        let b = written_reads_back called.target in
        let n = kept_long (table_in bytes) (replicate (wanted_words bytes) 0) e in
        record {
          long = omega (arith, length_bytes called.target, n, length-replicate {A = ℕ} (wanted_words bytes) 0);
          first = rw b (first_stations g called.target p);
          few = omega (arith, first_stations g called.target p, p.few);
          same = rw b s;
        }

    answered : ((a : List ℕ) → Made f g bytes a → Answers bytes a) → Answers bytes (answer_bytes called)
    answered makes = go (eqb called.answer.number 0) refl
      where
        go : (b : Bool) → eqb called.answer.number 0 ≡ b → Answers bytes (answer_bytes called)
        go true e = let z = eqb-true called.answer.number 0 e in rw (call_good called z) (makes _ (made z))
        go false e =
            let z = eqb-false called.answer.number 0 e in
            refuses called.answer.number z (call_refused called z) (ap (λ l. get_or l 0 0) (call_refused called z) ∙ line_first called.answer.number)

pub converted_means : ConvertedMeans
converted_means bytes = go (eqb (request_fault bytes) 0) (eqb (wanted_form bytes) 6) refl refl
  where
    go : (a b : Bool) → eqb (request_fault bytes) 0 ≡ a → eqb (wanted_form bytes) 6 ≡ b → Answers bytes (converted_bytes bytes)
    go false b e f =
        let z = eqb-false (request_fault bytes) 0 e in
        refuses (request_fault bytes) z (faulty bytes z) (ap (λ l. get_or l 0 0) (faulty bytes z) ∙ line_first (request_fault bytes))
    go true true e f =
        let z = eqb-true (request_fault bytes) 0 e in
        let six = eqb-true (wanted_form bytes) 6 f in
        rw (asked_six bytes z six)
        (answered five_form standard_form five_laws table_laws conversions.six_keeps bytes (λ a m. makes_six six m))
    go true false e f =
        let z = eqb-true (request_fault bytes) 0 e in
        let h = fine bytes z in
        let five : wanted_form bytes ≡ 5 = omega (arith, h.low, h.high, eqb-false (wanted_form bytes) 6 f) in
        rw (asked_five bytes z five)
        (answered standard_form five_form table_laws five_laws conversions.five_keeps bytes (λ a m. makes_five five m))

-- ---- there and back

-- the parts of a request
module _ (form words : ℕ) (file : List ℕ) where
  request_word : word_at (request form words file) 0 ≡ form * 268435456 + words
  unfolding bytes_of
  request_word = one_back (form * 268435456 + words)

  request_file : drop 4 (request form words file) ≡ file
  unfolding bytes_of
  request_file = refl

  request_long : length (request form words file) ≡ 4 + length file
  unfolding bytes_of
  request_long = omega arith

  request_form : words < 268435456 → wanted_form (request form words file) ≡ form
  request_form h = rw request_word (omega arith)

  request_words : words < 268435456 → wanted_words (request form words file) ≡ words
  request_words h = rw request_word (omega arith)

  -- a file of whole words that fits, for a target that fits, is no faulty request
  request_fine : words ≤ most_words → 5 ≤ form → form ≤ 6 → length file % 4 ≡ 0 → length file ≤ 4 * most_words → request_fault (request form words file) ≡ 0
  request_fine h low high whole short =
      let small : words < 268435456 = omega arith in
      let n = request_long in
      let f = request_form small in
      sym
      (no_fault
      (request form words file)
      (omega (arith, n))
      (omega (arith, n))
      (λ z. omega (arith, n, z))
      (omega (arith, f))
      (omega (arith, f))
      (omega (arith, request_words small)))

  -- the answer to a request with nothing wrong
  request-asked : (f g : TableForm) → AskedAs form f g → words < 268435456 → request_fault (request form words file) ≡ 0
      → converted_bytes (request form words file) ≡ answer_bytes (convert_call f g (words_in file) (replicate words 0))
  request-asked f g asked h z =
      asked (request form words file) z (request_form h) ∙ rw (request_file, request_words h)

module _ (f g : TableForm) (law : TableLaws f) (other : TableLaws g) (back : BackIn f g) (to from : ℕ) (low : 5 ≤ from) (high : from ≤ 6)
    (there : AskedAs to f g) (again : AskedAs from g f) where
  restored : RestoredFrom to from
  restored file words bs h first =
      let z = no_refusal (request to words file) first in
      let p = fine (request to words file) z in
      let n = request_long to words file in
      let w = request_words to words file h in
      let whole : length file % 4 ≡ 0 = omega (arith, p.whole, n) in
      let a = request-asked to words file f g there h z in
      let c = convert_call f g (words_in file) (replicate words 0) in
      let e = call_no_refusal c (rw a at first) in
      let k = kept_long f g law other (words_in file) (replicate words 0) e in
      let m = length-replicate {A = ℕ} words 0 in
      let l = length_bytes c.target in
      let few : length file / 4 ≤ most_words = omega (arith, p.short, n) in
      let y = request_fine from (length file / 4) (bytes_of c.target) few low high (omega (arith, l)) (omega (arith, l, k, m, w, p.room)) in
      let b = back (words_in file) (replicate words 0) (replicate (length file / 4) 0) e (length-replicate (length file / 4) 0 ∙ sym (length_words file)) in
      rw (a, call_good c e)
      (request-asked from (length file / 4) (bytes_of c.target) g f again (omega arith) y
      ∙ rw (written_reads_back c.target, b) (call_good _ refl ∙ read_writes_back file bs whole))

pub there_and_back : ThereAndBack
there_and_back =
    record {
      six_and_back = restored five_form standard_form five_laws table_laws conversions.six_and_back 6 5 (omega arith) (omega arith) asked_six asked_five;
      five_and_back = restored standard_form five_form table_laws five_laws conversions.five_and_back 5 6 (omega arith) (omega arith) asked_five asked_six;
    }
