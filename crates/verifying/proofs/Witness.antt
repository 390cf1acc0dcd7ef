-- The sheets and certificates, by the laws of a verdict; of the work table the check's answer takes only the length.
use Prim.Native.Nat.{ℕ, ◌*◌, ◌%◌, ◌≤◌, ◌<◌}
use native.Mathlib.Omega.{arith}
use mathlib.Core.Path.{◌≡◌, refl, ap, ◌∙◌}
use mathlib.Core.List.{List, [], ◌∷◌, ◌++◌, append-nil}
use lib.ListN.{length, replicate, length-replicate}
use Rattle.wcsp.specs.Sign.{has, full, complement, within, present}
use Rattle.wcsp.specs.Clause.{tautology, same}
use Rattle.wcsp.specs.Row.{empty_weight, add_all, weight_of, heavy}
use Rattle.wcsp.specs.Entry.{encoded, cost, matches}
use Rattle.wcsp.specs.Rule.{conclusions, permitted}
use Rattle.wcsp.specs.Resolve.{resolve}
use Rattle.words.specs.Layout.{coordinate_payload, head_word, step_word, forbidden_word}
use Rattle.words.specs.Meaning.{coordinate_of}
use Rattle.fields.specs.Limits.{max_values, forbidden_cost}
use Rattle.fields.specs.Front.{head_in, headed, size_in}
use Rattle.fields.specs.Entries.{nil_each, cons_each, entries_from}
use Rattle.fields.specs.Assignment.{is_assignment}
use Rattle.entries.specs.Entries.{entries_fault, resume, scan_closing, scan_word, scan_binding, scan_cost, scan_forbidden}
use Rattle.littleendian.specs.Words.{words_in, bytes_of}
use Rattle.littleendian.proofs.Writing.{length_bytes, written_reads_back}
use Rattle.input.specs.Instance.{instance_fault, sizes_of, entries_of}
use Rattle.sheet.specs.Sheet.{coordinate_in, is_place, leg_count, sheet_stations_fault, sheet_fault, stations_from, behind_stations, positions_of, sheet_sizes, entry_words_of}
use Rattle.table.specs.Layout.{capacity_in}
use Rattle.making.specs.Made.{made_words}
use Rattle.encoding.specs.Calls.{encode_call}
use Rattle.stepping.specs.Step.{allowed}
use Rattle.checker.specs.Answer.{CheckAnswer}
use Rattle.checker.specs.Replay.{replay, named_pair, permitted_pair}
use Rattle.checker.specs.Calls.{check_call, judged, claim_holds}
use Rattle.certificate.specs.Certificate.{binding_words, certificate_words, has_claim}
use Rattle.certificate.specs.Theorems.{Claimable, States}
use Rattle.certificate.proofs.Reading.{written_is_stated}
use Rattle.text.specs.Text.{line, refused_line, accepted_head, variable_line}
use Rattle.listing.specs.Listed.{metres_to, variable_lines}
use Rattle.verifying.specs.Verified.{sheet_words, certificate_room, work_words, checked_words, verdict_of, accepted_text, verified_text}
use Rattle.verifying.specs.Witness.{claim_bytes, two_values, two_made, none_allowed, Verdicts}
use Rattle.verifying.proofs.Verdicts.{uneven, refused_text, accepted_text_lem, stopped_text, checked_none, checked_claim, behind_sheet_lem, behind_both}

-- ---- the checks

abbrev answer : ℕ → ℕ → CheckAnswer
answer number steps = record { number = number; steps = steps }

-- the step on the two rows of `two_made`
abbrev first : ℕ
first = step_word 0 0 1

record Checks (t : List ℕ) : Type 0 where
  nothing : (check_call [] [] [] 0 t).answer ≡ answer 0 0
  nothing_dearer : (check_call [] [] [] 1 t).answer ≡ answer 7 0
  nothing_longer : (check_call [] [] (0 ∷ []) 0 t).answer ≡ answer 7 0
  nothing_derived : (check_call [] (0 ∷ []) [] 0 t).answer ≡ answer 6 0
  least : (check_call two_made (first ∷ []) (1 ∷ []) 1 t).answer ≡ answer 0 1
  other_cost : (check_call two_made (first ∷ []) (1 ∷ []) 2 t).answer ≡ answer 7 1
  other_value : (check_call two_made (first ∷ []) (0 ∷ []) 1 t).answer ≡ answer 7 1
  dearer : (check_call two_made (first ∷ []) (0 ∷ []) 3 t).answer ≡ answer 7 1
  unproved : (check_call two_made [] (1 ∷ []) 1 t).answer ≡ answer 7 0
  twice : (check_call two_made (first ∷ first ∷ []) (1 ∷ []) 1 t).answer ≡ answer 6 1
  barred : (check_call (head_word 0 ∷ forbidden_word ∷ []) [] [] forbidden_cost t).answer ≡ answer 0 0

checks : (t : List ℕ) → length t ≡ work_words → Checks t
unfolding check_call judged claim_holds is_assignment cost matches replay named_pair permitted_pair allowed encode_call instance_fault scan_closing scan_word scan_binding scan_cost scan_forbidden head_in headed size_in entries_from sizes_of entries_of encoded add_all tautology same full capacity_in permitted conclusions resolve within present complement heavy empty_weight weight_of has
checks t e =
    record {
      nothing = rw e;
      nothing_dearer = rw e;
      nothing_longer = rw e;
      nothing_derived = rw e;
      least = rw e;
      other_cost = rw e;
      other_value = rw e;
      dearer = rw e;
      unproved = rw e;
      twice = rw e;
      barred = rw e;
    }

checked : Checks (replicate work_words 0)
checked = checks (replicate work_words 0) (length-replicate {A = ℕ} work_words 0)

-- ---- the sheets

-- bytes of an accepted sheet, and its instance
pub record Sheet (sheet made : List ℕ) : Type 0 where
  pub short : length sheet ≤ 4 * sheet_words
  pub whole : length sheet % 4 ≡ 0
  pub fine : sheet_fault (words_in sheet) ≡ 0
  pub makes : made_words (words_in sheet) ≡ made
  pub room : length made ≤ sheet_words

pub record Sheets : Type 0 where
  pub none : Sheet [] []
  pub two : Sheet two_values two_made
  pub dear : Sheet none_allowed (head_word 0 ∷ forbidden_word ∷ [])

pub sheets : Sheets
unfolding words_in bytes_of coordinate_payload coordinate_of coordinate_in is_place sheet_fault head_in headed size_in sheet_stations_fault leg_count entries_fault scan_word scan_binding scan_cost scan_forbidden scan_closing resume made_words positions_of stations_from sheet_sizes entry_words_of behind_stations
sheets =
    record {
      none = record { short = omega arith; whole = refl; fine = refl; makes = refl; room = omega arith };
      two = record { short = omega arith; whole = refl; fine = refl; makes = refl; room = omega arith };
      dear = record { short = omega arith; whole = refl; fine = refl; makes = refl; room = omega arith };
    }

-- ---- the texts

module _ (sheet made : List ℕ) (s : Sheet sheet made) where
  fits : length (made_words (words_in sheet)) ≤ length (replicate {A = ℕ} sheet_words 0)
  fits = rw s.makes (omega (arith, s.room, length-replicate {A = ℕ} sheet_words 0))

  -- of a certificate whose check is known
  module _ (plan : List ℕ) (cost : ℕ) (derivation : List ℕ) (g : Claimable plan cost) (few : length (certificate_words plan cost derivation) ≤ certificate_room)
      (a : CheckAnswer) (known : (check_call made derivation plan cost (replicate work_words 0)).answer ≡ a) where
    stated : States (certificate_words plan cost derivation) plan cost derivation
    stated = written_is_stated plan cost derivation g

    verdict : verdict_of sheet (claim_bytes plan cost derivation) ≡ a
    verdict =
        let n = length_bytes (certificate_words plan cost derivation) in
        behind_both sheet (claim_bytes plan cost derivation) s.short s.whole s.fine fits (omega (arith, n, few)) (omega (arith, n))
        ∙ rw (written_reads_back (certificate_words plan cost derivation), s.makes)
        (checked_claim made (certificate_words plan cost derivation) stated.claim ∙ rw (stated.plan, stated.cost, stated.derivation) known)

    accepted : a.number ≡ 0 → verified_text sheet (claim_bytes plan cost derivation) ≡ accepted_text (words_in sheet) plan a.steps cost
    accepted z =
        rw (verdict, written_reads_back (certificate_words plan cost derivation))
        (accepted_text_lem (words_in sheet) (certificate_words plan cost derivation) a z ∙ rw (stated.plan, stated.cost))

    refused : (k : ℕ) → a.number ≡ k → (k ≡ 0 → ⊥) → verified_text sheet (claim_bytes plan cost derivation) ≡ refused_line k
    refused k e n = rw verdict (refused_text (words_in sheet) (words_in (claim_bytes plan cost derivation)) a k e n)

-- no assignment, and one of one value
none_claim : (cost : ℕ) → cost < 72057594037927936 → Claimable [] cost
none_claim cost small = record { few = omega arith; values = nil_each; small = small }

one_claim : (a cost : ℕ) → a < max_values → cost < 72057594037927936 → Claimable (a ∷ []) cost
one_claim a cost low small = record { few = omega arith; values = cons_each low nil_each; small = small }

seven : ◌≡◌ {A = ℕ} 7 0 → ⊥
seven z = omega (arith, z)

six : ◌≡◌ {A = ℕ} 6 0 → ⊥
six z = omega (arith, z)

no_claim : verified_text [] [] ≡ refused_line 7
unfolding has_claim words_in
no_claim =
    let s = sheets.none in
    rw (behind_both [] [] s.short s.whole s.fine (fits [] [] s) (omega arith) refl)
    (refused_text (words_in []) (words_in []) (checked_words (made_words (words_in [])) (words_in [])) 7 (ap (λ a. a.number) (checked_none (made_words (words_in [])) (words_in []) refl)) seven)

odd_claim : verified_text [] (0 ∷ []) ≡ refused_line 7
odd_claim =
    let s = sheets.none in
    rw (behind_sheet_lem [] (0 ∷ []) s.short s.whole s.fine (fits [] [] s), ← uneven certificate_room 7 (0 ∷ []) (omega arith) (λ z. omega (arith, z)))
    (stopped_text (words_in []) (words_in (0 ∷ [])) 7 _ seven)

odd_sheet : verified_text (0 ∷ 0 ∷ 0 ∷ []) (claim_bytes [] 0 []) ≡ refused_line 1
unfolding verdict_of
odd_sheet =
    rw (← uneven sheet_words 1 (0 ∷ 0 ∷ 0 ∷ []) (omega arith) (λ z. omega (arith, z)))
    (stopped_text (words_in (0 ∷ 0 ∷ 0 ∷ [])) (words_in (claim_bytes [] 0 [])) 1 _ (λ z. omega (arith, z)))

nothing_accepted : verified_text [] (claim_bytes [] 0 []) ≡ accepted_head 0 0
unfolding binding_words words_in sheet_sizes positions_of stations_from variable_lines
nothing_accepted =
    accepted [] [] sheets.none [] 0 [] (none_claim 0 (omega arith)) (omega arith) (answer 0 0) checked.nothing refl
    ∙ append-nil (accepted_head 0 0)

least_accepted : verified_text two_values (claim_bytes (1 ∷ []) 1 (first ∷ [])) ≡ accepted_head 1 1 ++ variable_line 0 1 0
unfolding binding_words words_in bytes_of sheet_sizes positions_of stations_from variable_lines metres_to
least_accepted =
    accepted two_values two_made sheets.two (1 ∷ []) 1 (first ∷ []) (one_claim 1 1 (omega arith) (omega arith)) (omega arith) (answer 0 1) checked.least refl
    ∙ ap (λ (l : List ℕ). accepted_head 1 1 ++ l) (append-nil (variable_line 0 1 0))

pub verdicts : Verdicts
unfolding binding_words words_in bytes_of sheet_sizes positions_of stations_from variable_lines line
verdicts =
    record {
      nothing = nothing_accepted;
      nothing_says = rw nothing_accepted;
      nothing_read = nothing_accepted;
      nothing_dearer = refused [] [] sheets.none [] 1 [] (none_claim 1 (omega arith)) (omega arith) (answer 7 0) checked.nothing_dearer 7 refl seven;
      nothing_longer = refused [] [] sheets.none (0 ∷ []) 0 [] (one_claim 0 0 (omega arith) (omega arith)) (omega arith) (answer 7 0) checked.nothing_longer 7 refl seven;
      nothing_derived = refused [] [] sheets.none [] 0 (0 ∷ []) (none_claim 0 (omega arith)) (omega arith) (answer 6 0) checked.nothing_derived 6 refl six;
      no_claim = no_claim;
      odd_claim = odd_claim;
      odd_sheet = odd_sheet;
      made = sheets.two.makes;
      least = least_accepted;
      least_says = rw least_accepted;
      other_cost = refused two_values two_made sheets.two (1 ∷ []) 2 (first ∷ []) (one_claim 1 2 (omega arith) (omega arith)) (omega arith) (answer 7 1) checked.other_cost 7 refl seven;
      other_value = refused two_values two_made sheets.two (0 ∷ []) 1 (first ∷ []) (one_claim 0 1 (omega arith) (omega arith)) (omega arith) (answer 7 1) checked.other_value 7 refl seven;
      dearer = refused two_values two_made sheets.two (0 ∷ []) 3 (first ∷ []) (one_claim 0 3 (omega arith) (omega arith)) (omega arith) (answer 7 1) checked.dearer 7 refl seven;
      unproved = refused two_values two_made sheets.two (1 ∷ []) 1 [] (one_claim 1 1 (omega arith) (omega arith)) (omega arith) (answer 7 0) checked.unproved 7 refl seven;
      twice = refused two_values two_made sheets.two (1 ∷ []) 1 (first ∷ first ∷ []) (one_claim 1 1 (omega arith) (omega arith)) (omega arith) (answer 6 1) checked.twice 6 refl six;
      barred =
          accepted none_allowed (head_word 0 ∷ forbidden_word ∷ []) sheets.dear [] forbidden_cost [] (none_claim forbidden_cost (omega arith)) (omega arith) (answer 0 0) checked.barred refl
          ∙ append-nil (accepted_head forbidden_cost 0);
    }
