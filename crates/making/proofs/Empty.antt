-- Sheets with no variables: what is made of them, and the cases by computation.
use Prim.Native.Nat.{ℕ}
use native.Mathlib.Omega.{arith}
use mathlib.Core.Path.{◌≡◌, refl, sym, ap, ◌∙◌}
use mathlib.Core.List.{List, [], ◌∷◌}
use lib.ListN.{length}
use Rattle.words.specs.Layout.{payload_of, head_word}
use Rattle.fields.specs.Front.{head_in, headed, size_in}
use Rattle.fields.proofs.Fronts.{head_some}
use Rattle.entries.specs.Entries.{entries_fault, scan_word, scan_binding, scan_cost, scan_forbidden, scan_closing, resume}
use Rattle.input.proofs.Validating.{Headed, with_head}
use Rattle.sheet.specs.Sheet.{leg_count, sheet_stations_fault, sheet_fault, stations_from, behind_stations, positions_of, sheet_sizes, entry_words_of}
use Rattle.sheet.proofs.Acceptance.{sheet_headed}
use Rattle.sheet.proofs.Sheets.{sizes_number}
use Rattle.making.specs.Made.{all_leg_words, legs_from, made_words}
use Rattle.making.specs.Calls.{make_call}
use Rattle.making.specs.Empty.{EmptyMade, EmptyMakes}
use Rattle.making.proofs.Reading.{made_none, made_words_lem}

head_of_none : (w n : ℕ) (ws : List ℕ) → Headed (w ∷ ws) n → n ≡ 0 → w ≡ head_word 0
head_of_none w n ws (with_head e) z = let (k, p, l) = head_some w n e in omega arith

pub empty_made : EmptyMade
unfolding entry_words_of behind_stations positions_of stations_from legs_from all_leg_words
empty_made [] fine none = made_none
empty_made (w ∷ ws) fine none =
    let (n, h) = sheet_headed (w ∷ ws) fine in
    let z : n ≡ 0 = sym (sizes_number (w ∷ ws) n h) ∙ ap length none in
    let e : w ≡ head_word 0 = head_of_none w n ws h z in
    let p : payload_of w ≡ 0 = omega arith in
    made_words_lem (w ∷ ws) (omega arith) ∙ rw (none, p) (ap (λ v. v ∷ ws) (sym e))

pub empty_makes : EmptyMakes
unfolding make_call made_words sheet_fault head_in headed size_in sheet_stations_fault leg_count entries_fault scan_word scan_binding scan_cost scan_forbidden scan_closing resume sheet_sizes entry_words_of behind_stations positions_of stations_from
empty_makes =
    record {
      nothing = refl;
      kept = refl;
      head = refl;
      short = refl;
      constants = refl;
      binding = refl;
      station = refl;
      no_head = refl;
      twelve = refl;
      thirteen = refl;
    }
