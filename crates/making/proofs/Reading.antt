-- Reading back the words of good legs and small sizes: the scan passes them, and the entries and sizes that they mean are those written.
use Prim.Native.Nat.{ℕ, suc, ◌+◌, ◌*◌, ◌≤◌, ◌<◌}
use native.Mathlib.Numerals.{one-add}
use native.Mathlib.Omega.{arith}
use mathlib.Core.Path.{◌≡◌, refl, ap, ap₂, ◌∙◌}
use mathlib.Core.List.{List, [], ◌∷◌, ◌++◌, map, append_assoc, append-nil}
use lib.ListN.{length, get_or, length-append, length-map}
use lib.Seq.{take_at, drop_at}
use borrow.Author.Tests.{eq-eqb, ne_eqb, le-leb, lt-ltb, le-ltb, lt-leb}
use Rattle.wcsp.specs.Entry.{Binding}
use Rattle.words.specs.Layout.{kind_of, payload_of, head_word, size_word, binding_word, cost_word}
use Rattle.words.proofs.Reading.{read_binding, read_cost}
use Rattle.words.proofs.Inverse.{binding_kind, cost_kind}
use Rattle.fields.specs.Limits.{max_variables, max_values, max_entries, max_cost}
use Rattle.fields.specs.Front.{front_words}
use Rattle.fields.specs.Entries.{EachSize, nil_each, cons_each, FieldSizes, entries_from}
use Rattle.fields.proofs.Fronts.{head_is, size_is}
use Rattle.fields.proofs.Closing.{closes_cost, cost-some}
use Rattle.entries.specs.Entries.{scan_binding, scan_closing, scan_cost, scan_word, resume, entries_fault}
use Rattle.input.specs.Instance.{stations_fault, instance_fault, sizes_of, entries_of}
use Rattle.sheet.specs.Sheet.{leg_count, stations_from, behind_stations, positions_of, sheet_sizes, entry_words_of}
use Rattle.making.specs.Made.{Leg, leg_entry, all_leg_words, legs_from, made_words, made_entries}
use Rattle.making.specs.Promises.{MadeIsAccepted}
use Rattle.sheet.proofs.Acceptance.{accepted_sheet}
use Rattle.making.proofs.GoodLegs.{GoodLegs, nil_legs, cons_legs, legs_length, good_legs}

-- ---- one word

module _ (sizes : List ℕ) (from count : ℕ) where
  fault_binding : (v a : ℕ) (ws : List ℕ) → from ≤ v → a < get_or sizes v 0 → v < 1048576 → a < 256
      → entries_fault sizes from count (binding_word v a ∷ ws) ≡ entries_fault sizes (suc v) count ws
  unfolding entries_fault scan_word scan_binding resume
  fault_binding v a ws hv ha sv sa =
      let (k, p, q) = binding_kind (binding_word v a) v a (read_binding v a sv sa) in
      rw (eq-eqb (kind_of (binding_word v a)) 3 k, p, q, le-leb from v hv, lt-ltb a (get_or sizes v 0) ha)

  fault-cost : (c : ℕ) (ws : List ℕ) → c ≤ max_cost → count < max_entries
      → entries_fault sizes from count (cost_word c ∷ ws) ≡ entries_fault sizes 0 (suc count) ws
  unfolding entries_fault scan_word scan_cost scan_closing resume
  fault-cost c ws hc room =
      let (k, p) = cost_kind (cost_word c) c (read_cost c (omega arith)) in
      rw (ne_eqb (kind_of (cost_word c)) 3 (omega arith), eq-eqb (kind_of (cost_word c)) 4 k, p, le-ltb max_cost c hc, lt-leb max_entries count room)

module _ (bs : List Binding) where
  means_binding : (v a : ℕ) (ws : List ℕ) → v < 1048576 → a < 256
      → entries_from bs (binding_word v a ∷ ws) ≡ entries_from (bs ++ (record { variable = v; value = a } ∷ [])) ws
  unfolding entries_from
  means_binding v a ws sv sa =
      let (k, p, q) = binding_kind (binding_word v a) v a (read_binding v a sv sa) in
      rw (eq-eqb (kind_of (binding_word v a)) 3 k, p, q)

  means_cost : (c : ℕ) (ws : List ℕ) → c < 268435456
      → entries_from bs (cost_word c ∷ ws) ≡ record { bindings = bs; cost = c } ∷ entries_from [] ws
  unfolding entries_from
  means_cost c ws hc =
      let (n, k) = closes_cost (cost_word c) c (read_cost c hc) in
      rw (n, k, ← cost-some (cost_word c) c (read_cost c hc))

-- ---- legs

legs_pass : {sizes : List ℕ} {legs : List Leg} (count : ℕ) (rest : List ℕ) → GoodLegs sizes legs → count + length legs ≤ max_entries
    → entries_fault sizes 0 count (all_leg_words legs ++ rest) ≡ entries_fault sizes 0 (count + length legs) rest
unfolding all_leg_words
legs_pass {sizes} count rest nil_legs room = ap (λ n. entries_fault sizes 0 n rest) (let e : count ≡ count + 0 = omega arith in e)
legs_pass {sizes} count rest (cons_legs {l = l} {ls = ls} g gs) room =
    let next : suc count + length ls ≡ count + suc (length ls) = omega arith in
    fault_binding sizes 0 count l.variable l.value _ (omega arith) g.from (omega arith) (omega arith) ∙
    fault_binding sizes (suc l.variable) count (suc l.variable) l.next_value _ (omega arith) g.to (omega arith) (omega arith) ∙
    fault-cost sizes (suc (suc l.variable)) count l.metres _ (omega arith) (omega arith) ∙
    legs_pass (suc count) rest gs (omega arith) ∙
    ap (λ n. entries_fault sizes 0 n rest) next

legs_mean : {sizes : List ℕ} {legs : List Leg} (rest : List ℕ) → GoodLegs sizes legs
    → entries_from [] (all_leg_words legs ++ rest) ≡ map leg_entry legs ++ entries_from [] rest
unfolding all_leg_words
legs_mean rest nil_legs = refl
legs_mean rest (cons_legs {l = l} {ls = ls} g gs) =
    means_binding [] l.variable l.value _ (omega arith) (omega arith) ∙
    means_binding (record { variable = l.variable; value = l.value } ∷ []) (suc l.variable) l.next_value _ (omega arith) (omega arith) ∙
    means_cost (leg_entry l).bindings l.metres _ (omega arith) ∙
    ap (λ es. leg_entry l ∷ es) (legs_mean rest gs)

pub leg_words-length : (legs : List Leg) → length (all_leg_words legs) ≡ 3 * length legs
unfolding all_leg_words
leg_words-length [] = refl
leg_words-length (l ∷ ls) = omega (arith, leg_words-length ls)

-- ---- sizes

fault_size : (k : ℕ) (sizes : List ℕ) (d : ℕ) (ws : List ℕ) → 1 ≤ d → d ≤ max_values
    → stations_fault (suc k) sizes (size_word d ∷ ws) ≡ stations_fault k (sizes ++ (d ∷ [])) ws
unfolding stations_fault
fault_size k sizes d ws p s = rw (size_is (size_word d) d (omega arith) (omega arith) p s, ne_eqb d 0 (omega arith))

sizes_pass : {ds : List ℕ} (done rest : List ℕ) → EachSize ds
    → stations_fault (length ds) done (map size_word ds ++ rest) ≡ entries_fault (done ++ ds) 0 0 rest
unfolding stations_fault
sizes_pass done rest nil_each = rw (append-nil done)
sizes_pass done rest (cons_each {x = d} {xs = ds} h small) =
    fault_size (length ds) done d (map size_word ds ++ rest) h.0 h.1 ∙
    sizes_pass (done ++ (d ∷ [])) rest small ∙
    ap (λ sizes. entries_fault sizes 0 0 rest) (append_assoc done (d ∷ []) ds)

sizes_mean : {ds : List ℕ} → EachSize ds → map payload_of (map size_word ds) ≡ ds
sizes_mean nil_each = refl
sizes_mean (cons_each {x = d} h small) =
    let e : payload_of (size_word d) ≡ d = omega arith in
    ap₂ (λ x xs. x ∷ xs) e (sizes_mean small)

-- ---- the whole instance

fault_head : (n : ℕ) (ws : List ℕ) → n ≤ max_variables → instance_fault (head_word n ∷ ws) ≡ stations_fault n [] ws
unfolding instance_fault
fault_head n ws s = rw (head_is (head_word n) n (omega arith) (omega arith) s)

-- the words of sizes, legs and entries' words
abbrev instance_words : List ℕ → List Leg → List ℕ → List ℕ
instance_words ds legs ws = front_words ds ++ (all_leg_words legs ++ ws)

module _ (ds : List ℕ) (legs : List Leg) (ws : List ℕ) (sizes : FieldSizes ds) where
  words_accepted : GoodLegs ds legs → length legs ≡ leg_count ds → leg_count ds ≤ 704 → entries_fault ds 0 (leg_count ds) ws ≡ 0 → instance_fault (instance_words ds legs ws) ≡ 0
  words_accepted good counted many fine =
      fault_head (length ds) (map size_word ds ++ (all_leg_words legs ++ ws)) sizes.most ∙
      sizes_pass [] (all_leg_words legs ++ ws) sizes.each ∙
      legs_pass 0 ws good (omega arith) ∙
      ap (λ n. entries_fault ds 0 n ws) (let e : 0 + length legs ≡ leg_count ds = omega arith in e) ∙
      fine

  head_says : payload_of (head_word (length ds)) ≡ length (map size_word ds)
  head_says = omega (arith, length-map ds size_word)

  words_sizes : sizes_of (instance_words ds legs ws) ≡ ds
  unfolding sizes_of
  words_sizes = rw (head_says, take_at (map size_word ds) (all_leg_words legs ++ ws) (length (map size_word ds)) refl) (sizes_mean sizes.each)

  words_entries : GoodLegs ds legs → entries_of (instance_words ds legs ws) ≡ map leg_entry legs ++ entries_from [] ws
  unfolding entries_of
  words_entries good =
      rw (head_says, one-add (length (map size_word ds)), drop_at (map size_word ds) (all_leg_words legs ++ ws) (length (map size_word ds)) refl) (legs_mean ws good)

  words_length : length legs ≡ leg_count ds → length (instance_words ds legs ws) ≡ 1 + length ds + 3 * leg_count ds + length ws
  words_length counted =
      rw (length-append (map size_word ds) (all_leg_words legs ++ ws), length-map ds size_word, length-append (all_leg_words legs) ws, leg_words-length legs, counted) (omega arith)

-- no words make none
pub made_none : made_words [] ≡ []
unfolding made_words entry_words_of behind_stations positions_of stations_from
made_none = refl

-- the words of the instance made from a sheet that has some
pub made_words_lem : (sheet : List ℕ) → 1 ≤ length sheet
    → made_words sheet ≡ instance_words (sheet_sizes sheet) (legs_from 0 (positions_of sheet)) (entry_words_of sheet)
unfolding made_words
made_words_lem [] h = absurd (omega arith)
made_words_lem (w ∷ ws) h = refl

pub made_accepted : MadeIsAccepted
unfolding made_words made_entries sheet_sizes instance_fault sizes_of entries_of entries_from entry_words_of behind_stations positions_of stations_from leg_count
made_accepted [] fine = record { accepted = refl; sizes = refl; entries = refl; words = refl }
made_accepted (w ∷ ws) fine =
    let sheet : List ℕ = w ∷ ws in
    let a = accepted_sheet sheet fine in
    let legs : List Leg = legs_from 0 (positions_of sheet) in
    let good : GoodLegs (sheet_sizes sheet) legs = good_legs sheet a in
    let counted : length legs ≡ leg_count (sheet_sizes sheet) = legs_length 0 (positions_of sheet) in
    record {
      accepted = words_accepted (sheet_sizes sheet) legs (entry_words_of sheet) a.sizes good counted a.legs a.fault;
      sizes = words_sizes (sheet_sizes sheet) legs (entry_words_of sheet) a.sizes;
      entries = words_entries (sheet_sizes sheet) legs (entry_words_of sheet) a.sizes good;
      words = omega (arith, words_length (sheet_sizes sheet) legs (entry_words_of sheet) a.sizes counted);
    }
