-- A sheet's fault comes apart into that of its stations and that of its entries, its answer is made from those of the phases, and what the answer tells.
use Prim.Native.Nat.{ℕ, zero, suc, ◌+◌, ◌-◌, ◌*◌, ◌%◌, ◌≤◌}
use native.Mathlib.Omega.{arith}
use native.Mathlib.Decide.{dec_le}
use mathlib.Core.Path.{◌≡◌, refl, sym, subst, ap, ap₂, ◌∙◌}
use mathlib.Core.Bool.{Bool, true, false, ◌&&◌, cond}
use mathlib.Core.List.{List, [], ◌∷◌, ◌++◌, map, append-nil}
use mathlib.Core.Option.{Option, none, some}
use lib.ListN.{length, get_or, drop, length-map, length-drop, drop_of_length-le}
use lib.Seq.{append_snoc, drop-drop, drop-length}
use lib.Dec.{eqb}
use borrow.Author.Tests.{eq-eqb, eqb-false, ne_eqb}
use Rattle.std.proofs.Common.{Ok, Err}
use Rattle.words.specs.Layout.{payload_of}
use Rattle.fields.specs.Front.{head_in, headed, size_in}
use Rattle.fields.specs.Numbers.{fault_number}
use Rattle.fields.specs.declared.refusals.Fault.{Fault}
use Rattle.fields.specs.declared.refusals.Fault.TheVariants.{BadHead, BadVariable, BadEntry, CostTooHigh, TooManyEntries}
use Rattle.entries.specs.Entries.{entries_fault}
use Rattle.input.proofs.Validating.{Headed, without_words, with_head, headed_payload}
use Rattle.input.specs.Heads.{head_read}
use Rattle.sheet.specs.declared.Sheet.{Sheet}
use Rattle.sheet.specs.Sheet.{is_easting, is_northing, leg_count, sheet_stations_fault, sheet_fault, stations_from, behind_stations, sheet_sizes, entry_words_of}
use Rattle.sheet.specs.Phases.{place_next, good_positions, good_stations}
use Rattle.sheet.specs.Calls.{sheet_call}
use Rattle.sheet.specs.Reads.{read_of}
use Rattle.sheet.proofs.Located.{with_size, sizes_more, behind_more}

-- ---- the coordinates of d values

module _ (k : ℕ) (sizes : List ℕ) where
  ends : (m : ℕ) → sheet_stations_fault k (suc m) sizes [] ≡ 2
  unfolding sheet_stations_fault
  ends m = go k
    where
      go : (k : ℕ) → sheet_stations_fault k (suc m) sizes [] ≡ 2
      go zero = refl
      go (suc k) = refl

  goes_on : (m w : ℕ) (ws : List ℕ) → sheet_stations_fault k (suc m) sizes (w ∷ ws)
      ≡ cond (cond (eqb (suc m % 2) 0) (is_easting w) (is_northing w)) (sheet_stations_fault k m sizes ws) 2
  unfolding sheet_stations_fault
  goes_on m w ws = go k
    where
      go : (k : ℕ) → sheet_stations_fault k (suc m) sizes (w ∷ ws)
          ≡ cond (cond (eqb (suc m % 2) 0) (is_easting w) (is_northing w)) (sheet_stations_fault k m sizes ws) 2
      go zero = refl
      go (suc k) = refl

  east : (m : ℕ) (ws : List ℕ) → suc m % 2 ≡ 0
      → sheet_stations_fault k (suc m) sizes ws ≡ cond (place_next 8 ws) (sheet_stations_fault k m sizes (drop 1 ws)) 2
  east m [] e = ends m
  east m (w ∷ ws) e = goes_on m w ws ∙ rw (eq-eqb (suc m % 2) 0 e)

  north : (m : ℕ) (ws : List ℕ) → suc m % 2 ≡ 1
      → sheet_stations_fault k (suc m) sizes ws ≡ cond (place_next 9 ws) (sheet_stations_fault k m sizes (drop 1 ws)) 2
  north m [] e = ends m
  north m (w ∷ ws) e = goes_on m w ws ∙ rw (ne_eqb (suc m % 2) 0 (omega arith))

  nested : (a b c : Bool) (x : ℕ) → cond a (cond b (cond c x 2) 2) 2 ≡ cond (a && b && c) x 2
  nested true true c x = refl
  nested true false c x = refl
  nested false b c x = refl

  pub positions_apart : (d : ℕ) (ws : List ℕ) → sheet_stations_fault k (2 * d) sizes ws
      ≡ cond (good_positions d ws) (sheet_stations_fault k 0 sizes (drop (2 * d) ws)) 2
  unfolding good_positions
  positions_apart zero ws = refl
  positions_apart (suc d) ws =
      let m : 2 * suc d ≡ suc (suc (2 * d)) = omega arith in
      let o : drop (2 * d) (drop 2 ws) ≡ drop (2 * suc d) ws =
      drop-drop (2 * d) 2 ws ∙ ap (λ j. drop j ws) (let i : 2 + 2 * d ≡ 2 * suc d = omega arith in i) in
      ap (λ j. sheet_stations_fault k j sizes ws) m
      ∙ east (suc (2 * d)) ws (omega arith)
      ∙ ap (λ x. cond (place_next 8 ws) x 2)
      (north (2 * d) (drop 1 ws) (omega arith)
      ∙ ap (λ x. cond (place_next 9 (drop 1 ws)) x 2)
      (ap (sheet_stations_fault k (2 * d) sizes) (drop-drop 1 1 ws) ∙ positions_apart d (drop 2 ws)))
      ∙ nested (place_next 8 ws) (place_next 9 (drop 1 ws)) (good_positions d (drop 2 ws))
      (sheet_stations_fault k 0 sizes (drop (2 * d) (drop 2 ws)))
      ∙ ap (λ r. cond (place_next 8 ws && place_next 9 (drop 1 ws) && good_positions d (drop 2 ws)) (sheet_stations_fault k 0 sizes r) 2) o

-- ---- k stations

both : (a b : Bool) (x : ℕ) → cond a (cond b x 2) 2 ≡ cond (a && b) x 2
both true b x = refl
both false b x = refl

-- the fault of the entries, their legs counted first
abbrev entries_part : List ℕ → List ℕ → ℕ
entries_part ds ws = entries_fault ds 0 (leg_count ds) ws

one_station : (k d w : ℕ) (sizes ws : List ℕ) → 1 ≤ d → size_in w ≡ d
    → sheet_stations_fault k 0 (sizes ++ (d ∷ [])) (drop (2 * d) ws)
    ≡ cond (good_stations k (drop (2 * d) ws))
    (entries_part (sizes ++ (d ∷ []) ++ map length (stations_from k (drop (2 * d) ws))) (behind_stations k (drop (2 * d) ws)))
    2
    → sheet_stations_fault k (2 * d) (sizes ++ (d ∷ [])) ws
    ≡ cond (good_positions d ws && good_stations k (drop (2 * d) ws))
    (entries_part (sizes ++ map length (stations_from (suc k) (w ∷ ws))) (behind_stations (suc k) (w ∷ ws)))
    2
one_station k d w sizes ws h e ih =
    let o : 1 + 2 * d ≡ suc (2 * d) = omega arith in
    let ds : map length (stations_from (suc k) (w ∷ ws)) ≡ d ∷ map length (stations_from k (drop (2 * d) ws)) =
    sizes_more k d (w ∷ ws) (with_size h e) ∙ ap (λ j. d ∷ map length (stations_from k (drop j (w ∷ ws)))) o in
    let es : behind_stations (suc k) (w ∷ ws) ≡ behind_stations k (drop (2 * d) ws) =
    behind_more k d (w ∷ ws) (with_size h e) ∙ ap (λ j. behind_stations k (drop j (w ∷ ws))) o in
    positions_apart k (sizes ++ (d ∷ [])) d ws
    ∙ ap (λ x. cond (good_positions d ws) x 2) ih
    ∙ both (good_positions d ws) (good_stations k (drop (2 * d) ws))
    (entries_part (sizes ++ (d ∷ []) ++ map length (stations_from k (drop (2 * d) ws))) (behind_stations k (drop (2 * d) ws)))
    ∙ ap (λ x. cond (good_positions d ws && good_stations k (drop (2 * d) ws)) x 2)
    (ap₂ entries_part
    (append_snoc sizes d (map length (stations_from k (drop (2 * d) ws))) ∙ ap (λ xs. sizes ++ xs) (sym ds))
    (sym es))

pub sheet_apart : (k : ℕ) (sizes ws : List ℕ) → sheet_stations_fault k 0 sizes ws
    ≡ cond (good_stations k ws) (entries_part (sizes ++ map length (stations_from k ws)) (behind_stations k ws)) 2
unfolding sheet_stations_fault good_stations stations_from behind_stations
sheet_apart zero sizes [] = ap (λ ds. entries_part ds []) (sym (append-nil sizes))
sheet_apart zero sizes (w ∷ ws) = ap (λ ds. entries_part ds (w ∷ ws)) (sym (append-nil sizes))
sheet_apart (suc k) sizes [] = refl
sheet_apart (suc k) sizes (w ∷ ws) =
    go (size_in w) (eqb (size_in w) 0) refl refl
    (sheet_apart k (sizes ++ (size_in w ∷ [])) (drop (2 * size_in w) ws))
  where
    go : (d : ℕ) (b : Bool) → size_in w ≡ d → eqb d 0 ≡ b
        → sheet_stations_fault k 0 (sizes ++ (d ∷ [])) (drop (2 * d) ws)
        ≡ cond (good_stations k (drop (2 * d) ws))
        (entries_part (sizes ++ (d ∷ []) ++ map length (stations_from k (drop (2 * d) ws))) (behind_stations k (drop (2 * d) ws)))
        2
        → cond b 2 (sheet_stations_fault k (2 * d) (sizes ++ (d ∷ [])) ws)
        ≡ cond (cond b false (good_positions d ws && good_stations k (drop (2 * d) ws)))
        (entries_part (sizes ++ map length (stations_from (suc k) (w ∷ ws))) (behind_stations (suc k) (w ∷ ws)))
        2
    go d true e f ih = refl
    go d false e f ih = let n = eqb-false d 0 f in one_station k d w sizes ws (omega arith) e ih

-- ---- what stands behind the stations is a last part of the words

pub behind_suffix : (k : ℕ) (ws : List ℕ) → (j : ℕ) × (behind_stations k ws ≡ drop j ws)
unfolding behind_stations
behind_suffix zero ws = (0, refl)
behind_suffix (suc k) ws =
    let (j, e) = behind_suffix k (drop (1 + 2 * payload_of (get_or ws 0 0)) ws) in
    (1 + 2 * payload_of (get_or ws 0 0) + j, e ∙ drop-drop j (1 + 2 * payload_of (get_or ws 0 0)) ws)

suffix_at : (ws : List ℕ) (j : ℕ) → drop (length ws - length (drop j ws)) ws ≡ drop j ws
suffix_at ws j = go (dec_le j (length ws))
  where
    go : Dec (j ≤ length ws) → drop (length ws - length (drop j ws)) ws ≡ drop j ws
    go (yes h) = let o : length ws - length (drop j ws) ≡ j = omega (arith, length-drop j ws) in rw o
    go (no h) =
        let l : length ws ≤ j = omega arith in
        let e : drop j ws ≡ [] = drop_of_length-le ws l in
        let o : length ws - 0 ≡ length ws = omega arith in
        rw (e, o) (drop-length ws)

-- the entries' words start where what stands before them ends
pub entries_start : (ws : List ℕ) → drop (length ws - length (entry_words_of ws)) ws ≡ entry_words_of ws
unfolding entry_words_of
entries_start ws =
    let (j, e) = behind_suffix (payload_of (get_or ws 0 0)) (drop 1 ws) in
    let f : behind_stations (payload_of (get_or ws 0 0)) (drop 1 ws) ≡ drop (1 + j) ws = e ∙ drop-drop j 1 ws in
    rw f (suffix_at ws (1 + j))

words_within : (ws : List ℕ) → length (entry_words_of ws) ≤ length ws
words_within ws = omega (arith, ap length (entries_start ws), length-drop (length ws - length (entry_words_of ws)) ws)

-- ---- the whole

pub stations_length : (k : ℕ) (ws : List ℕ) → length (stations_from k ws) ≡ k
unfolding stations_from
stations_length zero ws = refl
stations_length (suc k) ws = ap suc (stations_length k (drop (1 + 2 * payload_of (get_or ws 0 0)) ws))

module _ (ws : List ℕ) (n : ℕ) (h : Headed ws n) where
  pub sizes_are : sheet_sizes ws ≡ map length (stations_from n (drop 1 ws))
  unfolding sheet_sizes
  sizes_are = rw (headed_payload ws n h)

  pub sizes_number : length (sheet_sizes ws) ≡ n
  sizes_number = rw (sizes_are, length-map (stations_from n (drop 1 ws)) length) (stations_length n (drop 1 ws))

  pub entries_are : entry_words_of ws ≡ behind_stations n (drop 1 ws)
  unfolding entry_words_of
  entries_are = rw (headed_payload ws n h)

  pub whole_apart : sheet_fault ws ≡ cond (good_stations n (drop 1 ws)) (entries_part (sheet_sizes ws) (entry_words_of ws)) 2
  unfolding sheet_fault good_stations stations_from behind_stations entries_fault
  whole_apart = rw (sizes_are, entries_are) (apart n ws h)
    where
      apart : (n : ℕ) (ws : List ℕ) → Headed ws n
          → sheet_fault ws ≡ cond (good_stations n (drop 1 ws)) (entries_part (map length (stations_from n (drop 1 ws))) (behind_stations n (drop 1 ws))) 2
      apart n [] without_words = refl
      apart n (w ∷ ws) (with_head e) = rw e (sheet_apart n [] ws)

-- ---- what the reader's answer tells

-- a fault has a number
pub fault_some : (f : Fault) → fault_number f ≡ 0 → ⊥
fault_some BadHead e = omega arith
fault_some BadVariable e = omega arith
fault_some BadEntry e = omega arith
fault_some CostTooHigh e = omega arith
fault_some TooManyEntries e = omega arith

pub no_head : (ws : List ℕ) (f : Fault) → Err f ≡ head_read ws → fault_number f ≡ sheet_fault ws
unfolding sheet_fault headed
no_head [] f e = let z : ◌≡◌ {A = ℕ} 0 1 = cc in absurd (omega arith)
no_head (w ∷ ws) f e = go (head_in w) e
  where
    go : (o : Option ℕ) → Err f ≡ headed (Err BadHead) Ok o → fault_number f ≡ headed 1 (λ n. sheet_stations_fault n 0 [] ws) o
    go none h = let o : f ≡ BadHead = cc in rw o
    go (some n) h = let z : ◌≡◌ {A = ℕ} 0 1 = cc in absurd (omega arith)

pub headed_of : (ws : List ℕ) (n : ℕ) → Ok n ≡ head_read ws → Headed ws n
unfolding headed
headed_of [] n e = let z : 0 ≡ n = cc in subst (λ k. Headed [] k) z without_words
headed_of (w ∷ ws) n e = with_head (go (head_in w) e)
  where
    go : (o : Option ℕ) → Ok n ≡ headed (Err BadHead) Ok o → o ≡ some n
    go none h = let z : ◌≡◌ {A = ℕ} 0 1 = cc in absurd (omega arith)
    go (some k) h = let z : k ≡ n = cc in ap some z

-- good stations have no number
pub stations_fine : (b : Bool) → ◌≡◌ {A = ℕ} 0 (cond b 0 2) → b ≡ true
stations_fine true e = refl
stations_fine false e = absurd (omega arith)

-- the head is read, and these words are left
module _ (ws : List ℕ) (n : ℕ) (h : Headed ws n) (rest : List ℕ) (passed : rest ≡ drop 1 ws) where
  pub stations_broken : (f : Fault) → fault_number f ≡ cond (good_stations n rest) 0 2 → fault_number f ≡ sheet_fault ws
  stations_broken f e = go (good_stations n (drop 1 ws)) refl (e ∙ ap (λ xs. cond (good_stations n xs) 0 2) passed)
    where
      go : (b : Bool) → good_stations n (drop 1 ws) ≡ b → fault_number f ≡ cond b 0 2 → fault_number f ≡ sheet_fault ws
      go true g k = absurd (fault_some f k)
      go false g k = k ∙ sym (whole_apart ws n h ∙ rw g)

  -- so are the stations, and these words are left
  module _ (left : List ℕ) (behind : left ≡ behind_stations n rest) where
    pub entries_left : (left ≡ entry_words_of ws) × (length left ≤ length ws)
    entries_left =
        let q : left ≡ entry_words_of ws = behind ∙ ap (behind_stations n) passed ∙ sym (entries_are ws n h) in
        (q, omega (arith, ap length q, words_within ws))

    module _ (sizes : List ℕ) (found : sizes ≡ map length (stations_from n rest)) (good : good_stations n rest ≡ true) where
      pub sizes_read : sizes ≡ sheet_sizes ws
      sizes_read = found ∙ ap (λ xs. map length (stations_from n xs)) passed ∙ sym (sizes_are ws n h)

      pub scanned : (k legs : ℕ) (xs ys : List ℕ) → xs ≡ sizes → legs ≡ leg_count xs → ys ≡ sizes → k ≡ entries_fault ys 0 legs left → k ≡ sheet_fault ws
      scanned k legs xs ys x l y e =
          let g : good_stations n (drop 1 ws) ≡ true = ap (good_stations n) (sym passed) ∙ good in
          let whole : sheet_fault ws ≡ entries_part (sheet_sizes ws) (entry_words_of ws) = whole_apart ws n h ∙ rw g in
          e ∙ rw (y, l, x, sizes_read, entries_left.0) (sym whole)

-- the fault alone makes the whole answer, and where there is none the sizes and the place of the entries
pub reads_fault : (ws : List ℕ) (f : Fault) → fault_number f ≡ sheet_fault ws → read_of (Err f) ≡ sheet_call ws
unfolding sheet_call
reads_fault ws f e = rw (← e, ne_eqb (fault_number f) 0 (fault_some f))

pub reads_sheet : (ws : List ℕ) (s : Sheet) → sheet_fault ws ≡ 0 → s.sizes.items ≡ sheet_sizes ws → s.entries_at ≡ length ws - length (entry_words_of ws)
    → read_of (Ok s) ≡ sheet_call ws
unfolding sheet_call
reads_sheet ws s e d f = rw (e, d, f)
