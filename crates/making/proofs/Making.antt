-- The call as a whole: what it reckons, the instance put together from its three parts, and the three answers.
use Prim.Native.Nat.{ℕ, ◌+◌, ◌-◌, ◌*◌, ◌≤◌, ◌<◌}
use native.Mathlib.Nat.{zero-add}
use native.Mathlib.Omega.{arith}
use mathlib.Core.Path.{◌≡◌, sym, ap, ◌∙◌}
use mathlib.Core.List.{List, [], ◌∷◌, ◌++◌}
use lib.ListN.{length, drop, length-drop, length-map}
use lib.Seq.{sets, sets-eq}
use borrow.Author.Tests.{eq-eqb, ne_eqb, le-leb, lt-leb}
use Rattle.words.specs.Layout.{size_word}
use Rattle.fields.specs.Answers.{Answer}
use Rattle.fields.specs.Answers.{refused, good}
use Rattle.fields.specs.Limits.{max_variables}
use Rattle.fields.specs.Front.{front_words}
use Rattle.fields.specs.Numbers.{fault_number}
use Rattle.fields.specs.declared.refusals.Fault.{Fault}
use Rattle.sheet.specs.Sheet.{leg_count, sheet_fault, sheet_sizes, positions_of, entry_words_of}
use Rattle.making.specs.Made.{Leg, all_leg_words, legs_from, made_words}
use Rattle.making.specs.Calls.{make_call}
use Rattle.sheet.proofs.Sheets.{entries_start, fault_some}
use Rattle.sheet.proofs.Acceptance.{accepted_sheet}
use Rattle.making.proofs.GoodLegs.{legs_length}
use Rattle.making.proofs.Reading.{made_none, made_words_lem, made_accepted, leg_words-length}
use Rattle.making.proofs.Writing.{sets_append}

-- ---- what the call reckons

-- the entries' words are some of the sheet's
words_within : (ws : List ℕ) → length (entry_words_of ws) ≤ length ws
words_within ws = omega (arith, ap length (entries_start ws), length-drop (length ws - length (entry_words_of ws)) ws)

-- the numbers that the call reckons with
pub record Measured (ws : List ℕ) (n entries : ℕ) : Type 0 where
  pub few : n ≤ max_variables
  pub within : entries ≤ length ws
  pub rest : length ws - entries ≡ length (entry_words_of ws)
  pub long : length (made_words ws) ≡ 1 + n + 3 * leg_count (sheet_sizes ws) + length (entry_words_of ws)

pub measure : (ws : List ℕ) (n entries : ℕ) → sheet_fault ws ≡ 0 → 1 ≤ length ws → n ≡ length (sheet_sizes ws) → entries ≡ length ws - length (entry_words_of ws)
    → Measured ws n entries
measure ws n entries fine some e f =
    let a = accepted_sheet ws fine in
    let w = words_within ws in
    record {
      few = omega (arith, a.sizes.most);
      within = omega arith;
      rest = omega arith;
      long = omega (arith, (made_accepted ws fine).words);
    }

-- the length that the call reckons is the instance's
pub long_is : (ws sizes : List ℕ) (entries count : ℕ) → sheet_fault ws ≡ 0 → 1 ≤ length ws → sizes ≡ sheet_sizes ws → entries ≡ length ws - length (entry_words_of ws)
    → count ≡ leg_count sizes → 1 + length sizes + 3 * count + (length ws - entries) ≡ length (made_words ws)
long_is ws sizes entries count fine some d f e =
    let m = measure ws (length sizes) entries fine some (ap length d) f in
    let c : count ≡ leg_count (sheet_sizes ws) = e ∙ ap leg_count d in
    omega arith

-- ---- the instance from its parts

pub parts_stored : (ws sizes t₀ t₁ t₂ t₃ : List ℕ) (n behind entries : ℕ) → 1 ≤ length ws → sizes ≡ sheet_sizes ws → n ≡ length (sheet_sizes ws)
    → entries ≡ length ws - length (entry_words_of ws) → t₁ ≡ sets t₀ 0 (front_words sizes)
    → behind ≡ n + 1 + 3 * leg_count (sheet_sizes ws) → t₂ ≡ sets t₁ (n + 1) (all_leg_words (legs_from 0 (positions_of ws)))
    → t₃ ≡ sets t₂ behind (drop entries ws) → t₃ ≡ sets t₀ 0 (made_words ws)
unfolding sheet_sizes
parts_stored ws sizes t₀ t₁ t₂ t₃ n behind entries some padding many start fronted after legged copied =
    let ds : List ℕ = sheet_sizes ws in
    let legs : List Leg = legs_from 0 (positions_of ws) in
    let L : List ℕ = all_leg_words legs in
    let s : 0 + length (front_words ds) ≡ n + 1 = omega (arith, length-map ds size_word) in
    let l : n + 1 + length L ≡ behind = omega (arith, leg_words-length legs, legs_length 0 (positions_of ws)) in
    let one : sets t₀ 0 (front_words ds) ≡ t₁ = sym (fronted ∙ ap (λ xs. sets t₀ 0 (front_words xs)) padding) in
    let three : drop entries ws ≡ entry_words_of ws = rw start (entries_start ws) in
    let split : sets t₀ 0 (front_words ds ++ (L ++ entry_words_of ws)) ≡ sets (sets t₁ (n + 1) L) behind (entry_words_of ws) =
    sets_append t₀ 0 (front_words ds) (L ++ entry_words_of ws) ∙ rw (one, s) (sets_append t₁ (n + 1) L (entry_words_of ws) ∙ rw l) in
    copied ∙ rw (legged, three, made_words_lem ws some) (sym split)

-- ---- the answers

module _ (ws t : List ℕ) where
  -- the answer and the target are those of the call
  abbrev pub Makes : Answer → List ℕ → Type 0
  Makes answer t' = record { answer = answer; target = t' } ≡ make_call ws t

  pub empty_make : (a : Answer) → length ws ≡ 0 → a ≡ good 0 → Makes a t
  unfolding make_call sheet_fault
  empty_make a e q = go ws e
    where
      go : (ws : List ℕ) → length ws ≡ 0 → record { answer = a; target = t } ≡ make_call ws t
      go [] e = rw (q, made_none, le-leb 0 (length t) (omega arith))
      go (w ∷ ws) e = absurd (omega arith)

  pub refused_make : (f : Fault) (a : Answer) → fault_number f ≡ sheet_fault ws → a ≡ refused (fault_number f) → Makes a t
  unfolding make_call
  refused_make f a e q = rw (q, ← e, ne_eqb (fault_number f) 0 (fault_some f))

  pub short_make : (long : ℕ) (a : Answer) → sheet_fault ws ≡ 0 → long ≡ length (made_words ws) → length t < long → a ≡ refused 10 → Makes a t
  unfolding make_call
  short_make long a fine e h q = rw (q, eq-eqb (sheet_fault ws) 0 fine, lt-leb (length (made_words ws)) (length t) (omega arith))

  pub good_make : (long : ℕ) (a : Answer) (t' : List ℕ) → sheet_fault ws ≡ 0 → long ≡ length (made_words ws) → long ≤ length t
      → t' ≡ sets t 0 (made_words ws) → a ≡ good long → Makes a t'
  unfolding make_call
  good_make long a t' fine e h stored q =
      let made : List ℕ = made_words ws in
      let room : 0 + length made ≤ length t = omega arith in
      let whole : t' ≡ made ++ drop (length made) t = stored ∙ rw (zero-add (length made)) at (sets-eq made t 0 room) in
      rw (q, eq-eqb (sheet_fault ws) 0 fine, le-leb (length made) (length t) (omega arith), e, whole)
