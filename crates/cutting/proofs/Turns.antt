-- One byte that is taken: the ways that it can go, each with what is known there, and what all of them leave.
use Prim.Native.Nat.{ℕ, ◌+◌, ◌*◌, ◌-◌, ◌≤◌, ◌<◌}
use native.Mathlib.Omega.{arith}
use mathlib.Core.Path.{◌≡◌, refl}
use mathlib.Core.Bool.{Bool, true, false, cond, false≢true}
use mathlib.Core.List.{List}
use lib.ListN.{length, set, length-set}
use lib.Dec.{eqb, ltb}
use borrow.Author.Tests.{eqb-true, eqb-false, lt-ltb, le-leb, ltb-true, ltb-false, leb-true}
use Rattle.wcsp.proofs.Lists.{and_left, and_right}
use Rattle.littleendian.specs.Words.{word_at}
use Rattle.cutting.specs.declared.Phase.{Phase}
use Rattle.cutting.specs.declared.Found.{Found}
use Rattle.cutting.specs.Cutting.{longest_sheet, Cut, opened, byte_cut, takes_in, wanted_in}
use Rattle.cutting.specs.Pieces.{end_of}

-- the word of a length whose last byte stands at an index
abbrev pub length_word : List ℕ → ℕ → ℕ → ℕ
length_word body n b = word_at (set body n b) 0

pub data Turn (body : List ℕ) (b : ℕ) : Phase → Cut → Type 0 where
  -- a byte of a length that is not its last
  length_on : (n : ℕ) → n + 1 < 4 → Turn body b (Phase.Length n) (record { phase = Phase.Length (n + 1); body = set body n b; found = Found.Nothing })
  -- the last byte of a length: of no words, of too many, or of a sheet's
  length_none : (n : ℕ) → n + 1 ≡ 4 → length_word body n b ≡ 0
      → Turn body b (Phase.Length n) (record { phase = Phase.Length 0; body = set body n b; found = Found.Sheet 0 })
  length_long : (n : ℕ) → n + 1 ≡ 4 → longest_sheet < length_word body n b
      → Turn body b (Phase.Length n) (record { phase = Phase.Passing (4 * length_word body n b); body = set body n b; found = Found.Length })
  length_sheet : (n : ℕ) → n + 1 ≡ 4 → 1 ≤ length_word body n b → length_word body n b ≤ longest_sheet
      → Turn body b (Phase.Length n) (record { phase = Phase.Body 0 (4 * length_word body n b); body = set body n b; found = Found.Length })
  -- a byte of a sheet
  body_on : (n end : ℕ) → n + 1 < end → end ≤ 4 * longest_sheet
      → Turn body b (Phase.Body n end) (record { phase = Phase.Body (n + 1) end; body = set body n b; found = Found.Nothing })
  body_end : (n end : ℕ) → n + 1 ≡ end → end ≤ 4 * longest_sheet
      → Turn body b (Phase.Body n end) (record { phase = Phase.Length 0; body = set body n b; found = Found.Sheet end })
  -- a byte that is passed over
  passing_on : (left : ℕ) → 1 < left → Turn body b (Phase.Passing left) (record { phase = Phase.Passing (left - 1); body = body; found = Found.Nothing })
  passing_end : (left : ℕ) → left ≡ 1 → Turn body b (Phase.Passing left) (record { phase = Phase.Length 0; body = body; found = Found.PassedOver })

module _ (body : List ℕ) (b : ℕ) where
  length_ends : (n : ℕ) → n + 1 ≡ 4 → Turn body b (Phase.Length n) (opened (length_word body n b) (set body n b))
  unfolding opened
  length_ends n four = go (eqb (length_word body n b) 0) (ltb longest_sheet (length_word body n b)) refl refl
    where
      go : (s t : Bool) → eqb (length_word body n b) 0 ≡ s → ltb longest_sheet (length_word body n b) ≡ t
          → Turn body b (Phase.Length n)
          (cond s (record { phase = Phase.Length 0; body = set body n b; found = Found.Sheet 0 })
          (cond t (record { phase = Phase.Passing (4 * length_word body n b); body = set body n b; found = Found.Length })
          (record { phase = Phase.Body 0 (4 * length_word body n b); body = set body n b; found = Found.Length })))
      go true t e f = length_none n four (eqb-true (length_word body n b) 0 e)
      go false true e f = length_long n four (ltb-true longest_sheet (length_word body n b) f)
      go false false e f = length_sheet n four (omega (arith, eqb-false (length_word body n b) 0 e)) (ltb-false longest_sheet (length_word body n b) f)

  pub turn : (phase : Phase) → takes_in phase ≡ true → Turn body b phase (byte_cut phase body b)
  unfolding byte_cut takes_in
  turn (Phase.Length n) t = go (eqb (n + 1) 4) refl
    where
      go : (s : Bool) → eqb (n + 1) 4 ≡ s
          → Turn body b (Phase.Length n)
          (cond s (opened (length_word body n b) (set body n b)) (record { phase = Phase.Length (n + 1); body = set body n b; found = Found.Nothing }))
      go true e = length_ends n (eqb-true (n + 1) 4 e)
      go false e = length_on n (omega (arith, eqb-false (n + 1) 4 e, ltb-true n 4 t))
  turn (Phase.Body n end) t = go (eqb (n + 1) end) refl
    where
      few : end ≤ 4 * longest_sheet
      few = leb-true end (4 * longest_sheet) (and_right (ltb n end) _ t)

      go : (s : Bool) → eqb (n + 1) end ≡ s
          → Turn body b (Phase.Body n end)
          (cond s (record { phase = Phase.Length 0; body = set body n b; found = Found.Sheet end })
          (record { phase = Phase.Body (n + 1) end; body = set body n b; found = Found.Nothing }))
      go true e = body_end n end (eqb-true (n + 1) end e) few
      go false e = body_on n end (omega (arith, eqb-false (n + 1) end e, ltb-true n end (and_left (ltb n end) _ t))) few
  turn (Phase.Passing left) t = go (eqb left 1) refl
    where
      go : (s : Bool) → eqb left 1 ≡ s
          → Turn body b (Phase.Passing left)
          (cond s (record { phase = Phase.Length 0; body = body; found = Found.PassedOver })
          (record { phase = Phase.Passing (left - 1); body = body; found = Found.Nothing }))
      go true e = passing_end left (eqb-true left 1 e)
      go false e = passing_on left (omega (arith, eqb-false left 1 e, ltb-true 0 left t))
  turn Phase.Over t = absurd (false≢true t)

-- ---- what every turn leaves

pub record Leaves (room : ℕ) (phase : Phase) (c : Cut) : Type 0 where
  -- a buffer as long as before
  pub long : length c.body ≡ room
  -- a phase that takes bytes
  pub takes : takes_in c.phase ≡ true
  -- a sheet that fits the buffer
  pub fits : end_of c.found ≤ 4 * longest_sheet
  -- where the byte was not the last of its phase, nothing came to its end, and one byte fewer is wanted
  pub quiet : 1 < wanted_in phase → (c.found ≡ Found.Nothing) × (wanted_in c.phase + 1 ≡ wanted_in phase)

pub leaves : (body : List ℕ) (b : ℕ) (phase : Phase) (c : Cut) → Turn body b phase c → Leaves (length body) phase c
unfolding takes_in end_of wanted_in
leaves body b _ _ (length_on n h) =
    record { long = length-set body n b; takes = lt-ltb (n + 1) 4 h; fits = omega arith; quiet = λ l. (refl, omega (arith, h)) }
leaves body b _ _ (length_none n four e) =
    record { long = length-set body n b; takes = refl; fits = omega arith; quiet = λ l. absurd (omega (arith, four, l)) }
leaves body b _ _ (length_long n four h) =
    record {
      long = length-set body n b;
      takes = lt-ltb 0 (4 * length_word body n b) (omega (arith, h));
      fits = omega arith;
      quiet = λ l. absurd (omega (arith, four, l));
    }
leaves body b _ _ (length_sheet n four some few) =
    record {
      long = length-set body n b;
      takes = rw (lt-ltb 0 (4 * length_word body n b) (omega (arith, some)), le-leb (4 * length_word body n b) (4 * longest_sheet) (omega (arith, few)));
      fits = omega arith;
      quiet = λ l. absurd (omega (arith, four, l));
    }
leaves body b _ _ (body_on n end h few) =
    record {
      long = length-set body n b;
      takes = rw (lt-ltb (n + 1) end h, le-leb end (4 * longest_sheet) few);
      fits = omega arith;
      quiet = λ l. (refl, omega (arith, h));
    }
leaves body b _ _ (body_end n end e few) =
    record { long = length-set body n b; takes = refl; fits = few; quiet = λ l. absurd (omega (arith, e, l)) }
leaves body b _ _ (passing_on left h) =
    record { long = refl; takes = lt-ltb 0 (left - 1) (omega (arith, h)); fits = omega arith; quiet = λ l. (refl, omega (arith, h)) }
leaves body b _ _ (passing_end left e) =
    record { long = refl; takes = refl; fits = omega arith; quiet = λ l. absurd (omega (arith, e, l)) }

-- of the byte itself
pub byte_leaves : (phase : Phase) (body : List ℕ) (b : ℕ) → takes_in phase ≡ true → Leaves (length body) phase (byte_cut phase body b)
byte_leaves phase body b t = leaves body b phase (byte_cut phase body b) (turn body b phase t)
