-- A season ends: each byte leaves fewer that it can still take.
use Prim.Native.Nat.{ℕ, zero, suc, ◌+◌, ◌*◌, ◌-◌, ◌≤◌, ◌<◌}
use native.Mathlib.Omega.{arith}
use native.Mathlib.Numerals.{add-one}
use mathlib.Core.Path.{◌≡◌, refl}
use mathlib.Core.Bool.{true, false}
use mathlib.Core.List.{List, [], ◌∷◌, ◌++◌}
use lib.ListN.{length, take, set, length-set}
use lib.Seq.{take-suc-set}
use lib.Dec.{ltb, leb}
use borrow.Author.Tests.{lt-ltb, le-ltb}
use Rattle.wcsp.proofs.Lists.{and_right}
use Rattle.fields.specs.Entries.{Each, nil_each, cons_each}
use Rattle.littleendian.proofs.Words.{word_of_four}
use Rattle.planning.specs.Values.{Solved}
use Rattle.planning.specs.Solving.{solved_of, refused_solved}
use Rattle.cutting.specs.declared.Phase.{Phase}
use Rattle.cutting.specs.Cutting.{longest_sheet, Cut, byte_cut, takes_byte}
use Rattle.cutting.proofs.Turns.{length_word, Turn, length_on, length_none, length_long, length_sheet, body_on, body_end, passing_on, passing_end, turn}
use Rattle.cutting.proofs.Phases.{length_taken, body_taken, passing_taken, over_taken}
use Rattle.figures.specs.declared.Figures.{Figures}
use Rattle.figures.specs.Counting.{most_sheets, no_figures, sheets_of}
use Rattle.batch.specs.Feeding.{LentSeason, counted_sheet, behind_sheet, after_found, season_takes, fed}
use Rattle.batch.specs.Theorems.{most_sheet_bytes, SeasonEnds}
use Rattle.batch.proofs.Columns.{Countable, long_countable, solved_countable}
use Rattle.batch.proofs.Feeding.{at, fed-none, fed_byte_lem, still_takes_byte}
use Rattle.batch.proofs.Meaning.{Good, good_on, over_takes_none, next, one_more, good-next, led, start_good}

abbrev Bytes : List ℕ → Type 0
Bytes xs = Each (λ b. b < 256) xs

-- how many bytes a season can still take, with k sheets behind the one that its phase is in
unfoldable most : ℕ → Phase → ℕ
most k (Phase.Length n) = suc k * most_sheet_bytes - n
most k (Phase.Body n end) = k * most_sheet_bytes + (end - n)
most k (Phase.Passing left) = k * most_sheet_bytes + left
most k Phase.Over = 0

-- the bytes of a length that have come
abbrev Begun : Phase → List ℕ → Type 0
Begun (Phase.Length n) body = Bytes (take n body)
Begun (Phase.Body n end) body = ◌≡◌ {A = ℕ} 0 0
Begun (Phase.Passing left) body = ◌≡◌ {A = ℕ} 0 0
Begun Phase.Over body = ◌≡◌ {A = ℕ} 0 0

abbrev Over : LentSeason → List ℕ → Type 0
Over f xs = (fed f xs).season.phase ≡ Phase.Over

abbrev Lasts : List ℕ → Type 0
Lasts xs = (f : Figures) (phase : Phase) (body : List ℕ) (k : ℕ) → Good f phase body k → Begun phase body → most k phase ≤ length xs → Over (at f phase body) xs

-- ---- behind a sheet

behind_lasts : (f : Figures) (phase : Phase) (body left : List ℕ) (s : Solved) → Countable s → length left ≡ length body
    → (k : ℕ) (xs : List ℕ) → Good f phase body k → Lasts xs → k * most_sheet_bytes ≤ length xs
    → Over (record { season = behind_sheet (counted_sheet f s); body = left }) xs
unfolding most
behind_lasts f phase body left s known long zero xs g lasts h =
    let n = next f phase body left s known long in
    let last : ltb (sheets_of n) most_sheets ≡ false
    = le-ltb (sheets_of n) most_sheets (omega (arith, one_more f phase body left s known long zero g, g.few)) in
    let none : season_takes (record { phase = Phase.Over; figures = n }) (length left) ≡ false = rw (over_takes_none (length left)) in
    rw (last, fed-none (at n Phase.Over left) xs none)
behind_lasts f phase body left s known long (suc k) xs g lasts h =
    let n = next f phase body left s known long in
    let on : ltb (sheets_of n) most_sheets ≡ true
    = lt-ltb (sheets_of n) most_sheets (omega (arith, one_more f phase body left s known long (suc k) g, g.few)) in
    rw on (lasts n (Phase.Length 0) left k (good-next f phase body left s known long k g) nil_each (omega (arith, h)))

-- ---- one byte

bytes_behind : (bs : List ℕ) (b : ℕ) → Bytes bs → b < 256 → Bytes (bs ++ (b ∷ []))
bytes_behind [] b nil_each h = cons_each h nil_each
bytes_behind (c ∷ bs) b (cons_each e es) h = cons_each e (bytes_behind bs b es h)

module _ (x : ℕ) (xs : List ℕ) (lasts : Lasts xs) (f : Figures) (body : List ℕ) (k : ℕ) where
  done : (phase : Phase) (left : List ℕ) (s : Solved) → Good f phase body k → Countable s → length left ≡ length body → k * most_sheet_bytes ≤ length xs
      → Over (record { season = behind_sheet (counted_sheet f s); body = left }) xs
  done phase left s g known long h = behind_lasts f phase body left s known long k xs g lasts h

  begun : (n : ℕ) → Good f (Phase.Length n) body k → Bytes (take n body) → x < 256 → Bytes (take (n + 1) (set body n x))
  begun n g b small =
      let r = length_taken (Phase.Length n) (length body) g.byte n refl in
      rw (add-one n, take-suc-set body n x (omega (arith, r.0, r.1))) (bytes_behind (take n body) x b small)

  -- a length is a word of 32 bits
  word_small : (n : ℕ) → Good f (Phase.Length n) body k → Bytes (take n body) → x < 256 → n + 1 ≡ 4 → length_word body n x ≤ 4294967295
  word_small n g b small four =
      let r = length_taken (Phase.Length n) (length body) g.byte n refl in
      word_of_four (set body n x) (rw (length-set body n x) r.1) (rw four at (begun n g b small))

  byte_lasts : (phase : Phase) (c : Cut) → Turn body x phase c → Good f phase body k → takes_byte c.phase (length c.body) ≡ true
      → Begun phase body → x < 256 → most k phase ≤ suc (length xs) → Over (led f c) xs
  unfolding after_found most
  byte_lasts _ _ (length_on n l) g t b small h = lasts f (Phase.Length (n + 1)) (set body n x) k (good_on g t) (begun n g b small) (omega (arith, h))
  byte_lasts _ _ (length_none n four e) g t b small h =
      done (Phase.Length n) (set body n x) (solved_of []) g (solved_countable []) (length-set body n x) (omega (arith, h, four))
  byte_lasts _ _ (length_long n four l) g t b small h =
      let word = word_small n g b small four in
      lasts f (Phase.Passing (4 * length_word body n x)) (set body n x) k (good_on g t) refl (omega (arith, h, four, word))
  byte_lasts _ _ (length_sheet n four some few) g t b small h =
      lasts f (Phase.Body 0 (4 * length_word body n x)) (set body n x) k (good_on g t) refl (omega (arith, h, four, few))
  byte_lasts _ _ (body_on n end l few) g t b small h = lasts f (Phase.Body (n + 1) end) (set body n x) k (good_on g t) refl (omega (arith, h, l))
  byte_lasts _ _ (body_end n end last few) g t b small h =
      done (Phase.Body n end) (set body n x) (solved_of (take end (set body n x))) g (solved_countable _) (length-set body n x) (omega (arith, h, last))
  byte_lasts _ _ (passing_on left l) g t b small h = lasts f (Phase.Passing (left - 1)) body k (good_on g t) refl (omega (arith, h, l))
  byte_lasts _ _ (passing_end left one) g t b small h = done (Phase.Passing left) body (refused_solved 10) g long_countable refl (omega (arith, h, one))

-- ---- all bytes

lasts_none : Lasts []
unfolding most
lasts_none f (Phase.Length n) body k g b h =
    let t = length_taken (Phase.Length n) (length body) g.byte n refl in absurd (omega (arith, h, t.0))
lasts_none f (Phase.Body n end) body k g b h =
    let t = body_taken (Phase.Body n end) (length body) g.byte n end refl in absurd (omega (arith, h, t.0))
lasts_none f (Phase.Passing left) body k g b h =
    let t = passing_taken (Phase.Passing left) (length body) g.byte left refl in absurd (omega (arith, h, t))
lasts_none f Phase.Over body k g b h = absurd (over_taken Phase.Over (length body) g.byte refl)

lasts_byte : (x : ℕ) (xs : List ℕ) → x < 256 → Lasts xs → Lasts (x ∷ xs)
lasts_byte x xs small lasts f phase body k g b h =
    let takes = and_right (leb (4 * longest_sheet) (length body)) _ g.byte in
    rw (fed_byte_lem (at f phase body) x xs (rw (g.byte, g.sheet)))
    (byte_lasts x xs lasts f body k phase (byte_cut phase body x) (turn body x phase takes) g (still_takes_byte phase body x g.byte) b small h)

lasts_all : (xs : List ℕ) → Bytes xs → Lasts xs
lasts_all [] nil_each = lasts_none
lasts_all (x ∷ xs) (cons_each small bytes) = lasts_byte x xs small (lasts_all xs bytes)

pub season_ends : SeasonEnds
unfolding most
season_ends body file room bytes h = lasts_all file bytes no_figures (Phase.Length 0) body 9999 (start_good body room) nil_each (omega (arith, h))
