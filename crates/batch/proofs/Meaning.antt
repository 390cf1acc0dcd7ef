-- A file's bytes lead to the file's figures: in each phase, the sheets that are still to come are those that the rest of the file has.
use Prim.Native.Nat.{ℕ, zero, suc, ◌+◌, ◌*◌, ◌-◌, ◌≤◌, ◌<◌}
use native.Mathlib.Omega.{arith}
use native.Mathlib.Nat.{sub-zero, zero-add}
use native.Mathlib.Numerals.{add-one}
use mathlib.Core.Path.{◌≡◌, refl, sym, ap, ◌∙◌}
use mathlib.Core.Bool.{Bool, true, false, cond, ◌&&◌}
use mathlib.Core.List.{List, [], ◌∷◌, ◌++◌, map, append-nil}
use lib.ListN.{length, take, drop, set, length-set}
use lib.Seq.{append_snoc, take-suc-set, length-take-le}
use lib.Dec.{ltb, leb}
use borrow.Author.Tests.{ne_eqb, lt-ltb, le-ltb, ltb-true, ltb-false, le-leb}
use Rattle.wcsp.proofs.Lists.{and_left, and_right}
use Rattle.littleendian.specs.Words.{word_at}
use Rattle.planning.specs.Values.{Solved}
use Rattle.cutting.specs.declared.Phase.{Phase}
use Rattle.cutting.specs.Cutting.{longest_sheet, Cut, byte_cut, takes_byte}
use Rattle.cutting.specs.Cutting as cutting
use Rattle.cutting.proofs.Turns.{length_word, Turn, length_on, length_none, length_long, length_sheet, body_on, body_end, passing_on, passing_end, turn}
use Rattle.cutting.proofs.Phases.{length_taken, body_taken, passing_taken, over_taken}
use Rattle.figures.specs.declared.Figures.{Figures}
use Rattle.figures.specs.Counting.{column_count, most_sheets, no_figures, sum_of, sheets_of, counted, takes_sheet}
use Rattle.fields.specs.Entries.{Each, nil_each, cons_each}
use Rattle.figures.specs.Theorems.{InColumn, counted_all}
use Rattle.figures.specs.Line.{figures_line}
use Rattle.figures.proofs.Counting.{sheets_counted, takes_counted, none_takes}
use Rattle.figures.proofs.Tallies.{counted_one_by_one}
use Rattle.batch.specs.declared.Season.{Season}
use Rattle.batch.specs.Season.{Sheet, cut_off, passed_over, whole, sheets_behind, sheets_in, solved_sheet, column_of, figure_of_sheet, season_line}
use Rattle.batch.specs.Feeding.{LentSeason, started_season, counted_sheet, behind_sheet, after_found, season_takes, fed, is_cut, finished_figures, finished_line}
use Rattle.batch.specs.Theorems.{new_season, fed_pieces, joined_pieces, FedIsSeason, PiecesAreSeason, LineIsSeason, ReadAs}
use Rattle.batch.proofs.Columns.{Countable, sheet_in_column}
use Rattle.batch.proofs.Feeding.{at, fed_in_pieces, fed-none, fed_byte_lem, still_takes_byte}

-- the sheets that the rest of a file has, k of them behind the one that the phase is in
unfoldable remaining : Phase → List ℕ → ℕ → List ℕ → List Sheet
remaining (Phase.Length n) body k xs = sheets_in (suc k) (take n body ++ xs)
remaining (Phase.Body n end) body k xs =
    cond (ltb (n + length xs) end) (cut_off ∷ []) (whole (take n body ++ take (end - n) xs) ∷ sheets_in k (drop (end - n) xs))
remaining (Phase.Passing left) body k xs = cond (ltb (length xs) left) (cut_off ∷ []) (passed_over ∷ sheets_in k (drop left xs))
remaining Phase.Over body k xs = []

-- figures and a phase that take a byte, with k sheets behind the one that it belongs to
pub record Good (f : Figures) (phase : Phase) (body : List ℕ) (k : ℕ) : Type 0 where
  pub columns : length f.counts ≡ column_count
  pub sheet : takes_sheet f ≡ true
  pub byte : takes_byte phase (length body) ≡ true
  pub few : sheets_of f + suc k ≡ most_sheets

-- the same with a phase that takes a byte
pub good_on : {f : Figures} {phase next : Phase} {body left : List ℕ} {k : ℕ} → Good f phase body k → takes_byte next (length left) ≡ true → Good f next left k
good_on g t = record { columns = g.columns; sheet = g.sheet; byte = t; few = g.few }

abbrev Ends : List ℕ → Type 0
Ends xs = (f : Figures) (phase : Phase) (body : List ℕ) (k : ℕ) → Good f phase body k
    → finished_figures (fed (at f phase body) xs).season ≡ counted_all f (map figure_of_sheet (remaining phase body k xs))

-- ---- behind a sheet

pub over_takes_none : (room : ℕ) → takes_byte Phase.Over room ≡ false
unfolding cutting.takes_in
over_takes_none room = go (leb (4 * longest_sheet) room)
  where
    go : (b : Bool) → (b && false) ≡ false
    go true = refl
    go false = refl

-- a sheet is counted, and the rest of the file follows
module _ (f : Figures) (phase : Phase) (body left : List ℕ) (s : Solved) (known : Countable s) (long : length left ≡ length body) where
  abbrev pub next : Figures
  next = counted_sheet f s

  module _ (k : ℕ) (g : Good f phase body k) where
    within : column_of s.ending < length f.counts
    within = rw g.columns known.within

    pub one_more : sheets_of next ≡ sheets_of f + 1
    one_more = sheets_counted f (column_of s.ending) s.bound within

    room : leb (4 * longest_sheet) (length left) ≡ true
    room = rw long (and_left (leb (4 * longest_sheet) (length body)) _ g.byte)

  pub good-next : (k : ℕ) → Good f phase body (suc k) → Good next (Phase.Length 0) left k
  unfolding counted cutting.takes_in
  good-next k g =
      let more = one_more (suc k) g in
      record {
        columns = length-set f.counts (column_of s.ending) _ ∙ g.columns;
        sheet = takes_counted f (column_of s.ending) s.bound (within (suc k) g) g.sheet known.cheap (omega (arith, g.few));
        byte = rw (room (suc k) g);
        few = omega (arith, more, g.few);
      }

  behind_ends : (k : ℕ) (xs : List ℕ) → Good f phase body k → Ends xs
      → finished_figures (fed (record { season = behind_sheet next; body = left }) xs).season ≡ counted_all next (map figure_of_sheet (sheets_in k xs))
  unfolding sheets_in counted_all finished_figures is_cut remaining
  behind_ends zero xs g ends =
      let last : ltb (sheets_of next) most_sheets ≡ false = le-ltb (sheets_of next) most_sheets (omega (arith, one_more zero g, g.few)) in
      let none : season_takes (record { phase = Phase.Over; figures = next }) (length left) ≡ false = rw (over_takes_none (length left)) in
      rw (last, fed-none (at next Phase.Over left) xs none)
  behind_ends (suc k) xs g ends =
      let on : ltb (sheets_of next) most_sheets ≡ true = lt-ltb (sheets_of next) most_sheets (omega (arith, one_more (suc k) g, g.few)) in
      rw on (ends next (Phase.Length 0) left k (good-next k g))

-- ---- the end of the file

cut_off_lem : (f : Figures) (phase : Phase) → is_cut phase ≡ true → takes_sheet f ≡ true
    → finished_figures (record { phase = phase; figures = f }) ≡ counted_all f (map figure_of_sheet (cut_off ∷ []))
unfolding finished_figures counted_all solved_sheet
cut_off_lem f phase c t = rw (c, t)

not_cut : (f : Figures) (phase : Phase) → is_cut phase ≡ false → finished_figures (record { phase = phase; figures = f }) ≡ counted_all f (map figure_of_sheet [])
unfolding finished_figures counted_all
not_cut f phase c = rw c

-- fewer than four bytes of a length
length_cut : (k n : ℕ) (file : List ℕ) → length file ≡ suc n → suc n < 4 → sheets_in (suc k) file ≡ cut_off ∷ []
unfolding sheets_in
length_cut k n file e h = rw (e, ne_eqb (suc n) 0 (λ (z : suc n ≡ 0). omega (arith, z)), lt-ltb (suc n) 4 h)

none_left : (k : ℕ) → sheets_in (suc k) [] ≡ []
unfolding sheets_in
none_left k = refl

ends_here : Ends []
unfolding fed remaining is_cut
ends_here f (Phase.Length zero) body k g = here
  where
    here : finished_figures (record { phase = Phase.Length 0; figures = f }) ≡ counted_all f (map figure_of_sheet (sheets_in (suc k) []))
    here = rw (none_left k) (not_cut f (Phase.Length 0) refl)
ends_here f (Phase.Length (suc n)) body k g =
    let t = length_taken (Phase.Length (suc n)) (length body) g.byte (suc n) refl in
    let long : length (take (suc n) body ++ []) ≡ suc n = rw (append-nil (take (suc n) body)) (length-take-le (suc n) body (omega (arith, t.0, t.1))) in
    rw (length_cut k n _ long t.0) (cut_off_lem f (Phase.Length (suc n)) refl g.sheet)
ends_here f (Phase.Body n end) body k g =
    let t = body_taken (Phase.Body n end) (length body) g.byte n end refl in
    rw (lt-ltb (n + 0) end (omega (arith, t.0))) (cut_off_lem f (Phase.Body n end) refl g.sheet)
ends_here f (Phase.Passing left) body k g =
    let t = passing_taken (Phase.Passing left) (length body) g.byte left refl in
    rw (lt-ltb 0 left t) (cut_off_lem f (Phase.Passing left) refl g.sheet)
ends_here f Phase.Over body k g = absurd (over_taken Phase.Over (length body) g.byte refl)

-- ---- one byte more

-- behind the four bytes of a length
length_whole : (k : ℕ) (filled xs : List ℕ) → 4 ≤ length filled → sheets_in (suc k) (take 4 filled ++ xs) ≡ sheets_behind (word_at filled 0) xs (sheets_in k)
unfolding sheets_in
length_whole k [] xs h = absurd (omega (arith, h))
length_whole k (a ∷ []) xs h = absurd (omega (arith, h))
length_whole k (a ∷ (b ∷ [])) xs h = absurd (omega (arith, h))
length_whole k (a ∷ (b ∷ (c ∷ []))) xs h = absurd (omega (arith, h))
length_whole k (a ∷ (b ∷ (c ∷ (d ∷ rest)))) xs h =
    let file : ℕ = suc (suc (suc (suc (length xs)))) in
    rw (ne_eqb file 0 (λ (z : file ≡ 0). omega (arith, z)), le-ltb file 4 (omega arith))

-- a byte that is kept joins those before it
kept_byte : (body : List ℕ) (n x : ℕ) (xs : List ℕ) → n < length body → take (n + 1) (set body n x) ++ xs ≡ take n body ++ (x ∷ xs)
kept_byte body n x xs h = rw (add-one n, take-suc-set body n x h) (append_snoc (take n body) x xs)

ltb_next : (a b : ℕ) → ltb (suc a) (suc b) ≡ ltb a b
ltb_next a b = go (ltb a b) refl
  where
    go : (t : Bool) → ltb a b ≡ t → ltb (suc a) (suc b) ≡ t
    go true e = lt-ltb (suc a) (suc b) (let h = ltb-true a b e in omega (arith, h))
    go false e = le-ltb (suc a) (suc b) (let h = ltb-false a b e in omega (arith, h))

-- what a byte leads to
abbrev pub led : Figures → Cut → LentSeason
led f c = record { season = after_found f c.phase c.body c.found; body = c.body }

abbrev Told : Figures → List Sheet → LentSeason → List ℕ → Type 0
Told f sheets after xs = finished_figures (fed after xs).season ≡ counted_all f (map figure_of_sheet sheets)

module _ (x : ℕ) (xs : List ℕ) (ends : Ends xs) (f : Figures) (body : List ℕ) (k : ℕ) where
  -- a phase goes on
  on : (phase next : Phase) (left : List ℕ) (sheets : List Sheet) → Good f phase body k → takes_byte next (length left) ≡ true
      → remaining next left k xs ≡ sheets → Told f sheets (at f next left) xs
  on phase next left sheets g t e = ends f next left k (good_on g t) ∙ ap (λ ss. counted_all f (map figure_of_sheet ss)) e

  -- a sheet has come to its end
  done : (phase : Phase) (left : List ℕ) (sheet : Sheet) → Good f phase body k → length left ≡ length body
      → Told f (sheet ∷ sheets_in k xs) (record { season = behind_sheet (counted_sheet f (solved_sheet sheet)); body = left }) xs
  unfolding counted_all
  done phase left sheet g long = behind_ends f phase body left (solved_sheet sheet) (sheet_in_column sheet) long k xs g ends

  -- the sheets behind a length whose last byte this is
  behind_length : (n : ℕ) → Good f (Phase.Length n) body k → n + 1 ≡ 4
      → sheets_behind (length_word body n x) xs (sheets_in k) ≡ sheets_in (suc k) (take n body ++ (x ∷ xs))
  behind_length n g four =
      let t = length_taken (Phase.Length n) (length body) g.byte n refl in
      let kept : take 4 (set body n x) ++ xs ≡ take n body ++ (x ∷ xs) = rw (← four) (kept_byte body n x xs (omega (arith, t.0, t.1))) in
      sym (length_whole k (set body n x) xs (rw (length-set body n x) t.1)) ∙ ap (sheets_in (suc k)) kept

  byte_ends : (phase : Phase) (c : Cut) → Turn body x phase c → Good f phase body k → takes_byte c.phase (length c.body) ≡ true
      → Told f (remaining phase body k (x ∷ xs)) (led f c) xs
  unfolding after_found remaining solved_sheet sheets_behind
  byte_ends _ _ (length_on n h) g t =
      let r = length_taken (Phase.Length n) (length body) g.byte n refl in
      on (Phase.Length n) (Phase.Length (n + 1)) (set body n x) _ g t (ap (sheets_in (suc k)) (kept_byte body n x xs (omega (arith, r.0, r.1))))
  byte_ends _ _ (length_none n four e) g t =
      rw (← behind_length n g four, e, le-ltb (length xs) 0 (omega arith)) (done (Phase.Length n) (set body n x) (whole []) g (length-set body n x))
  byte_ends _ _ (length_long n four h) g t =
      on (Phase.Length n) (Phase.Passing (4 * length_word body n x)) (set body n x) _ g t
      (rw (lt-ltb longest_sheet (length_word body n x) h) at (behind_length n g four))
  byte_ends _ _ (length_sheet n four some few) g t =
      on (Phase.Length n) (Phase.Body 0 (4 * length_word body n x)) (set body n x) (sheets_in (suc k) (take n body ++ (x ∷ xs))) g t
      (rw (zero-add (length xs), sub-zero (4 * length_word body n x)) (rw (le-ltb longest_sheet (length_word body n x) few) at (behind_length n g four)))
  byte_ends _ _ (body_on n end h few) g t =
      let r = body_taken (Phase.Body n end) (length body) g.byte n end refl in
      let less : end - n ≡ suc (end - (n + 1)) = omega (arith, h) in
      let sum : n + suc (length xs) ≡ n + 1 + length xs = omega arith in
      on (Phase.Body n end) (Phase.Body (n + 1) end) (set body n x) (remaining (Phase.Body n end) body k (x ∷ xs)) g t
      (rw (less, sum, kept_byte body n x (take (end - (n + 1)) xs) (omega (arith, r.0, r.1))))
  byte_ends _ _ (body_end n end last few) g t =
      let r = body_taken (Phase.Body n end) (length body) g.byte n end refl in
      let one : end - n ≡ 1 = omega (arith, last) in
      let front : take n body ++ (x ∷ []) ≡ take end (set body n x) = rw (← last, add-one n) (sym (take-suc-set body n x (omega (arith, r.0, r.1)))) in
      rw (le-ltb (n + suc (length xs)) end (omega (arith, last)), one, front)
      (done (Phase.Body n end) (set body n x) (whole (take end (set body n x))) g (length-set body n x))
  byte_ends _ _ (passing_on left h) g t =
      let more : suc (left - 1) ≡ left = omega (arith, h) in
      on (Phase.Passing left) (Phase.Passing (left - 1)) body (remaining (Phase.Passing left) body k (x ∷ xs)) g t
      (rw (ltb_next (length xs) (left - 1)) at (ap (λ l. remaining (Phase.Passing l) body k (x ∷ xs)) more))
  byte_ends _ _ (passing_end left one) g t =
      rw (one, le-ltb (suc (length xs)) 1 (omega arith)) (done (Phase.Passing left) body passed_over g refl)

ends_byte : (x : ℕ) (xs : List ℕ) → Ends xs → Ends (x ∷ xs)
ends_byte x xs ends f phase body k g =
    let takes = and_right (leb (4 * longest_sheet) (length body)) _ g.byte in
    rw (fed_byte_lem (at f phase body) x xs (rw (g.byte, g.sheet)))
    (byte_ends x xs ends f body k phase (byte_cut phase body x) (turn body x phase takes) g (still_takes_byte phase body x g.byte))

ends_all : (xs : List ℕ) → Ends xs
ends_all [] = ends_here
ends_all (x ∷ xs) = ends_byte x xs (ends_all xs)

-- ---- from the start

pub every : (sheets : List Sheet) → Each InColumn (map figure_of_sheet sheets)
every [] = nil_each
every (s ∷ sheets) = cons_each (sheet_in_column s).within (every sheets)

none-counted : sheets_of no_figures ≡ 0
unfolding sum_of
none-counted = refl

pub start_good : (body : List ℕ) → 4 * longest_sheet ≤ length body → Good no_figures (Phase.Length 0) body 9999
unfolding cutting.takes_in
start_good body room =
    record {
      columns = refl;
      sheet = none_takes;
      byte = rw (le-leb (4 * longest_sheet) (length body) room);
      few = omega (arith, none-counted);
    }

pub fed_is_season : FedIsSeason
unfolding remaining
fed_is_season body file room =
    ends_all file no_figures (Phase.Length 0) body 9999 (start_good body room)
    ∙ counted_one_by_one (map figure_of_sheet (sheets_in most_sheets file)) (every (sheets_in most_sheets file))

-- however the file is cut
fed-joined_pieces : (f : LentSeason) (pieces : List (List ℕ)) → fed_pieces f pieces ≡ fed f (joined_pieces pieces)
unfolding fed_pieces joined_pieces fed
fed-joined_pieces f [] = refl
fed-joined_pieces f (xs ∷ pieces) = fed-joined_pieces (fed f xs) pieces ∙ sym (fed_in_pieces f xs (joined_pieces pieces))

pub pieces_are_season : PiecesAreSeason
pieces_are_season body pieces room = ap (λ (f : LentSeason). finished_figures f.season) (fed-joined_pieces (new_season body) pieces) ∙ fed_is_season body (joined_pieces pieces) room

pub line_is_season : LineIsSeason
line_is_season body pieces room = ap figures_line (pieces_are_season body pieces room)

-- ---- what reading comes to

-- a season and its buffer as some bytes leave them
pub record LedBy (body : List ℕ) (f : LentSeason) : Type 0 where
  pub bytes : List ℕ
  pub leads : fed (new_season body) bytes ≡ f

pub led_start : (body : List ℕ) (s : Season) → s ≡ started_season → LedBy body (record { season = s; body = body })
unfolding fed
led_start body s e = record { bytes = []; leads = rw e }

pub led_on : {body : List ℕ} {f : LentSeason} (g : LentSeason) (xs : List ℕ) → LedBy body f → g ≡ fed f xs → LedBy body g
led_on {body = body} g xs l e =
    record { bytes = l.bytes ++ xs; leads = fed_in_pieces (new_season body) l.bytes xs ∙ ap (λ (f : LentSeason). fed f xs) l.leads ∙ sym e }

pub line_of : (body left bytes : List ℕ) (s : Season) → 4 * longest_sheet ≤ length body → record { season = s; body = left } ≡ fed (new_season body) bytes
    → finished_line s ≡ season_line bytes
line_of body left bytes s room e =
    ap figures_line (ap (λ (f : LentSeason). finished_figures f.season) e ∙ fed_is_season body bytes room)

pub read_as : (body left : List ℕ) (s : Season) → 4 * longest_sheet ≤ length body → LedBy body (record { season = s; body = left }) → ReadAs body s
read_as body left s room l =
    record { bytes = l.bytes; leads = ap (λ (f : LentSeason). f.season) l.leads; line = line_of body left l.bytes s room (sym l.leads) }
