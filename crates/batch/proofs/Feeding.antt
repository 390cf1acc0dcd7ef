-- Bytes that are fed: in pieces, to a season that takes none, and up to the first that brings something to its end.
use Prim.Native.Nat.{ℕ, ◌+◌, ◌-◌, ◌*◌, ◌≤◌}
use native.Mathlib.Omega.{arith}
use mathlib.Core.Path.{◌≡◌, refl, sym, ap, ◌∙◌}
use mathlib.Core.Bool.{true, false}
use mathlib.Core.List.{List, [], ◌∷◌}
use lib.ListN.{length, take, drop, length-drop, drop_of_length-le, take-append-drop}
use lib.Seq.{take_all, drop-drop, length-take-le}
use lib.Dec.{leb}
use borrow.Author.Tests.{leb-true}
use Rattle.wcsp.proofs.Lists.{and_left, and_right}
use Rattle.cutting.specs.declared.Phase.{Phase}
use Rattle.cutting.specs.declared.Found.{Found}
use Rattle.cutting.specs.Cutting.{Cut, byte_cut, takes_byte, longest_sheet}
use Rattle.cutting.specs.declared.Taken.{Taken}
use Rattle.cutting.specs.Pieces.{Part, going_on, cut_to, end_of, CutsTo}
use Rattle.cutting.proofs.Turns.{byte_leaves}
use Rattle.figures.specs.declared.Figures.{Figures}
use Rattle.figures.specs.Counting.{takes_sheet}
use Rattle.batch.specs.declared.Season.{Season}
use Rattle.batch.specs.Feeding.{LentSeason, after_found, season_takes, byte_taken, fed_byte, fed}
use Rattle.batch.specs.Theorems.{FedInPieces}

pub fed_in_pieces : FedInPieces
unfolding fed
fed_in_pieces f [] ys = refl
fed_in_pieces f (x ∷ xs) ys = fed_in_pieces (fed_byte f x) xs ys

-- a season that takes no byte stays as it is
pub fed-none : (f : LentSeason) (xs : List ℕ) → season_takes f.season (length f.body) ≡ false → fed f xs ≡ f
unfolding fed fed_byte
fed-none f [] e = refl
fed-none f (x ∷ xs) e = rw e (fed-none f xs e)

-- a byte that is taken
pub fed_byte_lem : (f : LentSeason) (x : ℕ) (xs : List ℕ) → season_takes f.season (length f.body) ≡ true
    → fed f (x ∷ xs) ≡ fed (byte_taken f.season f.body x) xs
unfolding fed fed_byte
fed_byte_lem f x xs e = rw e

-- a byte that is taken leaves a phase that takes more, in a buffer as long
pub still_takes_byte : (phase : Phase) (body : List ℕ) (b : ℕ) → takes_byte phase (length body) ≡ true
    → takes_byte (byte_cut phase body b).phase (length (byte_cut phase body b).body) ≡ true
still_takes_byte phase body b e =
    let room = and_left (leb (4 * longest_sheet) (length body)) _ e in
    let left = byte_leaves phase body b (and_right (leb (4 * longest_sheet) (length body)) _ e) in
    rw (left.long, room) left.takes

-- ---- up to the first that brings something to its end

abbrev pub at : Figures → Phase → List ℕ → LentSeason
at figures phase body = record { season = record { phase = phase; figures = figures }; body = body }

abbrev pub after_part : Figures → Part → LentSeason
after_part figures p = record { season = after_found figures p.phase p.body p.found; body = p.body }

-- a byte brings something to its end, or what the rest comes to is what all come to
part_on : (figures : Figures) (c : Cut) (xs : List ℕ) (ahead here : Part) (found : Found) → c.found ≡ found
    → here ≡ record { phase = c.phase; body = c.body; found = c.found; rest = xs }
    → (found ≡ Found.Nothing → fed (at figures c.phase c.body) xs ≡ fed (after_part figures ahead) ahead.rest)
    → fed (record { season = after_found figures c.phase c.body c.found; body = c.body }) xs
    ≡ fed (after_part figures (going_on c.found ahead here)) (going_on c.found ahead here).rest
unfolding after_found going_on
part_on figures c xs ahead here Found.Nothing e h ih = rw e (ih refl)
part_on figures c xs ahead here Found.Length e h ih = rw (e, h, e)
part_on figures c xs ahead here (Found.Sheet end) e h ih = rw (e, h, e)
part_on figures c xs ahead here Found.PassedOver e h ih = rw (e, h, e)

pub fed_part : (figures : Figures) (phase : Phase) (body xs : List ℕ) → takes_byte phase (length body) ≡ true → takes_sheet figures ≡ true
    → fed (at figures phase body) xs ≡ fed (after_part figures (cut_to phase body xs)) (cut_to phase body xs).rest
unfolding cut_to after_found fed
fed_part figures phase body [] e t = refl
fed_part figures phase body (x ∷ xs) e t =
    fed_byte_lem (at figures phase body) x xs (rw (e, t))
    ∙ part_on figures (byte_cut phase body x) xs _ _ (byte_cut phase body x).found refl refl
    (λ quiet. fed_part figures (byte_cut phase body x).phase (byte_cut phase body x).body xs (still_takes_byte phase body x e) t)

-- a sheet that came to its end fits the buffer, which stays as long as it was
record Fits (room : ℕ) (p : Part) : Type 0 where
  sheet : end_of p.found ≤ room
  long : length p.body ≡ room

fits_on : (room : ℕ) (found : Found) (ahead here : Part) → (found ≡ Found.Nothing → Fits room ahead) → Fits room here → Fits room (going_on found ahead here)
unfolding going_on
fits_on room Found.Nothing ahead here f g = f refl
fits_on room Found.Length ahead here f g = g
fits_on room (Found.Sheet end) ahead here f g = g
fits_on room Found.PassedOver ahead here f g = g

part_fits : (phase : Phase) (body xs : List ℕ) → takes_byte phase (length body) ≡ true → Fits (length body) (cut_to phase body xs)
unfolding cut_to end_of
part_fits phase body [] e = record { sheet = omega arith; long = refl }
part_fits phase body (x ∷ xs) e =
    let c = byte_cut phase body x in
    let room = leb-true (4 * longest_sheet) (length body) (and_left (leb (4 * longest_sheet) (length body)) _ e) in
    let left = byte_leaves phase body x (and_right (leb (4 * longest_sheet) (length body)) _ e) in
    fits_on (length body) c.found _ _
    (λ quiet. rw left.long at (part_fits c.phase c.body xs (still_takes_byte phase body x e)))
    (record { sheet = omega (arith, room, left.fits); long = left.long })

-- ---- what a cut took, as it was fed

module _ (s : Season) (body xs left : List ℕ) (taken : Taken) (t : season_takes s (length body) ≡ true) (cuts : CutsTo s.phase body xs taken left) where
  takes_byte_lem : takes_byte s.phase (length body) ≡ true
  takes_byte_lem = and_left (takes_byte s.phase (length body)) (takes_sheet s.figures) t

  pub cut_fits : end_of taken.found ≤ length left
  cut_fits = let f = rw (← cuts.0) at (part_fits s.phase body xs takes_byte_lem) in omega (arith, f.sheet, f.long)

  pub fed_cut : fed (record { season = s; body = body }) xs
      ≡ fed (record { season = after_found s.figures taken.phase left taken.found; body = left }) (drop taken.count xs)
  fed_cut =
      fed_part s.figures s.phase body xs takes_byte_lem (and_right (takes_byte s.phase (length body)) (takes_sheet s.figures) t)
      ∙ ap (λ (p : Part). fed (after_part s.figures p) p.rest) (sym cuts.0)

-- the bytes that are left
pub piece_long : (bytes : List ℕ) (from : ℕ) → length (take (length bytes - from) (drop from bytes)) ≡ length bytes - from
piece_long bytes from = length-take-le (length bytes - from) (drop from bytes) (omega (arith, length-drop from bytes))

-- a turn of the loop
pub fed_again : (f : LentSeason) (s r : Season) (body bytes left : List ℕ) (from : ℕ) (taken : Taken)
    → fed f bytes ≡ fed (record { season = s; body = body }) (drop from bytes) → from ≤ length bytes → season_takes s (length body) ≡ true
    → CutsTo s.phase body (take (length bytes - from) (drop from bytes)) taken left → r ≡ after_found s.figures taken.phase left taken.found
    → fed f bytes ≡ fed (record { season = r; body = left }) (drop (from + taken.count) bytes)
fed_again f s r body bytes left from taken inv h t cuts e =
    let all : take (length bytes - from) (drop from bytes) ≡ drop from bytes = take_all (length bytes - from) (drop from bytes) (omega (arith, length-drop from bytes)) in
    inv ∙ rw (e, ← drop-drop taken.count from bytes) (fed_cut s body (drop from bytes) left taken t (rw all at cuts))

-- no byte is left, or none is taken
pub fed_all : (f g : LentSeason) (bytes : List ℕ) (from : ℕ) → fed f bytes ≡ fed g (drop from bytes) → length bytes ≤ from → g ≡ fed f bytes
unfolding fed
fed_all f g bytes from inv h = sym (rw (drop_of_length-le bytes h) at inv)

pub fed_stopped : (f g : LentSeason) (bytes : List ℕ) (from : ℕ) → fed f bytes ≡ fed g (drop from bytes) → season_takes g.season (length g.body) ≡ false → g ≡ fed f bytes
fed_stopped f g bytes from inv e = sym (inv ∙ fed-none g (drop from bytes) e)

-- a piece that is fed, and the bytes behind it
pub fed_piece : (f g h : LentSeason) (bytes : List ℕ) (from end : ℕ) → fed f bytes ≡ fed g (drop from bytes) → from ≤ end
    → h ≡ fed g (take (end - from) (drop from bytes)) → fed f bytes ≡ fed h (drop end bytes)
fed_piece f g h bytes from end inv l e =
    let last : from + (end - from) ≡ end = omega (arith, l) in
    inv ∙ ap (fed g) (sym (take-append-drop (end - from) (drop from bytes)))
    ∙ fed_in_pieces g (take (end - from) (drop from bytes)) (drop (end - from) (drop from bytes))
    ∙ rw (← e, drop-drop (end - from) from bytes, last)
